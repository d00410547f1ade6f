-- How the numbers are marked to which links lead.
use Rattle.std.proofs.Common.{◌≡◌, ◌∙◌, ◌⊎◌, inl, inr, ⊎_elim, ℕ, ◌+◌, ◌<◌, Bool, true, false, List, [], ◌∷◌, ◌++◌, length, get_or, map, Option, Some, None, refl, sym, ap, subst, length-append, arith}
use Rattle.std.specs.Prelude.{All, Contains}
use Rattle.std.specs.Global.{Vec}
use Rattle.std.specs.List.{slice_get, sum_by}
use Rattle.std.proofs.Math.ListN.{set, length-set}
use Rattle.std.proofs.lemmas.Bool.{false≢true}
use Rattle.std.proofs.lemmas.List.{length-map}
use Rattle.std.proofs.lemmas.List.Elements.{Contains-append_left, Contains-push, Contains-push_cases}
use Rattle.std.proofs.lemmas.List.Sums.{sum_by-set}
use Rattle.std.proofs.lemmas.Option.{get_or_from_slice_get, slice_get_within}
use Rattle.build_outcome.specs.private.Reaching.{AreReached, IsMarked, IsReaching, MarksAll, pending}
use Rattle.build_outcome.specs.private.Walking.{AreInner, Goes, IsLinked, goes_nowhere, goes_on}
use Rattle.build_outcome.proofs.Indices.{set_cases, set_other, set_same}
use Rattle.nix_names.proofs.Lists.{All-from_contains, Contains-cons_cases, Contains-first, Contains-nothing, either_side, element_at, get_source, same_element}

-- ---- marks

marked_here : (marks : List Bool) (i : ℕ) → i < length marks → IsMarked (set marks i true) i
marked_here marks i low =
    let here = element_at marks i low in set_same marks i here.0 true here.1

marked_still : (marks : List Bool) (i n : ℕ) → i < length marks → IsMarked marks n
    → IsMarked (set marks i true) n
marked_still marks i n low is = ⊎_elim
    (λ e. subst (IsMarked (set marks i true)) e (marked_here marks i low))
    (λ apart. set_other marks i n true true
    (λ e. ⊎_elim (λ below. absurd (omega arith)) (λ above. absurd (omega arith)) apart) is)
    (either_side i n)

marked_cases : (marks : List Bool) (i n : ℕ) → IsMarked (set marks i true) n
    → (n ≡ i) ⊎ IsMarked marks n
marked_cases marks i n is =
    ⊎_elim (λ h. inl h.0) (λ h. inr h.1) (set_cases marks i n true true is)

decided : (marks : List Bool) (n : ℕ) → IsMarked marks n ⊎ (IsMarked marks n → ⊥)
decided marks n = by (slice_get marks n) refl
  where
    by : (o : Option Bool) → slice_get marks n ≡ o → IsMarked marks n ⊎ (IsMarked marks n → ⊥)
    by None e = inr (λ is. let clash : None ≡ Some true = sym e ∙ is in absurd cc)
    by (Some true) e = inl e
    by (Some false) e = inr (λ is. let clash : Some false ≡ Some true = sym e ∙ is in absurd cc)

unmarked : (links : List (Vec ℕ)) (n : ℕ) → IsMarked (map (λ (own : Vec ℕ). false) links) n → ⊥
unmarked links n is = false≢true (get_source (λ (own : Vec ℕ). false) links n true is).2

-- ---- some numbers are marked

pub marks_none : (before : List Bool) (left : List ℕ) → MarksAll [] before before left left
marks_none before left = record {
  count = refl;
  marked = λ n. (
    inl,
    λ h. ⊎_elim (λ is. is) (λ has. absurd (Contains-nothing n has)) h,
  );
  waiting = λ n. (inl, λ h. ⊎_elim (λ has. has) (λ new. absurd (new.1 new.0)) h);
  measure = refl;
}

pub marks_old : (numbers : List ℕ) (number : ℕ) (before after : List Bool) (left later : List ℕ)
    → MarksAll numbers before after left later → IsMarked after number
    → MarksAll (numbers ++ number ∷ []) before after left later
marks_old numbers number before after left later was here = record {
  count = was.count;
  marked = λ n. (
    λ is. ⊎_elim inl (λ has. inr (Contains-append_left _ _ _ has)) ((was.marked n).0 is),
    λ h. ⊎_elim
        (λ is. (was.marked n).1 (inl is))
        (λ has. ⊎_elim
        (λ earlier. (was.marked n).1 (inr earlier))
        (λ e. subst (IsMarked after) e here)
        (Contains-push_cases _ _ _ has))
        h,
  );
  waiting = was.waiting;
  measure = was.measure;
}

pub marks_new : (numbers : List ℕ) (number : ℕ) (before after : List Bool) (left later : List ℕ)
    → MarksAll numbers before after left later → slice_get after number ≡ Some false
    → MarksAll (numbers ++ number ∷ []) before (set after number true) left (later ++ number ∷ [])
marks_new numbers number before after left later was at =
    let low : number < length after = slice_get_within after number false at in
    let apart : IsMarked after number → ⊥ =
    λ is. let clash : Some false ≡ Some true = sym at ∙ is in absurd cc in
    record {
      count = length-set after number true ∙ was.count;
      marked = λ n. (
        λ is. ⊎_elim
            (λ e. inr (subst (Contains (numbers ++ number ∷ [])) (sym e) (Contains-push _ _)))
            (λ old. ⊎_elim inl (λ has. inr (Contains-append_left _ _ _ has)) ((was.marked n).0 old))
            (marked_cases after number n is),
        λ h. ⊎_elim
            (λ is. marked_still after number n low ((was.marked n).1 (inl is)))
            (λ has. ⊎_elim
            (λ earlier. marked_still after number n low ((was.marked n).1 (inr earlier)))
            (λ e. subst (IsMarked (set after number true)) e (marked_here after number low))
            (Contains-push_cases _ _ _ has))
            h,
      );
      waiting = λ n. (
        λ has. ⊎_elim
            (λ earlier. ⊎_elim inl (λ new. inr (marked_still after number n low new.0, new.1))
            ((was.waiting n).0 earlier))
            (λ e. inr (
              subst (IsMarked (set after number true)) e (marked_here after number low),
              λ is. apart ((was.marked number).1 (inl (subst (IsMarked before) (sym e) is))),
            ))
            (Contains-push_cases _ _ _ has),
        λ h. ⊎_elim
            (λ has. Contains-append_left _ _ _ ((was.waiting n).1 (inl has)))
            (λ new. ⊎_elim
            (λ e. subst (Contains (later ++ number ∷ [])) (sym e) (Contains-push _ _))
            (λ old. Contains-append_left _ _ _ ((was.waiting n).1 (inr (old, new.1))))
            (marked_cases after number n new.0))
            h,
      );
      measure = measured;
    }
  where
    measured : sum_by pending (set after number true) + length (later ++ number ∷ [])
        ≡ sum_by pending before + length left
    measured =
        let low : number < length after = slice_get_within after number false at in
        let less = sum_by-set pending after number true false low in
        let here : get_or after number false ≡ false = get_or_from_slice_get after number false false at in
        let one : pending (get_or after number false) ≡ 1 = ap pending here in
        omega (arith, less, one, length-append later (number ∷ []), was.measure)

-- ---- a walk

goes_further : (links : List (Vec ℕ)) (from to next : ℕ) → Goes links from to
    → IsLinked links to next → Goes links from next
goes_further links _ _ next (goes_nowhere n) linked =
    goes_on n next next linked (goes_nowhere next)
goes_further links _ _ next (goes_on from mid to first rest) linked =
    goes_on from mid next first (goes_further links mid to next rest linked)

pub reaching_begun : (links : List (Vec ℕ)) (marks : List Bool) (start : ℕ) → start < length links
    → marks ≡ map (λ (own : Vec ℕ). false) links
    → IsReaching links start (set marks start true) (start ∷ [])
reaching_begun links marks start low none =
    let long : length marks ≡ length links = ap length none
    ∙ length-map links (λ (own : Vec ℕ). false) in
    let within : start < length marks = omega (arith, low, long) in
    let nothing : (n : ℕ) → IsMarked marks n → ⊥ =
    λ n is. unmarked links n (subst (λ (m : List Bool). IsMarked m n) none is) in
    record {
      count = length-set marks start true ∙ long;
      begun = marked_here marks start within;
      sound = λ n is. ⊎_elim
          (λ e. subst (Goes links start) (sym e) (goes_nowhere start))
          (λ old. absurd (nothing n old))
          (marked_cases marks start n is);
      known = λ n has. ⊎_elim
          (λ e. subst (IsMarked (set marks start true)) e (marked_here marks start within))
          (λ none. absurd (Contains-nothing n none))
          (Contains-cons_cases start [] n has);
      passed = λ from to is linked. ⊎_elim
          (λ e. inl (subst (Contains (start ∷ [])) (sym e) (Contains-first start [])))
          (λ old. absurd (nothing from old))
          (marked_cases marks start from is);
    }

pub reaching_step : (links : List (Vec ℕ)) (start top : ℕ) (own : Vec ℕ) (marks after : List Bool)
    (rest later : List ℕ) → IsReaching links start marks (rest ++ top ∷ [])
    → slice_get links top ≡ Some own → MarksAll own.items marks after rest later
    → IsReaching links start after later
reaching_step links start top own marks after rest later was at adds = record {
  count = adds.count ∙ was.count;
  begun = (adds.marked start).1 (inl was.begun);
  sound = λ n is. ⊎_elim
      (λ old. was.sound n old)
      (λ has. goes_further links start top n
      (was.sound top (was.known top (Contains-push rest top))) (own, at, has))
      ((adds.marked n).0 is);
  known = λ n has. ⊎_elim
      (λ earlier. (adds.marked n).1 (inl (was.known n (Contains-append_left _ _ _ earlier))))
      (λ new. new.0)
      ((adds.waiting n).0 has);
  passed = passed;
}
  where
    through : (from to : ℕ) → top ≡ from → IsLinked links from to → IsMarked after to
    through from to e (own', at', has) =
        let same : own' ≡ own = same_element links top own' own
        (subst (λ n. slice_get links n ≡ Some own') (sym e) at') at in
        (adds.marked to).1 (inr (subst (λ (v : Vec ℕ). Contains v.items to) same has))

    passed : (from to : ℕ) → IsMarked after from → IsLinked links from to
        → Contains later from ⊎ IsMarked after to
    passed from to is linked = ⊎_elim
        (λ old. ⊎_elim
        (λ waits. ⊎_elim
        (λ earlier. inl ((adds.waiting from).1 (inl earlier)))
        (λ e. inr (through from to e linked))
        (Contains-push_cases rest top from waits))
        (λ done. inr ((adds.marked to).1 (inl done)))
        (was.passed from to old linked))
        (λ new. inl ((adds.waiting from).1 (inr (is, new))))
        (decided marks from)

pub reaching_done : (links : List (Vec ℕ)) (start : ℕ) (marks : List Bool) (left : List ℕ)
    → IsReaching links start marks left → left ≡ [] → AreReached links start marks
reaching_done links start marks left was none = record {
  count = was.count;
  each = λ n. (was.sound n, whole start n was.begun);
}
  where
    whole : (from to : ℕ) → IsMarked marks from → Goes links from to → IsMarked marks to
    whole _ _ is (goes_nowhere n) = is
    whole _ _ is (goes_on from next to linked rest) = whole next to
        (⊎_elim
        (λ waits. absurd (Contains-nothing from
        (subst (λ (l : List ℕ). Contains l from) none waits)))
        (λ done. done)
        (was.passed from next is linked)) rest

-- the numbers to which a number is linked have marks
pub numbers_within : (links : List (Vec ℕ)) (marks : List Bool) (top : ℕ) (own : Vec ℕ)
    → AreInner links → length marks ≡ length links → slice_get links top ≡ Some own
    → All (λ n. n < length marks) own.items
numbers_within links marks top own inner count at =
    All-from_contains (λ n. n < length marks) own.items
    (λ n has. let low = inner top n (own, at, has) in omega (arith, low, count))

pub waiting_within : (links : List (Vec ℕ)) (start top : ℕ) (marks : List Bool) (rest : List ℕ)
    → IsReaching links start marks (rest ++ top ∷ []) → top < length links
waiting_within links start top marks rest was =
    omega (arith, slice_get_within marks top true (was.known top (Contains-push rest top)), was.count)

pub nothing_waits : (left : List ℕ) → length left ≡ 0 → left ≡ []
nothing_waits [] none = refl
nothing_waits (x ∷ xs) none = absurd (omega arith)
