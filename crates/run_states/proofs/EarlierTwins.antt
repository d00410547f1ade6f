-- The earlier twins of a derivation: the nearest of them, after its own.
use Rattle.std.proofs.Common.{◌≡◌, ◌∙◌, ◌⊎◌, inl, inr, ⊎_elim, ℕ, zero, suc, ◌+◌, ◌<◌, ◌&&◌, Bool, true, false, List, [], ◌∷◌, ◌++◌, Option, Some, None, refl, sym, ap, subst, arith, append-nil, rules}
use Rattle.std.specs.Prelude.{Contains, cond, filter, slice_get}
use Rattle.std.specs.List.{list_all, range_with_len}
use Rattle.std.proofs.lemmas.Bool.{and_from, and_parts, and_right, false≢true}
use Rattle.std.proofs.lemmas.List.Elements.{Contains-append_left, Contains-push, filter-append, filter_agree}
use Rattle.nix_names.proofs.Lists.{either_side}
use Rattle.drv_graph.specs.Nodes.{Node}
use Rattle.drv_graph.specs.PlanNodes.{output_paths_of}
use Rattle.valid_table.specs.declared.entry.Entry.{Entry}
use Rattle.run_states.specs.Runs.{Run, Terms, by_cause, earlier_twins, is_valid, is_wanted, own_cause, precondition_at, rows_of, terms_of}
use Rattle.run_states.specs.States.{Rows}
use Rattle.drv_graph.specs.Twins.{are_twins_at}
use Rattle.run_states.specs.declared.state.Event.{Event}
use Rattle.run_states.specs.declared.precondition.Precondition.TheVariants.{AllValid}
use Rattle.run_states.proofs.Seeds.{precondition_all}
use Rattle.run_states.proofs.Tests.{all_pass, list_all_has, range_more, same_test}
use Rattle.run_states.proofs.TwinLaws.{IsEarlierTwin, is_earlier_twin, through, turned, twins_path}

-- ---- twins are alike

no_twin : (a : Option Node) → are_twins_at a None ≡ false
no_twin (Some a) = refl
no_twin None = refl

-- twins have the same twins
same_twins : (a b c : Option Node) → are_twins_at b c ≡ true
    → are_twins_at a b ≡ are_twins_at a c
same_twins a b c are = search (rules, same_test, through, turned)

-- where all outputs of one were valid, those of its twin were
valid_twin : (terms : Terms) (opening : List Entry) (a b : Option Node)
    → are_twins_at a b ≡ true → precondition_at terms opening a ≡ AllValid
    → precondition_at terms opening b ≡ AllValid
valid_twin terms opening (Some a) (Some b) are valid =
    let x = output_paths_of a.drv in
    let y = output_paths_of b.drv in
    let one : list_all (is_valid opening) x ≡ true =
    precondition_all _ _ valid in
    let two : list_all (is_valid opening) y ≡ true =
    all_pass (is_valid opening) y (λ path has.
    list_all_has (is_valid opening) x _ one
    (twins_path b.drv a.drv _ (turned (Some a) (Some b) are) has)) in
    ap (λ all. cond all AllValid (by_cause (own_cause terms opening b.drv))) two
valid_twin terms opening (Some a) None are valid = absurd (false≢true are)
valid_twin terms opening None b are valid = absurd (false≢true are)

-- ---- the numbers below a bound that pass a test

abbrev passing : (ℕ → Bool) → ℕ → List ℕ
passing test n = filter test (range_with_len 0 n)

passing_more : (test : ℕ → Bool) (n : ℕ)
    → passing test (suc n) ≡ passing test n ++ cond (test n) (n ∷ []) []
passing_more test n =
    let next : suc n ≡ n + 1 = omega arith in
    ap (passing test) next ∙ ap (filter test) (range_more n)
    ∙ filter-append test _ _

passing_from : (test : ℕ → Bool) (n t : ℕ) → t < n → test t ≡ true → Contains (passing test n) t
passing_from test zero t low is = absurd (omega arith)
passing_from test (suc n) t low is =
    subst (λ l. Contains l t) (sym (passing_more test n))
    (⊎_elim
    (λ same.
    subst (λ b. Contains (passing test n ++ cond b (n ∷ []) []) t)
    (sym (ap test (sym same) ∙ is))
    (subst (Contains (passing test n ++ n ∷ [])) (sym same) (Contains-push _ n)))
    (λ apart. ⊎_elim
    (λ less. Contains-append_left _ _ t
    (passing_from test n t less is))
    (λ past. absurd (omega arith)) apart)
    (either_side t n))

-- The last number below a bound that passes.
record IsLast (test : ℕ → Bool) (n t : ℕ) : Type 0 where
  below : t < n
  passes : test t ≡ true
  parts : passing test n ≡ passing test t ++ t ∷ []

-- no number passes a test, or there is a last one that does
last_passing : (test : ℕ → Bool) (n : ℕ) → (passing test n ≡ []) ⊎ ((t : ℕ) × IsLast test n t)
last_passing test zero = inl refl
last_passing test (suc n) = by (test n) refl (last_passing test n)
  where
    by : (is : Bool) → test n ≡ is → (passing test n ≡ []) ⊎ ((t : ℕ) × IsLast test n t)
        → (passing test (suc n) ≡ []) ⊎ ((t : ℕ) × IsLast test (suc n) t)
    by true is before = inr (
      n,
      record {
        below = omega arith;
        passes = is;
        parts = passing_more test n ∙ ap (λ b. passing test n ++ cond b (n ∷ []) []) is;
      },
    )
    by false is before =
        let same : passing test (suc n) ≡ passing test n =
        passing_more test n ∙ ap (λ b. passing test n ++ cond b (n ∷ []) []) is
        ∙ append-nil (passing test n) in
        ⊎_elim (λ none. inl (same ∙ none))
        (λ last. inr (
          last.0,
          record {
            below = let low = last.1.below in omega arith;
            passes = last.1.passes;
            parts = same ∙ last.1.parts;
          },
        )) before

passing_none : (test : ℕ → Bool) (n : ℕ) → ((k : ℕ) → test k ≡ false) → passing test n ≡ []
passing_none test n none = by (last_passing test n)
  where
    by : (passing test n ≡ []) ⊎ ((t : ℕ) × IsLast test n t) → passing test n ≡ []
    by (inl is) = is
    by (inr (t, last)) = search (rules, false≢true)

-- ---- the earlier twins

-- Of each derivation, the earlier twins.
pub record HaveTwins (rows : Rows) : Type 0 where
  pub first : (d t : ℕ) → Contains (rows.twins d) t → t < d
  pub shared : (d t u : ℕ) → Contains (rows.twins d) t → Contains (rows.twins t) u
      → Contains (rows.twins d) u
  pub last : (d : ℕ) → (rows.twins d ≡ [])
      ⊎ ((t : ℕ) × (rows.twins d ≡ rows.twins t ++ t ∷ []))
  pub valid : (d t : ℕ) → Contains (rows.twins d) t → rows.precondition t ≡ AllValid
      → rows.precondition d ≡ AllValid

module _ (run : Run) (opening : List Entry) where
  abbrev node : ℕ → Option Node
  node d = slice_get run.graph.nodes d

  abbrev is_twin : (d t : ℕ) → Bool
  is_twin d t = is_wanted run opening t && are_twins_at (node t) (node d)

  twins_are : (d : ℕ) → earlier_twins run opening d ≡ passing (is_twin d) d
  unfolding earlier_twins
  twins_are d = refl

  has_twin : (d t : ℕ) → Contains (earlier_twins run opening d) t
      → IsEarlierTwin run opening d t
  has_twin = is_earlier_twin _ _

  is_twin_same : (d t : ℕ) → are_twins_at (node t) (node d) ≡ true → (u : ℕ)
      → is_twin t u ≡ is_twin d u
  is_twin_same d t are u = search (rules, same_twins, node)

  pub twins_first : (d t : ℕ) → Contains (earlier_twins run opening d) t → t < d
  twins_first d t has = (has_twin d t has).earlier

  -- a wanted twin of a smaller number is one
  pub twins_from : (d t : ℕ) → t < d → is_twin d t ≡ true → Contains (earlier_twins run opening d) t
  twins_from d t less is = subst (λ l. Contains l t) (sym (twins_are d))
      (passing_from (is_twin d) d t less is)

  twins_shared : (d t u : ℕ) → Contains (earlier_twins run opening d) t
      → Contains (earlier_twins run opening t) u → Contains (earlier_twins run opening d) u
  twins_shared d t u has more =
      let one = has_twin d t has in
      let two = has_twin t u more in
      subst (λ l. Contains l u) (sym (twins_are d))
      (passing_from (is_twin d) d u
      (let below = one.earlier in let lower = two.earlier in omega arith)
      (and_from (is_wanted run opening u) (are_twins_at (node u) (node d)) two.wanted
      (through (node u) (node t) (node d) two.twins one.twins)))

  twins_last : (d : ℕ) → (earlier_twins run opening d ≡ [])
      ⊎ ((t : ℕ) × (earlier_twins run opening d ≡ earlier_twins run opening t ++ t ∷ []))
  twins_last d =
      search (
        rules,
        twins_are,
        is_twin,
        passing,
        filter_agree,
        is_twin_same,
        and_parts,
        node,
        last_passing,
      )

  twins_valid : (d t : ℕ) → Contains (earlier_twins run opening d) t
      → precondition_at (terms_of run) opening (node t) ≡ AllValid
      → precondition_at (terms_of run) opening (node d) ≡ AllValid
  twins_valid d t has = search (rules, valid_twin, node, has_twin)

  -- whatever happened in a run
  pub run_twins : (events : List Event) → HaveTwins (rows_of run opening events)
  run_twins events = record {
    first = twins_first;
    shared = twins_shared;
    last = twins_last;
    valid = twins_valid;
  }

  -- what is no derivation of the plan has no earlier twins
  pub twins_past : (d : ℕ) → slice_get run.graph.nodes d ≡ None → earlier_twins run opening d ≡ []
  twins_past d past = twins_are d ∙ passing_none (is_twin d) d (λ t. alone t)
    where
      alone : (t : ℕ) → is_twin d t ≡ false
      alone t = search (rules, and_right, node, no_twin)
