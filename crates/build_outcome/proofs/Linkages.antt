-- The links among outputs, by the indices of their paths.
use Rattle.std.proofs.Common.{◌≡◌, ◌∙◌, ◌⊎◌, inl, inr, ⊎_elim, ℕ, ◌+◌, ◌<◌, ◌≤◌, Bool, true, false, cond, List, [], ◌∷◌, ◌++◌, length, take, get_or, nat_eq, position, is_some, Option, Some, None, MatchOption, refl, sym, ap, subst, arith, rules}
use Rattle.std.specs.Prelude.{Contains}
use Rattle.std.specs.Cmp.Lexicographic.{nat_list_eq_equiv, pointwise}
use Rattle.std.specs.Global.{Vec}
use Rattle.std.specs.List.{IsDistinct, list_any, slice_get}
use Rattle.std.proofs.Math.ListN.{set, length-set}
use Rattle.std.proofs.Math.Nat.{eq-or-lt_of_le}
use Rattle.std.proofs.lemmas.Bool.{false≢true}
use Rattle.std.proofs.lemmas.List.{take_all}
use Rattle.std.proofs.lemmas.List.Elements.{Contains-append_left, Contains-push, Contains-push_cases}
use Rattle.std.proofs.lemmas.List.Quantifiers.{position-Some}
use Rattle.std.proofs.lemmas.Map.Keys.{apart_from_distinct}
use Rattle.std.proofs.lemmas.Map.Views.{list_any-from_Contains}
use Rattle.std.proofs.lemmas.Option.{get_or_from_slice_get, slice_get-get_or, slice_get_within}
use Rattle.indexmap.specs.IndexSet.{insert_key}
use Rattle.indexmap.proofs.CallerLemmas.{Contains-insert_key}
use Rattle.nix_names.proofs.RisingLists.{equal_from_eq, unequal_from_eq}
use Rattle.valid_table.specs.PathInfos.{PathInfo}
use Rattle.build_outcome.specs.private.Linking.{AddsLinks, AreEachOnce, AreLinks, HaveLinks, HaveNoLinks, MayLink}
use Rattle.build_outcome.specs.private.Walking.{AreInner, IsLinked}
use Rattle.build_outcome.proofs.Indices.{set_cases, set_other, set_same}
use Rattle.nix_names.proofs.Lists.{Contains-from_get, either_side, get_push_cases, same_element, taken_more}

-- ---- indices of distinct paths

pub same_key : (keys : List (List ℕ)) → IsDistinct (pointwise nat_eq) keys
    → (i j : ℕ) (path : List ℕ) → slice_get keys i ≡ Some path → slice_get keys j ≡ Some path → i
    ≡ j
same_key keys distinct i j path at at' =
    ⊎_elim (λ e. e)
    (λ apart. ⊎_elim
    (λ below. absurd (ordered i j below at at'))
    (λ below. absurd (ordered j i below at' at))
    apart)
    (either_side i j)
  where
    ordered : (a b : ℕ) → a < b → slice_get keys a ≡ Some path → slice_get keys b ≡ Some path → ⊥
    ordered a b below here there =
        let differ = apart_from_distinct (pointwise nat_eq) _ a b [] distinct below
        (slice_get_within keys b path there) in
        unequal_from_eq _ _ differ
        (get_or_from_slice_get _ a _ [] here
        ∙ sym (get_or_from_slice_get _ b _ [] there))

-- what a look-up answers is the index of the path, or that it is none of the keys
pub index_found : (keys : List (List ℕ)) (path : List ℕ) (r : Option ℕ) → r
    ≡ position (pointwise nat_eq path) keys → is_some r ≡ list_any (pointwise nat_eq path) keys
    → MatchOption r (Contains keys path → ⊥) (λ n. slice_get keys n ≡ Some path)
index_found keys path None is found = λ has. false≢true
    (found ∙ list_any-from_Contains nat_list_eq_equiv _ _ has)
index_found keys path (Some n) is found =
    let at = position-Some (pointwise nat_eq path) _ n [] (sym is) in
    slice_get-get_or _ n [] at.0 ∙ ap Some (sym (equal_from_eq _ _ at.1))

-- ---- the paths, each once

insert_cases : (keys : List (List ℕ)) (key path : List ℕ)
    → Contains (insert_key (pointwise nat_eq) keys key) path → Contains keys path ⊎ (key ≡ path)
insert_cases keys key path = by (list_any (pointwise nat_eq key) keys)
  where
    by : (b : Bool) → Contains (cond b keys (keys ++ key ∷ [])) path → Contains keys path
        ⊎ (key ≡ path)
    by true has = inl has
    by false has = Contains-push_cases _ _ _ has

insert_keeps : (keys : List (List ℕ)) (key path : List ℕ) → Contains keys path
    → Contains (insert_key (pointwise nat_eq) keys key) path
insert_keeps keys key path has = by (list_any (pointwise nat_eq key) keys)
  where
    by : (b : Bool) → Contains (cond b keys (keys ++ key ∷ [])) path
    by true = has
    by false = Contains-append_left _ _ _ has

pub once_none : (keys : List (List ℕ)) → keys ≡ [] → IsDistinct (pointwise nat_eq) keys
    → AreEachOnce [] keys
once_none keys is distinct = search rules

pub once_more : (outputs : List (List ℕ)) (i : ℕ) (output copy : List ℕ) (keys new : List (List ℕ))
    → i < length outputs → output ≡ get_or outputs i output → copy ≡ output
    → AreEachOnce (take i outputs) keys
    → new ≡ insert_key (pointwise nat_eq) keys copy → IsDistinct (pointwise nat_eq) new
    → AreEachOnce (take (i + 1) outputs) new
once_more outputs i output copy keys new below is same before new_is distinct =
    let old = take i outputs in
    let more : take (i + 1) outputs ≡ old ++ copy
    ∷ [] = taken_more _ i _ below (same ∙ is ∙ ap (get_or outputs i) (sym same)) in
    record {
      distinct = distinct;
      same = λ path. (
        λ has. subst (λ (l : List (List ℕ)). Contains l path) (sym more)
            (⊎_elim
            (λ earlier. Contains-append_left _ _ _ ((before.same path).0 earlier))
            (λ e. subst (Contains (old ++ copy ∷ [])) e (Contains-push _ _))
            (insert_cases _ _ _
            (subst (λ (l : List (List ℕ)). Contains l path) new_is has))),
        λ has. subst (λ (l : List (List ℕ)). Contains l path) (sym new_is)
            (⊎_elim
            (λ earlier. insert_keeps _ _ _ ((before.same path).1 earlier))
            (λ e. subst (Contains (insert_key (pointwise nat_eq) keys copy)) e
            (Contains-insert_key (pointwise nat_eq) equal_from_eq _ _))
            (Contains-push_cases _ _ _
            (subst (λ (l : List (List ℕ)). Contains l path) more has))),
      );
    }

pub once_all : (outputs : List (List ℕ)) (i : ℕ) (keys : List (List ℕ)) → length outputs ≤ i
    → AreEachOnce (take i outputs) keys → AreEachOnce outputs keys
once_all outputs i keys all once = search (rules, take_all)

-- ---- links of one output

pub adds_none : (keys : List (List ℕ)) (old : List ℕ) → AddsLinks keys [] old old
adds_none keys old n = search rules

pub adds_index : (keys references : List (List ℕ)) (path : List ℕ) (old before new : List ℕ)
    (to : ℕ) → IsDistinct (pointwise nat_eq) keys → AddsLinks keys references old before
    → slice_get keys to ≡ Some path → new ≡ before ++ to ∷ []
    → AddsLinks keys (references ++ path ∷ []) old new
adds_index keys references path old before new to distinct prior at is n = (
  λ has. ⊎_elim
      (λ earlier. ⊎_elim inl
      (λ h. inr (h.0, h.1, Contains-append_left _ _ _ h.2))
      ((prior n).0 earlier))
      (λ (e : to ≡ n). inr (
        path,
        subst (λ k. slice_get keys k ≡ Some path) e at,
        Contains-push _ _,
      ))
      (Contains-push_cases _ _ n (subst (λ (l : List ℕ). Contains l n) is has)),
  λ h. subst (λ (l : List ℕ). Contains l n) (sym is)
      (⊎_elim
      (λ earlier. Contains-append_left _ _ n ((prior n).1 (inl earlier)))
      (λ f. ⊎_elim
      (λ earlier. Contains-append_left _ _ n ((prior n).1 (inr (f.0, f.1, earlier))))
      (λ e. let index : to ≡ n = same_key _ distinct _ n _ at
      (subst (λ (p : List ℕ). slice_get keys n ≡ Some p) (sym e) f.1)
      in subst (Contains (before ++ to ∷ [])) index (Contains-push _ _))
      (Contains-push_cases _ _ _ f.2))
      h),
)

pub adds_no_index : (keys references : List (List ℕ)) (path : List ℕ) (old before : List ℕ)
    → AddsLinks keys references old before → (Contains keys path → ⊥)
    → AddsLinks keys (references ++ path ∷ []) old before
adds_no_index keys references path old before prior none n = (
  λ has. ⊎_elim inl (λ h. inr (h.0, h.1, Contains-append_left _ _ _ h.2))
      ((prior n).0 has),
  λ h. ⊎_elim
      (λ earlier. (prior n).1 (inl earlier))
      (λ f. ⊎_elim
      (λ earlier. (prior n).1 (inr (f.0, f.1, earlier)))
      (λ e. absurd (none
      (Contains-from_get _ n _
      (subst (λ (p : List ℕ). slice_get keys n ≡ Some p) (sym e) f.1))))
      (Contains-push_cases _ _ _ f.2))
      h,
)

-- one more path of a list
-- ---- links of all outputs

pub links_none : (paths : List (List ℕ)) (infos : List PathInfo) (keys : List (List ℕ))
    (links : List (Vec ℕ)) → length links ≡ length keys → HaveNoLinks links
    → AreLinks paths infos keys 0 links
links_none paths infos keys links count none = record {
  lengths = count;
  sound = λ from to linked. absurd (none from to linked);
  whole = λ from to a b at at' may. absurd (omega (arith, may.2));
}

widened : (paths : List (List ℕ)) (infos : List PathInfo) (count more : ℕ) (a b : List ℕ) → count
    ≤ more → MayLink paths infos count a b → MayLink paths infos more a b
widened paths infos count more a b up (n, info, below, at, at', has) = search rules

-- a link stays where a number is given more links
linked_set : (links : List (Vec ℕ)) (i : ℕ) (own new : Vec ℕ) (from to : ℕ) → slice_get links i
    ≡ Some own → ((n : ℕ) → Contains own.items n → Contains new.items n) → IsLinked links from to
    → IsLinked (set links i new) from to
linked_set links i own new from to at more (old, has, leads) =
    ⊎_elim
    (λ e.
    let same : old ≡ own = same_element _ i _ _
    (subst (λ k. slice_get links k ≡ Some old) e has) at in (
      new,
      subst (λ k. slice_get (set links i new) k ≡ Some new) (sym e)
          (set_same _ i _ _ at),
      more to
          (subst (λ (v : Vec ℕ). Contains v.items to) same leads),
    ))
    (λ apart. (old, set_other _ i _ _ _ apart has, leads))
    (elim (either_side _ i) [
      | inl e ↦ inl e
      | inr h ↦ inr
          (λ e. ⊎_elim (λ below. absurd (omega arith)) (λ above. absurd (omega arith)) h)
    ])

pub links_more : (paths : List (List ℕ)) (infos : List PathInfo) (keys : List (List ℕ)) (count : ℕ)
    (links after : List (Vec ℕ)) (path : List ℕ) (info : PathInfo) (index : ℕ) (own new : Vec ℕ)
    → AreEachOnce paths keys → AreLinks paths infos keys count links → slice_get paths count
    ≡ Some path → slice_get infos count ≡ Some info → slice_get keys index ≡ Some path
    → slice_get links index ≡ Some own → AddsLinks keys info.references own.items new.items → after
    ≡ set links index new → AreLinks paths infos keys (count + 1) after
links_more paths infos keys count links after path info index own new once was path_at info_at
    key_at own_at adds is =
    subst (AreLinks paths infos keys (count + 1)) (sym is) (record {
      lengths = length-set links index new ∙ was.lengths;
      sound = sound;
      whole = whole;
    })
  where
    sound : (from to : ℕ) → IsLinked (set links index new) from to
        → (a : List ℕ) × (b : List ℕ) × (slice_get keys from ≡ Some a)
        × (slice_get keys to ≡ Some b) × MayLink paths infos (count + 1) a b
    sound from to (own', at, has) = ⊎_elim
        (λ h. ⊎_elim
        (λ earlier. old index to (own, own_at, earlier) from h.0)
        (λ f. (
          path,
          f.0,
          subst (λ k. slice_get keys k ≡ Some path) (sym h.0) key_at,
          f.1,
          (count, info, omega arith, path_at, info_at, f.2),
        ))
        ((adds to).0 (subst (λ (v : Vec ℕ). Contains v.items to) h.1 has)))
        (λ h. old from to (own', h.1, has) from refl)
        (set_cases links index from new own' at)
      where
        old : (from to : ℕ) → IsLinked links from to → (n : ℕ) → n ≡ from
            → (a : List ℕ) × (b : List ℕ) × (slice_get keys n ≡ Some a)
            × (slice_get keys to ≡ Some b) × MayLink paths infos (count + 1) a b
        old from to linked n e =
            let h = was.sound from to linked in (
              h.0,
              h.1,
              subst (λ k. slice_get keys k ≡ Some h.0) (sym e) h.2,
              h.3,
              widened paths infos count (count + 1) h.0 h.1 (omega arith) h.4,
            )

    whole : (from to : ℕ) (a b : List ℕ) → slice_get keys from ≡ Some a → slice_get keys to ≡ Some b
        → MayLink paths infos (count + 1) a b → IsLinked (set links index new) from to
    whole from to a b at at' (n, info', below, here, has, refers) = ⊎_elim
        (λ e.
        let is_path : a ≡ path = same_element paths count a path
        (subst (λ k. slice_get paths k ≡ Some a) e here) path_at in
        let is_info : info' ≡ info = same_element infos count info' info
        (subst (λ k. slice_get infos k ≡ Some info') e has) info_at in
        let is_index : from ≡ index = same_key keys once.distinct from index path
        (subst (λ (q : List ℕ). slice_get keys from ≡ Some q) is_path at) key_at in
        let there : Contains new.items to = (adds to).1
        (inr (b, at', subst (λ (i : PathInfo). Contains i.references b) is_info refers)) in (
          new,
          subst (λ k. slice_get (set links index new) k ≡ Some new) (sym is_index)
              (set_same links index own new own_at),
          there,
        ))
        (λ less. linked_set links index own new from to own_at
        (λ k earlier. (adds k).1 (inl earlier))
        (was.whole from to a b at at' (n, info', omega arith, here, has, refers)))
        (eq-or-lt_of_le {n = n} {m = count} (omega arith))

-- no list of none has a link
pub no_links_more : (links after : List (Vec ℕ)) (own : Vec ℕ) → HaveNoLinks links → own.items ≡ []
    → after ≡ links ++ own ∷ [] → HaveNoLinks after
no_links_more links after own none empty is from to (other, at, has) =
    by_case links own none empty from to other
    (subst (λ (l : List (Vec ℕ)). slice_get l from ≡ Some other) is at) has
  where
    by_case : (links : List (Vec ℕ)) (own : Vec ℕ) → HaveNoLinks links → own.items ≡ []
        → (from to : ℕ) (other : Vec ℕ) → slice_get (links ++ own ∷ []) from ≡ Some other
        → Contains other.items to → ⊥
    by_case links own none empty from to other at has = ⊎_elim
        (λ front. none from to (other, front, has))
        (λ h. let gone : Contains [] to = subst (λ (l : List ℕ). Contains l to)
        (ap (λ (v : Vec ℕ). v.items) (sym h.1) ∙ empty) has in omega (arith, gone.1))
        (get_push_cases _ _ from other at)

pub links_inner : (paths : List (List ℕ)) (infos : List PathInfo) (links : List (Vec ℕ))
    → HaveLinks paths infos links → AreInner links
links_inner paths infos links have from to linked =
    let h = have.are.sound from to linked in omega
    (arith, slice_get_within have.keys to h.1 h.3, have.are.lengths)

pub links_inner_of : (paths : List (List ℕ)) (infos : List PathInfo) (keys : List (List ℕ))
    (count : ℕ) (links : List (Vec ℕ)) → AreEachOnce paths keys
    → AreLinks paths infos keys count links → AreInner links
links_inner_of paths infos keys count links once are from to linked =
    let h = are.sound from to linked in omega
    (arith, slice_get_within keys to h.1 h.3, are.lengths)
