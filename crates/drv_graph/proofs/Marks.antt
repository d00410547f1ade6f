-- Marks and owners, as entries are set.
use Rattle.std.proofs.Common.{◌≡◌, ◌∙◌, ℕ, List, [], ◌∷◌, ◌++◌, length, sym, ap, subst, ⊎_elim, nat_eq, Option, Some, None, rules}
use Rattle.std.specs.Prelude.{Contains, slice_get}
use Rattle.std.specs.Cmp.Lexicographic.{pointwise}
use Rattle.std.proofs.lemmas.Option.{same_Some, none-some}
use Rattle.indexmap.specs.IndexMap.{IndexMap, Updates, get}
use Rattle.drv_graph.specs.private.Walks.{AreMarks, SetsEntry}
use Rattle.drv_graph.proofs.PathLists.{other_path, path_cases}
use Rattle.nix_names.proofs.Lists.{Contains-cons_cases, Contains-first, Contains-from_get, Contains-later, Contains-nothing, get_from_contains, get_grows, get_push_cases, get_pushed}

-- what an insert sets
pub sets_entry : {X S : Type 0} (before after : IndexMap (List ℕ) X S) (path : List ℕ) (entry : X)
    → Updates (pointwise nat_eq) before after path (Some entry)
    → SetsEntry (get (pointwise nat_eq) before) (get (pointwise nat_eq) after) path entry
sets_entry before after path entry updates = search (rules, other_path)

-- nothing was met
pub marks_none : (marks : List ℕ → Option (Option ℕ)) → ((path : List ℕ) → marks path ≡ None)
    → AreMarks marks [] []
marks_none marks none = record {
  numbered = λ path number. (
    λ e. absurd (none-some (Some number) (sym (none path) ∙ e)),
    λ e. absurd (none-some path e),
  );
  is_pending = λ path. (
    λ e. absurd (none-some None (sym (none path) ∙ e)),
    λ has. absurd (Contains-nothing _ has),
  );
}

-- a path that has no mark wasn't left, and isn't open
pub new_not_left : (marks : List ℕ → Option (Option ℕ)) (left pending : List (List ℕ))
    (path : List ℕ) → AreMarks marks left pending → marks path ≡ None → Contains left path → ⊥
new_not_left marks left pending path right none has =
    let at = get_from_contains _ _ has in
    none-some (Some at.0) (sym none ∙ (right.numbered path at.0).1 at.1)

pub new_not_pending : (marks : List ℕ → Option (Option ℕ)) (left pending : List (List ℕ))
    (path : List ℕ) → AreMarks marks left pending → marks path ≡ None → Contains pending path → ⊥
new_not_pending marks left pending path right none has = search (rules, none-some)

-- an open path wasn't left
pub pending_not_left : (marks : List ℕ → Option (Option ℕ)) (left pending : List (List ℕ))
    (path : List ℕ) → AreMarks marks left pending → Contains pending path → Contains left path → ⊥
pending_not_left marks left pending path right has old =
    let at = get_from_contains _ _ old in
    let e : Some None ≡ Some (Some at.0) = sym ((right.is_pending path).1 has)
    ∙ (right.numbered path at.0).1 at.1 in
    none-some at.0 (same_Some None (Some at.0) e)

-- a path was opened
pub marks_opened : (marks after : List ℕ → Option (Option ℕ)) (left pending : List (List ℕ))
    (path : List ℕ) → AreMarks marks left pending → marks path ≡ None
    → SetsEntry marks after path None → AreMarks after left (path ∷ pending)
marks_opened marks after left pending path right none sets = record {
  numbered = λ other number. (
    λ e. ⊎_elim (λ same. absurd (numberless other number same e))
        (λ differs. (right.numbered other number).0 (sym (sets.others other differs) ∙ e))
        (path_cases _ _),
    λ e. ⊎_elim (λ same.
        absurd (new_not_left marks _ _ _ right none
        (subst (Contains left) same (Contains-from_get _ _ _ e))))
        (λ differs. sets.others other differs ∙ (right.numbered other number).1 e)
        (path_cases _ _),
  );
  is_pending = λ other. (
    λ e. ⊎_elim (λ same. subst (Contains (path ∷ pending)) (sym same) (Contains-first _ _))
        (λ differs. Contains-later _ _ _
        ((right.is_pending other).0 (sym (sets.others other differs) ∙ e))) (path_cases _ _),
    λ has. ⊎_elim (λ same. ap after (sym same) ∙ sets.here)
        (λ later. ⊎_elim (λ same. ap after same ∙ sets.here)
        (λ differs. sets.others other differs ∙ (right.is_pending other).1 later)
        (path_cases _ _)) (Contains-cons_cases _ _ _ has),
  );
}
  where
    numberless : (other : List ℕ) (number : ℕ) → other ≡ path → after other ≡ Some (Some number) → ⊥
    numberless other number same e = search (rules, none-some, same_Some)

-- the innermost open path was left
pub marks_left : (marks after : List ℕ → Option (Option ℕ)) (left pending : List (List ℕ))
    (path : List ℕ) → AreMarks marks left (path ∷ pending) → (Contains pending path → ⊥)
    → SetsEntry marks after path (Some (length left)) → AreMarks after (left ++ path ∷ []) pending
marks_left marks after left pending path right apart sets = record {
  numbered = λ other number. (
    λ e. ⊎_elim (λ same. at_end other number same e)
        (λ differs. get_grows left (path ∷ []) number _
        ((right.numbered other number).0 (sym (sets.others other differs) ∙ e)))
        (path_cases _ _),
    λ e. ⊎_elim (λ old. before other number old)
        (λ last. ap after (sym last.1) ∙ sets.here ∙ ap (λ n. Some (Some n)) (sym last.0))
        (get_push_cases _ _ _ _ e),
  );
  is_pending = λ other. (
    λ e. ⊎_elim (λ same. absurd (numbered other same e))
        (λ differs. ⊎_elim (λ same. absurd (differs (sym same))) (λ later. later)
        (Contains-cons_cases _ _ _
        ((right.is_pending other).0 (sym (sets.others other differs) ∙ e))))
        (path_cases _ _),
    λ has. sets.others other (λ same. apart (subst (Contains pending) same has))
        ∙ (right.is_pending other).1 (Contains-later _ _ _ has),
  );
}
  where
    at_end : (other : List ℕ) (number : ℕ) → other ≡ path → after other ≡ Some (Some number)
        → slice_get (left ++ path ∷ []) number ≡ Some other
    at_end other number same e = search (rules, same_Some, get_pushed)

    before : (other : List ℕ) (number : ℕ) → slice_get left number ≡ Some other → after other
        ≡ Some (Some number)
    before other number old = search (rules, pending_not_left, Contains-first, Contains-from_get)

    numbered : (other : List ℕ) → other ≡ path → after other ≡ Some None → ⊥
    numbered other same e = search (rules, none-some, same_Some)
