-- Rows to which the rows of more paths are added.
use Rattle.std.proofs.lemmas.Grind.{common_steps}
use Rattle.std.proofs.Common.{◌≡◌, ℕ, ◌<◌, ◌+◌, take, map, get_or, refl, Bool, true, false, cond, List, [], ◌∷◌, ◌++◌, length, nat_eq, sym, ap, subst, ◌∙◌, append_assoc, All, Contains, rules, arith}
use Rattle.std.specs.List.{IsDistinct}
use Rattle.std.proofs.lemmas.Bool.Decides.{Decides-eqb}
use Rattle.std.proofs.lemmas.List.{map-append, take_more}
use Rattle.std.proofs.lemmas.List.Elements.{All-append, All-cons, All-map, All-nil, All-push, All-weaker, Contains-append_left, Contains-push}
use Rattle.indexmap.specs.IndexSet.{insert_key}
use Rattle.indexmap.proofs.CallerLemmas.{Contains-insert_key}
use Rattle.nix_names.proofs.Lists.{Contains-map}
use Rattle.valid_table.specs.private.Closing.{AddsRows, IsRowOf, path_at, paths_at}
use Rattle.valid_table.specs.Valid.{IsValid}
use Rattle.valid_table.specs.declared.entry.Registration.{Registration}

-- What is there when a row was added to some: nothing but that row was added, and it is there.
pub record Inserted (row : ℕ) (old new : List ℕ) : Type 0 where
  pub added : List ℕ
  pub parts : new ≡ old ++ added
  pub only : All (λ r. r ≡ row) added
  pub there : Contains new row

inserted_by : (row : ℕ) (old : List ℕ) (is_there : Bool)
    → Contains (cond is_there old (old ++ row ∷ [])) row
    → Inserted row old (cond is_there old (old ++ row ∷ []))
inserted_by row old true has = search (rules, All-nil)
inserted_by row old false has = search (rules, All-cons, All-nil)

pub inserted : (row : ℕ) (old new : List ℕ) → new ≡ insert_key nat_eq old row → Inserted row old new
inserted row old new is =
    subst (Inserted row old) (sym is)
    (inserted_by _ _ _
    (Contains-insert_key nat_eq (λ x y. (Decides-eqb x y).0) _ _))

-- paths of rows stay when rows are added
pub paths_kept : (registrations : List Registration) (old added new : List ℕ) → new ≡ old ++ added
    → (path : List ℕ) → Contains (paths_at registrations old) path
    → Contains (paths_at registrations new) path
paths_kept registrations old added new parts path has =
    grind (arith, common_steps, map-append, Contains-append_left)

asked_more : (paths : List (List ℕ)) (path : List ℕ) (some : List (List ℕ))
    → All (Contains paths) some → All (Contains (paths ++ path ∷ [])) some
asked_more paths path some asked = search (rules, All-weaker, Contains-append_left)

-- a path that is not valid adds none
pub adds_no_row : (registrations : List Registration) (old : List ℕ) (paths : List (List ℕ))
    (path : List ℕ) (new : List ℕ) → AddsRows registrations old paths new
    → (IsValid registrations path → ⊥) → AddsRows registrations old (paths ++ path ∷ []) new
adds_no_row registrations old paths path new adds not_valid = record {
  rows = adds.rows;
  added = adds.added;
  parts = adds.parts;
  asked = asked_more _ _ _ adds.asked;
  there = All-push (λ p. IsValid registrations p → Contains (paths_at registrations new) p) _
      _ adds.there (λ valid. absurd (not_valid valid));
}

-- a valid path adds its row
pub adds_a_row : (registrations : List Registration) (old : List ℕ) (paths : List (List ℕ))
    (path : List ℕ) (before new : List ℕ) (row : ℕ) → AddsRows registrations old paths before
    → IsRowOf registrations path row → new ≡ insert_key nat_eq before row → IsDistinct nat_eq new
    → AddsRows registrations old (paths ++ path ∷ []) new
adds_a_row registrations old paths path before new row adds of is distinct =
    let step = inserted _ _ _ is in
    let path_of : (r : ℕ) → r ≡ row → Contains (paths ++ path ∷ []) (path_at registrations r) =
    λ r same. subst (Contains (paths ++ path ∷ []))
    (sym (ap (path_at registrations) same ∙ of.1)) (Contains-push _ _) in
    let here : Contains (paths_at registrations new) path =
    subst (Contains (paths_at registrations new)) of.1
    (Contains-map (path_at registrations) _ _ step.there) in
    record {
      rows = record {
        distinct = distinct;
        below = subst (All (λ r. r < length registrations)) (sym step.parts)
            (All-append (λ r. r < length registrations) _ _ adds.rows.below
            (All-weaker (λ r. r ≡ row) (λ r. r < length registrations)
            (λ r same. subst (λ n. n < length registrations) (sym same) of.0) _
            step.only));
      };
      added = adds.added ++ step.added;
      parts = step.parts ∙ ap (λ (rows : List ℕ). rows ++ step.added) adds.parts
          ∙ append_assoc old adds.added step.added;
      asked = subst (All (Contains (paths ++ path ∷ [])))
          (sym (map-append (path_at registrations) adds.added step.added))
          (All-append (Contains (paths ++ path ∷ [])) _
          _
          (asked_more _ _ _ adds.asked)
          (All-map (Contains (paths ++ path ∷ [])) (path_at registrations) _
          (All-weaker (λ r. r ≡ row)
          (λ r. Contains (paths ++ path ∷ []) (path_at registrations r)) path_of _
          step.only)));
      there = All-push (λ p. IsValid registrations p → Contains (paths_at registrations new) p)
          _ _
          (All-weaker (λ p. IsValid registrations p → Contains (paths_at registrations before) p)
          (λ p. IsValid registrations p → Contains (paths_at registrations new) p)
          (λ p has valid. paths_kept _ _ _ _ step.parts p (has valid))
          _ adds.there)
          (λ valid. here);
    }

-- a row adds itself
pub adds_this_row : (registrations : List Registration) (old numbers : List ℕ) (i : ℕ)
    (before new : List ℕ)
    → AddsRows registrations old (paths_at registrations (take i numbers)) before
    → i < length numbers → get_or numbers i 0 < length registrations
    → new ≡ insert_key nat_eq before (get_or numbers i 0) → IsDistinct nat_eq new
    → AddsRows registrations old (paths_at registrations (take (i + 1) numbers)) new
adds_this_row registrations old numbers i before new adds within below is distinct =
    subst (λ (paths : List (List ℕ)). AddsRows registrations old paths new)
    (sym (ap (map (path_at registrations)) (take_more _ i 0 within)
    ∙ map-append (path_at registrations) (take i numbers) (get_or numbers i 0 ∷ [])))
    (adds_a_row _ _ _
    _ _ _ _ adds (below, refl)
    is distinct)
