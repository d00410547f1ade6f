-- Some of a list, and the lists of bytes in which a part stands.
use Rattle.std.proofs.Common.{sym, ℕ, zero, suc, List, [], ◌∷◌, ◌++◌, ◌⊎◌, inl, inr, ⊎_elim, refl, subst, arith}
use Rattle.std.specs.Prelude.{Any, Contains, IsTrue}
use Rattle.nix_names.specs.StorePaths.{hash_part_of, is_hash_part}
use Rattle.ref_scan.specs.Scan.{IsFoundIn, OccursIn, Within}
use Rattle.ref_scan.proofs.Windows.{within_few}

module _ {X : Type 0} (P : X → Type 0) where
  pub Any-none : Any P [] → ⊥
  Any-none (k, x, lt, is, h) = absurd (omega arith)

  pub Any-first : (x : X) (xs : List X) → P x → Any P (x ∷ xs)
  Any-first x xs h = (0, x, omega arith, refl, h)

  pub Any-later : (x : X) (xs : List X) → Any P xs → Any P (x ∷ xs)
  Any-later x xs (k, y, lt, is, h) = (suc k, y, omega arith, is, h)

  pub Any-cases : (x : X) (xs : List X) → Any P (x ∷ xs) → P x ⊎ Any P xs
  Any-cases x xs (zero, y, lt, is, h) = inl (subst P (sym is) h)
  Any-cases x xs (suc k, y, lt, is, h) = inr (k, y, omega arith, is, h)

  pub Any-left : (xs ys : List X) → Any P xs → Any P (xs ++ ys)
  Any-left [] ys h = absurd (Any-none h)
  Any-left (x ∷ xs) ys h = ⊎_elim (Any-first x (xs ++ ys))
      (λ later. Any-later x (xs ++ ys) (Any-left xs ys later)) (Any-cases x xs h)

  pub Any-right : (xs ys : List X) → Any P ys → Any P (xs ++ ys)
  Any-right [] ys h = h
  Any-right (x ∷ xs) ys h = Any-later x (xs ++ ys) (Any-right xs ys h)

  pub Any-either : (xs ys : List X) → Any P (xs ++ ys) → Any P xs ⊎ Any P ys
  Any-either [] ys h = inr h
  Any-either (x ∷ xs) ys h =
      ⊎_elim
      (λ here. inl (Any-first x xs here))
      (λ later. ⊎_elim (λ a. inl (Any-later x xs a)) inr (Any-either xs ys later))
      (Any-cases x (xs ++ ys) h)

  pub Any-last : (xs : List X) (x : X) → P x → Any P (xs ++ x ∷ [])
  Any-last xs x h = Any-right xs (x ∷ []) (Any-first x [] h)

  pub Any-last_cases : (xs : List X) (x : X) → Any P (xs ++ x ∷ []) → Any P xs ⊎ P x
  Any-last_cases xs x h =
      ⊎_elim
      inl
      (λ last. ⊎_elim inr (λ none. absurd (Any-none none)) (Any-cases x [] last))
      (Any-either xs (x ∷ []) h)

-- no part stands in no bytes
pub not_in_none : (part : List ℕ) → IsTrue (is_hash_part part) → Within part [] → ⊥
not_in_none part is = within_few part [] is (omega arith)

-- an empty list at the end has no part
pub occurs_before_none : (part : List ℕ) (lists : List (List ℕ)) → IsTrue (is_hash_part part)
    → OccursIn part (lists ++ [] ∷ []) → OccursIn part lists
occurs_before_none part lists is h =
    ⊎_elim (λ a. a) (λ w. absurd (not_in_none part is w)) (Any-last_cases (Within part) lists [] h)

pub found_before_none :
    (lists permitted found : List (List ℕ)) →
    ((path : List ℕ) → Contains permitted path → IsTrue (is_hash_part (hash_part_of path))) →
    IsFoundIn (lists ++ [] ∷ []) permitted found →
    IsFoundIn lists permitted found
found_before_none lists permitted found are_parts before =
    record {
      rising = before.rising;
      each = λ path. (
        λ has. let h = (before.each path).0 has
            in (h.0, occurs_before_none (hash_part_of path) lists (are_parts path h.0) h.1),
        λ h. (before.each path).1 (h.0, Any-left (Within (hash_part_of path)) lists ([] ∷ []) h.1),
      );
    }
