-- A hash part within some bytes, as a search over windows goes on, and as pieces join.
use Rattle.std.proofs.Common.{◌≡◌, ◌∙◌, ℕ, ◌+◌, ◌-◌, ◌<◌, ◌≤◌, false, List, [], ◌∷◌, ◌++◌, ◌⊎◌, inl, inr, ⊎_elim, length, take, drop, get_or, refl, sym, ap, subst, arith, append_assoc, length-append, rules}
use Rattle.std.specs.Prelude.{IsTrue}
use Rattle.std.proofs.lemmas.Bool.{false≢true, cases_lt}
use Rattle.std.proofs.lemmas.List.{take-append-drop, drop-append-le, take-append-le, drop_at, take_at, get_or-drop}
use Rattle.std.proofs.lemmas.List.Prefix.{front_reads}
use Rattle.nix_names.specs.Base32.{is_digit}
use Rattle.nix_names.specs.StorePaths.{is_hash_part}
use Rattle.ref_scan.specs.Scan.{Within}
use Rattle.ref_scan.proofs.HashParts.{hash_part_long, hash_part_digit}

-- A part stays within bytes after which or before which more come.
pub within_left : (part a b : List ℕ) → Within part a → Within part (a ++ b)
within_left part a b (x, y, is) = (
  x,
  y ++ b,
  ap (λ l. l ++ b) is ∙ append_assoc x (part ++ y) b
      ∙ ap (λ l. x ++ l) (append_assoc part y b),
)

pub within_right : (part a b : List ℕ) → Within part b → Within part (a ++ b)
within_right part a b (x, y, is) =
    (a ++ x, y, ap (λ l. a ++ l) is ∙ sym (append_assoc a x (part ++ y)))

-- A part that stands somewhere stands after n bytes, or begins before.
pub within_after :
    (part bytes : List ℕ) (n : ℕ) (x y : List ℕ) → bytes ≡ x ++ (part ++ y) → n ≤ length x
    → Within part (drop n bytes)
within_after part bytes n x y is le =
    (drop n x, y, ap (drop n) is ∙ drop-append-le n x (part ++ y) le)

-- the byte of a part that stands after x
byte_of_part :
    (part bytes : List ℕ) (x y : List ℕ) (i : ℕ) → bytes ≡ x ++ (part ++ y) → i < length part
    → get_or bytes (length x + i) 0 ≡ get_or part i 0
byte_of_part part bytes x y i is lt =
    sym (get_or-drop (length x) bytes i 0) ∙ ap (λ l. get_or l i 0)
    (ap (drop (length x)) is ∙ drop_at x (part ++ y) (length x) refl)
    ∙ front_reads 0 (part ++ y) part y refl i lt

-- past a byte that no part has
pub within_past :
    (part bytes : List ℕ) (offset : ℕ) →
    IsTrue (is_hash_part part) → offset < 32 → is_digit (get_or bytes offset 0) ≡ false →
    Within part bytes → Within part (drop (offset + 1) bytes)
within_past part bytes offset is_part lt foreign (x, y, is) =
    let long = hash_part_long part is_part in
    ⊎_elim
    (λ (before : length x < offset + 1).
    let i = offset - length x in
    let at : length x + i ≡ offset = omega arith in
    let same = byte_of_part part bytes x y i is (omega arith) in
    absurd (false≢true
    (sym foreign ∙ ap is_digit (subst (λ k. get_or bytes k 0 ≡ get_or part i 0) at same)
    ∙ hash_part_digit part is_part i (omega arith))))
    (λ (after : offset + 1 ≤ length x). within_after part bytes (offset + 1) x y is after)
    (cases_lt (length x) (offset + 1))

-- past the first byte, where the window there is no part
pub within_next :
    (part bytes : List ℕ) →
    IsTrue (is_hash_part part) →
    Within part bytes → (take 32 bytes ≡ part) ⊎ Within part (drop 1 bytes)
within_next part bytes is_part ([], y, is) =
    inl (ap (take 32) is ∙ take_at part y 32 (hash_part_long part is_part))
within_next part bytes is_part (b ∷ x, y, is) = search (rules, within_after)

pub within_window : (part bytes : List ℕ) → take 32 bytes ≡ part → Within part bytes
within_window part bytes is =
    ([], drop 32 bytes, sym (take-append-drop 32 bytes) ∙ ap (λ l. l ++ drop 32 bytes) is)

-- in fewer bytes than a part has
pub within_few : (part bytes : List ℕ) → IsTrue (is_hash_part part) → length bytes < 32
    → Within part bytes → ⊥
within_few part bytes is_part few (x, y, is) = search (rules, hash_part_long, length-append)

pub within_of_drop : (part bytes : List ℕ) (n : ℕ) → Within part (drop n bytes) → Within part bytes
within_of_drop part bytes n within =
    subst (Within part) (take-append-drop n bytes)
    (within_right part (take n bytes) (drop n bytes) within)

-- Two lists that overlap in all but one of a part's bytes have each part that stands in both
-- together.
pub cover :
    (part a m b : List ℕ) →
    length part ≤ length m + 1 →
    Within part (a ++ (m ++ b)) →
    Within part (a ++ m) ⊎ Within part (m ++ b)
cover part a m b long (x, y, is) =
    ⊎_elim
    (λ (before : length x < length a).
    let front : take (length (x ++ part)) (a ++ (m ++ b)) ≡ x
    ++ part = ap (take (length (x ++ part))) (is ∙ sym (append_assoc x part y))
    ∙ take_at (x ++ part) y (length (x ++ part)) refl in
    let fits : length (x ++ part) ≤ length (a ++ m) =
    omega (arith, length-append x part, length-append a m) in
    let same : take (length (x ++ part)) (a ++ m) ≡ x
    ++ part = sym (take-append-le (length (x ++ part)) (a ++ m) b fits)
    ∙ ap (take (length (x ++ part))) (append_assoc a m b) ∙ front in
    inl (
      x,
      drop (length (x ++ part)) (a ++ m),
      sym (take-append-drop (length (x ++ part)) (a ++ m))
          ∙ ap (λ l. l ++ drop (length (x ++ part)) (a ++ m)) same
          ∙ append_assoc x part (drop (length (x ++ part)) (a ++ m)),
    ))
    (λ (after : length a ≤ length x).
    inr (subst (Within part) (drop_at a (m ++ b) (length a) refl)
    (within_after part (a ++ (m ++ b)) (length a) x y is after)))
    (cases_lt (length x) (length a))
