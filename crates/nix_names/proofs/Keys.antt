-- Keys: numbers that order hash parts, and the paths of one folder.
use Rattle.std.proofs.Common.{◌≡◌, ◌<◌, ◌+◌, ◌*◌, ℕ, zero, suc, List, [], ◌∷◌, ◌++◌, ap, ap₂, arith, drop, inl, inr, length, refl, sym, take, true, ◌∙◌, rules}
use Rattle.std.specs.Cmp.Lexicographic.{slice_cmp}
use Rattle.std.specs.Int.{from_be_bytes, w64}
use Rattle.std.specs.List.{AllByRecursion, list_all}
use Rattle.std.specs.Ordering.{nat_cmp, ordering_then}
use Rattle.std.specs.declared.cmp.Ordering.{Ordering}
use Rattle.std.specs.declared.cmp.Ordering.TheVariants.{Equal, Less}
use Rattle.std.proofs.lemmas.Bool.{and_parts, cases_lt, le-ltb, lt-ltb}
use Rattle.std.proofs.lemmas.List.{append_assoc, append-nil, length-take-le, take-append-drop}
use Rattle.nix_names.specs.Base32.{is_digit}
use Rattle.nix_names.specs.Keys.{key_of}
use Rattle.nix_names.specs.StorePaths.{IsPathOf, IsStorePath, hash_part_of, is_hash_part}
use Rattle.nix_names.proofs.AsciiPaths.{digit_is_ascii, hash_passes}
use Rattle.nix_names.proofs.PathTexts.{hash_part_is, hash_part_len, hash_part_of_is}

-- ---- numbers of equally many bytes compare as these do

-- the number that bytes spell after a number, of which the first byte counts most
abbrev pub spelt : ℕ → List ℕ → ℕ
spelt n [] = n
spelt n (b ∷ bs) = spelt (n * 256 + b) bs

abbrev pub Small : List ℕ → Type 0
Small bytes = AllByRecursion (λ b. b < 256) bytes

spelt_less : (n m : ℕ) (xs ys : List ℕ) → length xs ≡ length ys → Small xs → Small ys → n < m
    → spelt n xs < spelt m ys
spelt_less n m [] [] same of_x of_y less = less
spelt_less n m [] (y ∷ ys) same of_x of_y less = absurd (omega (arith, same))
spelt_less n m (x ∷ xs) [] same of_x of_y less = absurd (omega (arith, same))
spelt_less n m (x ∷ xs) (y ∷ ys) same of_x of_y less =
    spelt_less (n * 256 + x) (m * 256 + y) xs ys (omega (arith, same)) of_x.1 of_y.1
    (omega (arith, less, of_x.0))

pub eight_spelt : (bytes : List ℕ) → length bytes ≡ 8 → from_be_bytes w64 bytes ≡ spelt 0 bytes
eight_spelt [] is = absurd (omega (arith, is))
eight_spelt (a ∷ []) is = absurd (omega (arith, is))
eight_spelt (a ∷ b ∷ []) is = absurd (omega (arith, is))
eight_spelt (a ∷ b ∷ c ∷ []) is = absurd (omega (arith, is))
eight_spelt (a ∷ b ∷ c ∷ d ∷ []) is = absurd (omega (arith, is))
eight_spelt (a ∷ b ∷ c ∷ d ∷ e ∷ []) is = absurd (omega (arith, is))
eight_spelt (a ∷ b ∷ c ∷ d ∷ e ∷ f ∷ []) is = absurd (omega (arith, is))
eight_spelt (a ∷ b ∷ c ∷ d ∷ e ∷ f ∷ g ∷ []) is = absurd (omega (arith, is))
eight_spelt (a ∷ b ∷ c ∷ d ∷ e ∷ f ∷ g ∷ h ∷ []) is = omega arith
eight_spelt (a ∷ b ∷ c ∷ d ∷ e ∷ f ∷ g ∷ h ∷ i ∷ bytes) is = absurd (omega (arith, is))

-- ---- so do texts that begin with these bytes

equal_bytes : (x : ℕ) → nat_cmp x x ≡ Equal
equal_bytes x = search (rules, le-ltb)

lesser_byte : (x y : ℕ) → x < y → nat_cmp x y ≡ Less
lesser_byte x y less = rw (lt-ltb x y less) refl

pub bytes_less : (n : ℕ) (xs ys rest others : List ℕ) → length xs ≡ length ys → Small xs → Small ys
    → spelt n xs < spelt n ys → slice_cmp nat_cmp (xs ++ rest) (ys ++ others) ≡ Less
bytes_less n [] [] rest others same of_x of_y less = absurd (omega (arith, less))
bytes_less n [] (y ∷ ys) rest others same of_x of_y less = absurd (omega (arith, same))
bytes_less n (x ∷ xs) [] rest others same of_x of_y less = absurd (omega (arith, same))
bytes_less n (x ∷ xs) (y ∷ ys) rest others same of_x of_y less =
    elim (cases_lt x y) [
      | inl below ↦ ap (λ o. ordering_then o tail) (lesser_byte x y below)
      | inr past ↦ elim (cases_lt y x) [
        | inl above ↦
            absurd (omega (
              arith,
              less,
              spelt_less (n * 256 + y) (n * 256 + x) ys xs (sym tails) of_y.1 of_x.1
                  (omega (arith, above)),
            ))
        | inr before ↦
            level (omega (arith, past, before))
            (bytes_less (n * 256 + x) xs ys rest others tails of_x.1 of_y.1)
      ]
    ]
  where
    tail : Ordering
    tail = slice_cmp nat_cmp (xs ++ rest) (ys ++ others)

    tails : length xs ≡ length ys
    tails = omega (arith, same)

    level : x ≡ y → (spelt (n * 256 + x) xs < spelt (n * 256 + x) ys → tail ≡ Less)
        → ordering_then (nat_cmp x y) tail ≡ Less
    level is next = search (rules, tail, equal_bytes, spelt)

pub same_front : (front xs ys : List ℕ) → slice_cmp nat_cmp (front ++ xs) (front ++ ys)
    ≡ slice_cmp nat_cmp xs ys
same_front [] xs ys = refl
same_front (b ∷ front) xs ys = search (rules, equal_bytes, same_front front xs ys)

-- ---- hash parts, and paths of one folder

small_first : (n : ℕ) (hash : List ℕ) → list_all is_digit hash ≡ true → Small (take n hash)
small_first zero hash digits = tt
small_first (suc n) [] digits = tt
small_first (suc n) (b ∷ hash) digits =
    let parts = and_parts (is_digit b) (list_all is_digit hash) digits in
    let ascii = digit_is_ascii b parts.0 in (omega (arith, ascii), small_first n hash parts.1)

-- texts that begin with hash parts compare as the keys of these do, where they differ
pub lesser_hash : (p q rest others : List ℕ) → is_hash_part p ≡ true → is_hash_part q ≡ true
    → from_be_bytes w64 (take 8 p) < from_be_bytes w64 (take 8 q)
    → slice_cmp nat_cmp (p ++ rest) (q ++ others) ≡ Less
lesser_hash p q rest others of_p of_q less =
    ap₂ (slice_cmp nat_cmp) (split p rest) (split q others)
    ∙ bytes_less 0 (take 8 p) (take 8 q) (drop 8 p ++ rest) (drop 8 q ++ others)
    (eight p of_p ∙ sym (eight q of_q))
    (small_first 8 p (hash_passes p of_p)) (small_first 8 q (hash_passes q of_q))
    (omega (
      arith,
      less,
      eight_spelt (take 8 p) (eight p of_p),
      eight_spelt (take 8 q)
          (eight q of_q),
    ))
  where
    split : (p rest : List ℕ) → p ++ rest ≡ take 8 p ++ (drop 8 p ++ rest)
    split p rest = search (rules, take-append-drop, append_assoc)

    eight : (p : List ℕ) → is_hash_part p ≡ true → length (take 8 p) ≡ 8
    eight p is = search (rules, hash_part_len, length-take-le)

pub lesser_hash_part : (path other : List ℕ) → IsStorePath path → IsStorePath other
    → key_of path < key_of other
    → slice_cmp nat_cmp (hash_part_of path) (hash_part_of other) ≡ Less
lesser_hash_part path other of_path of_other less =
    ap₂ (slice_cmp nat_cmp) (sym (append-nil (hash_part_of path)))
    (sym (append-nil (hash_part_of other)))
    ∙ lesser_hash (hash_part_of path) (hash_part_of other) [] []
    (hash_part_of_is path of_path) (hash_part_of_is other of_other) less

pub lesser_path : (dir path other : List ℕ) → IsPathOf dir path → IsPathOf dir other
    → key_of path < key_of other → slice_cmp nat_cmp path other ≡ Less
lesser_path dir path other of_path of_other less =
    ap₂ (slice_cmp nat_cmp) of_path.parts of_other.parts
    ∙ same_front dir (47 ∷ of_path.hash ++ (45 ∷ of_path.name))
    (47 ∷ of_other.hash ++ (45 ∷ of_other.name))
    ∙ same_front (47 ∷ []) (of_path.hash ++ (45 ∷ of_path.name))
    (of_other.hash ++ (45 ∷ of_other.name))
    ∙ lesser_hash of_path.hash of_other.hash (45 ∷ of_path.name) (45 ∷ of_other.name)
    of_path.is_hash of_other.is_hash
    (omega (
      arith,
      less,
      ap (λ h. from_be_bytes w64 (take 8 h)) (hash_part_is dir path of_path),
      ap (λ h. from_be_bytes w64 (take 8 h)) (hash_part_is dir other of_other),
    ))
