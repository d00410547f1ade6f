-- The bytes of a store path are ASCII, so it is text.
use Rattle.std.proofs.Common.{◌≡◌, ◌<◌, ◌==◌, ℕ, Bool, true, List, [], ◌∷◌, ◌++◌, All, arith, rules, map, reverse}
use Rattle.std.proofs.Common.{nat_lt, refl, sym, subst, IsTrue, codes, inl, inr}
use Rattle.std.specs.Char.{is_ascii_alphanumeric}
use Rattle.std.specs.List.{list_all, list_any, flat_map}
use Rattle.std.specs.Str.{IsUtf8}
use Rattle.std.proofs.lemmas.Bool.{and_parts, or_cases, false≢true, eqb-true}
use Rattle.std.proofs.lemmas.Bool.Decides.{nat_tests}
use Rattle.std.proofs.lemmas.List.Elements.{All-append, All-cons, All-nil, All-head, All-tail}
use Rattle.std.proofs.lemmas.Str.{IsUtf8-from_ascii}
use Rattle.std.proofs.lemmas.Str.Ascii.{IsAscii-from_all}
use Rattle.nix_names.specs.Base32.{StandsFor, alphabet, digit_char, is_digit}
use Rattle.nix_names.specs.Names.{IsStoreDir, is_component, is_name, is_name_char}
use Rattle.nix_names.specs.StorePaths.{IsStorePath, is_hash_part, path_text}
use Rattle.nix_names.proofs.Base32Chars.{digit_char_ascii}
use Rattle.nix_names.proofs.Base32Reading.{All-reverse}

-- a byte is ASCII
abbrev IsAsciiByte : ℕ → Type 0
IsAsciiByte b = b < 128

-- what holds of all holds of the first and of the others
both : (test : ℕ → Bool) (x : ℕ) (xs : List ℕ)
    → list_all test (x ∷ xs) ≡ true → (test x ≡ true) × (list_all test xs ≡ true)
both test x xs h = and_parts (test x) (list_all test xs) h

-- what equals one of some ASCII bytes is one
among : (xs : List ℕ) (b : ℕ)
    → list_all (λ x. nat_lt x 128) xs ≡ true → list_any (λ x. x == b) xs ≡ true → b < 128
among [] b below found = absurd (false≢true found)
among (x ∷ xs) b below found =
    let parts = both (λ (y : ℕ). nat_lt y 128) x xs below in
    elim (or_cases (x == b) (list_any (λ y. y == b) xs) found) [
      | inl here ↦
          let same : x ≡ b = eqb-true x b here in
          let first : nat_lt x 128 ≡ true = parts.0 in grind (arith, nat_tests)
      | inr later ↦ among xs b parts.1 later
    ]

-- a base-32 digit is ASCII
pub digit_is_ascii : (b : ℕ) → is_digit b ≡ true → b < 128
digit_is_ascii b h = among alphabet b refl h

-- a letter and a decimal digit are ASCII
letter_is_ascii : (b : ℕ) → is_ascii_alphanumeric b ≡ true → b < 128
letter_is_ascii b h = grind (arith, nat_tests)

-- a byte of a name is ASCII
name_char_is_ascii : (b : ℕ) → is_name_char b ≡ true → b < 128
unfolding is_name_char
name_char_is_ascii b h = search (rules, codes, or_cases, letter_is_ascii, among)

-- bytes that pass a test that only ASCII bytes pass
all_ascii : (test : ℕ → Bool) → ((b : ℕ) → test b ≡ true → b < 128)
    → (bytes : List ℕ) → list_all test bytes ≡ true → All IsAsciiByte bytes
all_ascii test passes [] h = All-nil IsAsciiByte
all_ascii test passes (b ∷ bytes) h =
    let parts = both test b bytes h in
    All-cons IsAsciiByte b bytes (passes b parts.0) (all_ascii test passes bytes parts.1)

-- the bytes of a hash part, of a name and of a component pass their tests
pub hash_passes : (hash : List ℕ) → is_hash_part hash ≡ true → list_all is_digit hash ≡ true
unfolding is_hash_part
hash_passes hash h = (and_parts _ _ h).1

name_passes : (name : List ℕ) → is_name name ≡ true → list_all is_name_char name ≡ true
unfolding is_name
name_passes name h = (and_parts _ _ (and_parts _ _ h).0).1

component_passes : (part : List ℕ) → is_component part ≡ true
    → list_all is_name_char part ≡ true
unfolding is_component
component_passes part h = search (rules, and_parts)

-- components, each after a slash, are ASCII
components_are_ascii : (parts : List (List ℕ)) → All (λ part. IsTrue (is_component part)) parts
    → All IsAsciiByte (flat_map (λ part. 47 ∷ part) parts)
components_are_ascii [] each = All-nil IsAsciiByte
components_are_ascii (part ∷ parts) each =
    let Is : List ℕ → Type 0 = λ p. IsTrue (is_component p) in
    let passes = component_passes part (All-head Is part parts each) in
    let first = all_ascii is_name_char name_char_is_ascii part passes in
    All-append IsAsciiByte (47 ∷ part) _ (All-cons IsAsciiByte 47 part (omega arith) first)
    (components_are_ascii parts (All-tail Is part parts each))

-- a store folder is ASCII
dir_is_ascii : (dir : List ℕ) → IsStoreDir dir → All IsAsciiByte dir
dir_is_ascii dir is_dir = search (rules, components_are_ascii)

-- a store path is text
pub path_is_text : (path : List ℕ) → IsStorePath path → IsUtf8 path
path_is_text path is =
    let parts = is.is_path in
    let digits = hash_passes parts.hash parts.is_hash in
    let hash = all_ascii is_digit digit_is_ascii parts.hash digits in
    let passes = name_passes parts.name parts.named in
    let name = all_ascii is_name_char name_char_is_ascii parts.name passes in
    let base : All IsAsciiByte (parts.hash ++ 45 ∷ parts.name) =
    All-append IsAsciiByte parts.hash _ hash
    (All-cons IsAsciiByte 45 parts.name (omega arith) name) in
    let whole : All IsAsciiByte (path_text is.dir parts.hash parts.name) =
    All-append IsAsciiByte is.dir _ (dir_is_ascii is.dir is.is_dir)
    (All-cons IsAsciiByte 47 _ (omega arith) base) in
    let ascii = subst (All IsAsciiByte) (sym parts.parts) whole in
    IsUtf8-from_ascii path (IsAscii-from_all path ascii)

-- digits' characters are ASCII
chars_are_ascii : (digits : List ℕ) → All (λ d. d < 32) digits
    → All IsAsciiByte (map digit_char digits)
chars_are_ascii [] below = All-nil IsAsciiByte
chars_are_ascii (d ∷ ds) below =
    let Is : ℕ → Type 0 = λ x. x < 32 in
    All-cons IsAsciiByte (digit_char d) (map digit_char ds)
    (digit_char_ascii d (All-head Is d ds below)) (chars_are_ascii ds (All-tail Is d ds below))

-- a base-32 text is text
pub stands_is_text : (text bytes : List ℕ) → StandsFor text bytes → IsUtf8 text
stands_is_text text bytes stands =
    let below = All-reverse (λ d. d < 32) stands.digits stands.below in
    let each = chars_are_ascii (reverse stands.digits) below in
    let ascii = subst (All IsAsciiByte) (sym stands.spelled) each in
    IsUtf8-from_ascii text (IsAscii-from_all text ascii)
