-- Each byte of a store path stands for itself in a JSON string.
use Rattle.std.proofs.Common.{◌≡◌, ◌==◌, ℕ, Bool, true, List, [], ◌∷◌, ◌++◌, All, arith, rules}
use Rattle.std.proofs.Common.{nat_lt, nat_le, not, refl, sym, subst, IsTrue, codes, inl, inr}
use Rattle.std.specs.Prelude.{◌&&◌}
use Rattle.std.specs.Char.{is_ascii_alphanumeric}
use Rattle.std.specs.List.{list_all, list_any, flat_map}
use Rattle.std.proofs.lemmas.Bool.{and_parts, or_cases, false≢true, eqb-true}
use Rattle.std.proofs.lemmas.Bool.Decides.{nat_tests}
use Rattle.std.proofs.lemmas.List.Elements.{All-append, All-cons, All-nil, All-head, All-tail}
use Rattle.nix_names.specs.Base32.{alphabet, is_digit}
use Rattle.nix_names.specs.Names.{IsStoreDir, is_component, is_name, is_name_char}
use Rattle.nix_names.specs.StorePaths.{is_hash_part, path_text}
use Rattle.process_build.specs.Traces.{IsPlain, PathsArePlain}

-- the byte is neither less than `+` nor greater than `z`, and no backslash
abbrev within : ℕ → Bool
within b = nat_le 43 b && nat_lt b 123 && not (b == 92)

plain_within : (b : ℕ) → within b ≡ true → IsPlain b
plain_within b h =
    let last = and_parts _ (not (b == 92)) h in
    let first = and_parts (nat_le 43 b) (nat_lt b 123) last.0 in
    let low = first.0 in
    let high = first.1 in
    let other = last.1 in
    grind (arith, nat_tests)

-- what holds of all holds of the first and of the others
both : (test : ℕ → Bool) (x : ℕ) (xs : List ℕ)
    → list_all test (x ∷ xs) ≡ true → (test x ≡ true) × (list_all test xs ≡ true)
both test x xs h = and_parts (test x) (list_all test xs) h

-- what equals one of some bytes passes a test that they pass
among : (xs : List ℕ) (b : ℕ) → list_all within xs ≡ true → list_any (λ x. x == b) xs ≡ true
    → within b ≡ true
among [] b pass found = absurd (false≢true found)
among (x ∷ xs) b pass found =
    let parts = both within x xs pass in
    elim (or_cases (x == b) (list_any (λ y. y == b) xs) found) [
      | inl here ↦ subst (λ y. within y ≡ true) (eqb-true x b here) parts.0
      | inr later ↦ among xs b parts.1 later
    ]

digit_within : (b : ℕ) → is_digit b ≡ true → IsPlain b
digit_within b h = plain_within b (among alphabet b refl h)

letter_is_plain : (b : ℕ) → is_ascii_alphanumeric b ≡ true → IsPlain b
letter_is_plain b h = grind (arith, nat_tests)

name_char_is_plain : (b : ℕ) → is_name_char b ≡ true → IsPlain b
unfolding is_name_char
name_char_is_plain b h =
    elim (or_cases (is_ascii_alphanumeric b) (list_any (λ c. c == b) (codes "+-._?=")) h) [
      | inl letter ↦ letter_is_plain b letter
      | inr other ↦ plain_within b (among (codes "+-._?=") b refl other)
    ]

-- bytes that pass a test that only plain bytes pass
all_plain : (test : ℕ → Bool) → ((b : ℕ) → test b ≡ true → IsPlain b)
    → (bytes : List ℕ) → list_all test bytes ≡ true → All IsPlain bytes
all_plain test passes [] h = All-nil IsPlain
all_plain test passes (b ∷ bytes) h =
    let parts = both test b bytes h in
    All-cons IsPlain b bytes (passes b parts.0) (all_plain test passes bytes parts.1)

hash_passes : (hash : List ℕ) → is_hash_part hash ≡ true → list_all is_digit hash ≡ true
unfolding is_hash_part
hash_passes hash h = (and_parts _ _ h).1

name_passes : (name : List ℕ) → is_name name ≡ true → list_all is_name_char name ≡ true
unfolding is_name
name_passes name h = (and_parts _ _ (and_parts _ _ h).0).1

component_passes : (part : List ℕ) → is_component part ≡ true
    → list_all is_name_char part ≡ true
unfolding is_component
component_passes part h = search (rules, and_parts)

slash_is_plain : IsPlain 47
slash_is_plain = plain_within 47 refl

dash_is_plain : IsPlain 45
dash_is_plain = plain_within 45 refl

-- components, each after a slash, are plain
components_are_plain : (parts : List (List ℕ)) → All (λ part. IsTrue (is_component part)) parts
    → All IsPlain (flat_map (λ part. 47 ∷ part) parts)
components_are_plain [] each = All-nil IsPlain
components_are_plain (part ∷ parts) each =
    let Is : List ℕ → Type 0 = λ p. IsTrue (is_component p) in
    let passes = component_passes part (All-head Is part parts each) in
    let first = all_plain is_name_char name_char_is_plain part passes in
    All-append IsPlain (47 ∷ part) _ (All-cons IsPlain 47 part slash_is_plain first)
    (components_are_plain parts (All-tail Is part parts each))

dir_is_plain : (dir : List ℕ) → IsStoreDir dir → All IsPlain dir
dir_is_plain dir is_dir = subst (All IsPlain) (sym is_dir.parts)
    (components_are_plain is_dir.components is_dir.each)

pub paths_are_plain : PathsArePlain
paths_are_plain path is =
    let parts = is.is_path in
    let digits = hash_passes parts.hash parts.is_hash in
    let hash = all_plain is_digit digit_within parts.hash digits in
    let passes = name_passes parts.name parts.named in
    let name = all_plain is_name_char name_char_is_plain parts.name passes in
    let base : All IsPlain (parts.hash ++ 45 ∷ parts.name) =
    All-append IsPlain parts.hash _ hash (All-cons IsPlain 45 parts.name dash_is_plain name) in
    let whole : All IsPlain (path_text is.dir parts.hash parts.name) =
    All-append IsPlain is.dir _ (dir_is_plain is.dir is.is_dir)
    (All-cons IsPlain 47 _ slash_is_plain base) in
    subst (All IsPlain) (sym parts.parts) whole
