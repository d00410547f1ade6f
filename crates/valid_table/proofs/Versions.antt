-- What the first line of a text tells: its version, or that it is another one's.
use Rattle.std.proofs.Common.{◌≡◌, ◌≢◌, ◌<◌, ◌≤◌, ℕ, Bor, List, [], ◌∷◌, ◌++◌, inl, inr, refl, sym, ap, ◌∙◌, subst, arith, codes, get_or, length, IsTrue, rules}
use Rattle.std.specs.Prelude.{◌↔◌, MatchOption, Option}
use Rattle.std.specs.Char.{is_ascii_digit}
use Rattle.std.specs.List.{All}
use Rattle.std.proofs.lemmas.List.{append_cancel_left}
use Rattle.std.proofs.lemmas.List.Elements.{All-cons, All-nil}
use Rattle.valid_table.specs.BadLines.{IsOtherVersion}
use Rattle.valid_table.specs.Reading.{BeginsVersion, IsTooLong, max_len}
use Rattle.valid_table.specs.Texts.{IsTextIn, text, version_line}
use Rattle.valid_table.specs.declared.entry.Entry.{Entry}
use Rattle.valid_table.specs.declared.path_table.version.Version.{Version}
use Rattle.valid_table.specs.declared.path_table.version.Version.TheVariants.{One, Two, Three}
use Rattle.valid_table.proofs.Separators.{Lacks, apart, lacks_not, same_cut}

-- ---- another version

-- bytes are decimal digits, and none of `1`, `2` and `3` alone
abbrev pub IsOtherNumber : List ℕ → Type 0
IsOtherNumber bytes = (bytes ≢ []) × All (λ b. IsTrue (is_ascii_digit b)) bytes
    × (bytes ≢ codes "1") × (bytes ≢ codes "2") × (bytes ≢ codes "3")

-- decimal digits have no newline
digits_lack : (digits : List ℕ) → All (λ b. IsTrue (is_ascii_digit b)) digits → Lacks 10 digits
digits_lack digits decimal = search (rules, apart)

-- the first line is another version's where such a number stands up to its newline
pub by_number : (bytes version number rest : List ℕ) → bytes ≡ codes "realiser-journal " ++ version
    → version ≡ number ++ (10 ∷ rest) → Lacks 10 number → IsOtherNumber number
    ↔ IsOtherVersion bytes
by_number bytes version number rest begins line one = (
  λ is. record {
    digits = number;
    rest = rest;
    some = is.0;
    decimal = is.1;
    not_one = is.2;
    not_two = is.3;
    not_three = is.4;
    parts = begins ∙ ap (λ more. codes "realiser-journal " ++ more) line;
  },
  λ is.
      let after : version ≡ is.digits ++ (10 ∷ is.rest) =
      append_cancel_left (codes "realiser-journal ") _ _ (sym begins ∙ is.parts) in
      let same = (same_cut _ _ _ _ _ (digits_lack _ is.decimal) one
      (sym after ∙ line)).0 in (
        λ none. is.some (same ∙ none),
        subst (All (λ b. IsTrue (is_ascii_digit b))) same is.decimal,
        λ alone. is.not_one (same ∙ alone),
        λ alone. is.not_two (same ∙ alone),
        λ alone. is.not_three (same ∙ alone),
      ),
)

-- where there is no newline, no version stands
pub no_line : (bytes version : List ℕ) → bytes ≡ codes "realiser-journal " ++ version
    → Lacks 10 version → IsOtherVersion bytes → ⊥
no_line bytes version begins none is = search (rules, append_cancel_left, lacks_not)

-- ---- a version

-- a digit is no newline
digit_lacks : (digit : ℕ) → digit ≢ 10 → Lacks 10 (digit ∷ [])
digit_lacks digit other = search (rules, All-cons, All-nil)

-- bytes that begin with a version's line don't begin with that of another
pub not_other : (version : Version) (bytes : List ℕ) → BeginsVersion version bytes
    → IsOtherVersion bytes → ⊥
not_other One bytes (rest, whole) other =
    ((by_number _ _ _ _ whole refl (digit_lacks _ (λ e. absurd (omega (arith, e))))).1 other).2 refl
not_other Two bytes (rest, whole) other =
    ((by_number _ _ _ _ whole refl (digit_lacks _ (λ e. absurd (omega (arith, e))))).1 other).3 refl
not_other Three bytes (rest, whole) other =
    ((by_number _ _ _ _ whole refl (digit_lacks _ (λ e. absurd (omega (arith, e))))).1 other).4 refl

-- the byte that tells a version
abbrev digit_in : List ℕ → ℕ
digit_in bytes = get_or bytes 17 0

-- bytes begin with the line of one version
pub one_version : (a b : Version) (bytes : List ℕ) → BeginsVersion a bytes → BeginsVersion b bytes
    → a ≡ b
one_version One One bytes first second = refl
one_version One Two bytes (rest, one) (more, two) = search (rules, digit_in)
one_version Two One bytes (rest, one) (more, two) = search (rules, digit_in)
one_version Two Two bytes first second = refl
one_version One Three bytes (rest, one) (more, two) = search (rules, digit_in)
one_version Two Three bytes (rest, one) (more, two) = search (rules, digit_in)
one_version Three One bytes (rest, one) (more, two) = search (rules, digit_in)
one_version Three Two bytes (rest, one) (more, two) = search (rules, digit_in)
one_version Three Three bytes first second = refl

-- what is after a prefix, which is this line
pub stripped : (bytes line prefix : List ℕ) (found : Option (Bor (List ℕ))) → prefix ≡ line
    → MatchOption found ((rest : List ℕ) → bytes ≢ prefix ++ rest) (λ x. bytes ≡ prefix ++ x.now)
    → MatchOption found ((rest : List ℕ) → bytes ≢ line ++ rest) (λ x. bytes ≡ line ++ x.now)
stripped bytes line prefix found same is = search rules

-- bytes that begin with the line of none of the three versions begin with no version's
pub no_version : (bytes : List ℕ) → ((rest : List ℕ) → bytes ≢ version_line One ++ rest)
    → ((rest : List ℕ) → bytes ≢ version_line Two ++ rest)
    → ((rest : List ℕ) → bytes ≢ version_line Three ++ rest)
    → (version : Version) → BeginsVersion version bytes → ⊥
no_version bytes one two three One (rest, begins) = one rest begins
no_version bytes one two three Two (rest, begins) = two rest begins
no_version bytes one two three Three (rest, begins) = three rest begins

-- a text begins with the line of its version
pub text_begins : (version : Version) (dir bytes : List ℕ) (entries : List Entry)
    → IsTextIn version dir entries bytes → BeginsVersion version bytes
unfolding text
text_begins version dir bytes entries is = search rules

-- ---- the limits

-- no version has a greater limit than version 3
most : (version : Version) → max_len version ≤ max_len Three
most One = omega arith
most Two = omega arith
most Three = omega arith

-- bytes that begin with a version's line are too long where they are past its limit
pub too_long_in : (version : Version) (bytes : List ℕ) → BeginsVersion version bytes
    → (max_len version < length bytes) ↔ IsTooLong bytes
too_long_in version bytes begins = (λ long. inr (version, begins, long), back)
  where
    back : IsTooLong bytes → max_len version < length bytes
    back (inl long) = omega (arith, most version, long)
    back (inr (other, also, long)) = search (rules, one_version)

-- bytes that begin with no version's line are too long where they are past all limits
pub too_long_without : (bytes : List ℕ)
    → ((version : Version) → BeginsVersion version bytes → ⊥)
    → (max_len Three < length bytes) ↔ IsTooLong bytes
too_long_without bytes none = (λ long. inl long, back)
  where
    back : IsTooLong bytes → max_len Three < length bytes
    back (inl long) = long
    back (inr (version, begins, long)) = absurd (none version begins)
