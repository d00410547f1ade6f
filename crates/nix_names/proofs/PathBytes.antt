-- The bytes of names and hash parts: none of them is a slash.
use Rattle.std.proofs.Common.{◌≡◌, ◌==◌, ℕ, Bool, true, false, not, List, refl, rules}
use Rattle.std.specs.List.{list_all, AllPass}
use Rattle.std.proofs.lemmas.Bool.{eqb-true, false_from_ne_true, false≢true, not_from_false}
use Rattle.std.proofs.lemmas.List.Sums.{AllPass-from_list_all}
use Rattle.nix_names.specs.Base32.{is_digit}
use Rattle.nix_names.specs.Names.{is_name_char}

-- a test that fails at a number fails to hold of what equals it
apart : (test : ℕ → Bool) (n b : ℕ) → test n ≡ false → test b ≡ true → (b == n) ≡ false
apart test n b fails passes = search (rules, false_from_ne_true, false≢true, eqb-true)

-- a byte of a name is no slash
pub no_slash_in_name : (b : ℕ) → is_name_char b ≡ true → (b == 47) ≡ false
unfolding is_name_char
no_slash_in_name b h = apart is_name_char 47 b refl h

-- a digit is no slash
pub no_slash_in_digit : (b : ℕ) → is_digit b ≡ true → (b == 47) ≡ false
no_slash_in_digit b h = apart is_digit 47 b refl h

-- a text whose bytes all pass a test that no slash passes has no slash
pub all_no_slash : (test : ℕ → Bool) → ((b : ℕ) → test b ≡ true → (b == 47) ≡ false) → (xs : List ℕ)
    → list_all test xs ≡ true → AllPass (λ b. not (b == 47)) xs
all_no_slash test apart_from xs h k d within = search (rules, not_from_false, AllPass-from_list_all)
