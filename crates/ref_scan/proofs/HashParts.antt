-- What stands in a hash part: 32 digits.
use Rattle.std.proofs.Common.{◌≡◌, ℕ, ◌<◌, true, List, length, get_or, rules}
use Rattle.std.specs.Prelude.{IsTrue}
use Rattle.std.proofs.lemmas.Bool.{and_parts}
use Rattle.std.proofs.lemmas.List.Elements.{All-get_or}
use Rattle.std.proofs.lemmas.List.Sums.{AllPass-from_list_all}
use Rattle.nix_names.specs.Base32.{is_digit}
use Rattle.nix_names.specs.StorePaths.{is_hash_part}
use Rattle.nix_names.proofs.PathTexts.{hash_part_len}

pub hash_part_long : (part : List ℕ) → IsTrue (is_hash_part part) → length part ≡ 32
hash_part_long part is = hash_part_len part is

pub hash_part_digit : (part : List ℕ) → IsTrue (is_hash_part part) → (i : ℕ) → i < 32
    → is_digit (get_or part i 0) ≡ true
unfolding is_hash_part
hash_part_digit part is i lt =
    search (rules, All-get_or, hash_part_len, AllPass-from_list_all, and_parts)
