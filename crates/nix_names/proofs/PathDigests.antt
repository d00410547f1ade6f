-- Hash parts made from digests.
use Rattle.std.proofs.Common.{◌≡◌, ◌<◌, ◌≤◌, ℕ, true, List, length, reverse, drop, bit_xor, ap, sym, ◌∙◌, lit<, rules}
use Rattle.std.specs.Int.Bits.{xor_zero_r}
use Rattle.std.proofs.lemmas.Bool.{and_from, eq-eqb}
use Rattle.std.proofs.lemmas.List.{drop_all}
use Rattle.std.proofs.lemmas.List.Elements.{All-weaker}
use Rattle.std.proofs.lemmas.List.Folds.{list_all-map}
use Rattle.std.proofs.lemmas.List.Sums.{list_all-from_AllPass}
use Rattle.std.proofs.lemmas.List.FromFn.{length-map-range_with_len}
use Rattle.nix_names.specs.Base32.{base32, digit_char, digits_of, is_digit, number, text_len}
use Rattle.nix_names.specs.StorePaths.{IsPathOf, fingerprint, fold, folded_at, is_hash_part, path_text, store_path}
use Rattle.nix_names.specs.Names.{is_name}
use Rattle.nix_names.proofs.Base32Chars.{is_digit_digit_char}
use Rattle.nix_names.proofs.Base32Digits.{digits_of_below}
use Rattle.nix_names.proofs.Base32Reading.{All-reverse}
use Rattle.nix_names.proofs.Base32Texts.{length_base32}
use Rattle.nix_names.proofs.PathTexts.{path_of_parts}
use Rattle.sha2.specs.Sha256.{sha256}

-- a byte of the fold, where the digest is after
pub folded_past : (x j i : ℕ) (digest : List ℕ) → length digest ≤ i
    → bit_xor x (folded_at j i (drop i digest)) ≡ folded_at j 0 digest → x ≡ folded_at j 0 digest
folded_past x j i digest past held =
    sym (xor_zero_r x) ∙ ap (λ rest. bit_xor x (folded_at j i rest)) (sym (drop_all i digest past))
    ∙ held

-- a folded digest has 20 bytes
length_fold : (digest : List ℕ) → length (fold digest) ≡ 20
unfolding fold
length_fold digest = length-map-range_with_len (λ j. folded_at j 0 digest) 0 20

-- the text of 20 bytes is a hash part
hash_part_of_bytes : (bytes : List ℕ) → length bytes ≡ 20 → is_hash_part (base32 bytes) ≡ true
unfolding base32 is_hash_part
hash_part_of_bytes bytes twenty =
    let digits : List ℕ = digits_of 32 (text_len (length bytes)) (number 256 bytes) in
    let below = All-reverse (λ d. d < 32) digits
    (digits_of_below 32 (text_len (length bytes)) (number 256 bytes) (lit< tt)) in
    let each = list_all-from_AllPass (λ d. is_digit (digit_char d)) (reverse digits)
    (All-weaker (λ d. d < 32) (λ d. is_digit (digit_char d) ≡ true) is_digit_digit_char
    (reverse digits) below) in
    and_from _ _ (eq-eqb _ _ (length_base32 bytes ∙ ap text_len twenty))
    (list_all-map is_digit digit_char (reverse digits) ∙ each)

-- the text of a folded digest is a hash part
pub hash_part_of_fold : (digest : List ℕ) → is_hash_part (base32 (fold digest)) ≡ true
hash_part_of_fold digest = hash_part_of_bytes (fold digest) (length_fold digest)

-- the store path of a name is a path of its folder
pub store_path_is_path : (kind inner dir name : List ℕ) → is_name name ≡ true
    → IsPathOf dir (store_path kind inner dir name)
unfolding store_path
store_path_is_path kind inner dir name named = path_of_parts dir _ name (hash_part_of_fold _) named

-- the text of the path made of a hash part's text, as it was computed
pub made_path : (kind inner dir name path digest folded hash : List ℕ) → path
    ≡ path_text dir hash name → hash ≡ base32 folded → folded ≡ fold digest → digest
    ≡ sha256 (fingerprint kind inner dir name) → path ≡ store_path kind inner dir name
unfolding store_path
made_path kind inner dir name path digest folded hash joined spelled fold_is digest_is =
    search rules
