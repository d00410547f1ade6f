-- Bytes and their hexadecimal digits, and what the digits and the text of a digest tell.
use Rattle.std.proofs.Common.{◌≡◌, ◌≢◌, ◌<◌, ℕ, List, [], ◌∷◌, ◌++◌, length, Option, Some, None, Ok, refl, sym, arith, rules}
use Rattle.std.specs.Prelude.{All, MatchOption}
use Rattle.std.proofs.lemmas.Bool.{cases_lt}
use Rattle.std.proofs.lemmas.List.{get_or_past}
use Rattle.std.proofs.lemmas.List.Elements.{All-cons, All-head, All-nil, All-tail}
use Rattle.hex.specs.Hex.{IsBytes, decode_sized, encode_lower}
use Rattle.hex.proofs.HexLemmas.{decode_sized-encode_lower}
use Rattle.nix_names.specs.Digests.{DigitsAreOfOneDigest, IsDigest, TextIsOfOneDigest, algorithm_of, bytes_of, digest_with, digits_of, name_of, text_of}
use Rattle.nix_names.specs.declared.digest.Algorithm.{Algorithm}
use Rattle.nix_names.specs.declared.digest.Algorithm.TheVariants.{Md5, Sha1, Sha256, Sha512}
use Rattle.nix_names.specs.declared.digest.Digest.{Digest}
use Rattle.nix_names.specs.declared.digest.Digest.TheVariants.{Md5 as OfMd5, Sha1 as OfSha1, Sha256 as OfSha256, Sha512 as OfSha512}

-- ---- bytes and their digits

-- so many bytes
abbrev pub AreBytes : ℕ → List ℕ → Type 0
AreBytes n bytes = (length bytes ≡ n) × All (λ byte. byte < 256) bytes

-- bytes are bytes at every index
pub bytes_everywhere : (xs : List ℕ) → All (λ b. b < 256) xs → IsBytes xs
bytes_everywhere xs each i = search (rules, cases_lt, get_or_past)

-- the digits of bytes decode to them
pub digits_decode : (n : ℕ) (bytes : List ℕ) → AreBytes n bytes
    → decode_sized (encode_lower bytes) n ≡ Ok bytes
digits_decode n bytes are = decode_sized-encode_lower bytes n are.0 (bytes_everywhere bytes are.1)

-- bytes are told by their digits
pub one_list : (n : ℕ) (a b : List ℕ) → AreBytes n a → AreBytes n b
    → encode_lower a ≡ encode_lower b → a ≡ b
one_list n a b are_a are_b same =
    let first = digits_decode n a are_a in
    let second = rw (← same) at (digits_decode n b are_b) in
    cc

-- ---- digests

-- a digest is told by its algorithm and its bytes
pub made_again : (digest : Digest) → digest_with (algorithm_of digest) (bytes_of digest) ≡ digest
made_again (OfMd5 bytes) = refl
made_again (OfSha1 bytes) = refl
made_again (OfSha256 bytes) = refl
made_again (OfSha512 bytes) = refl

-- digits are those of one digest of an algorithm
pub one_digest : DigitsAreOfOneDigest
one_digest a b is_a is_b algorithm digits = search (rules, one_list, made_again)

-- ---- texts

-- a list has no colon
abbrev pub LacksColon : List ℕ → Type 0
LacksColon xs = All (λ x. x ≢ 58) xs

-- a name has none
pub name_lacks_colon : (algorithm : Algorithm) → LacksColon (name_of algorithm)
name_lacks_colon Md5 = search (rules, All-cons, All-nil)
name_lacks_colon Sha1 = search (rules, All-cons, All-nil)
name_lacks_colon Sha256 = search (rules, All-cons, All-nil)
name_lacks_colon Sha512 = search (rules, All-cons, All-nil)

-- a text with one doesn't
pub lacks_not : (xs rest : List ℕ) → LacksColon (xs ++ 58 ∷ rest) → ⊥
lacks_not [] rest none = All-head (λ z. z ≢ 58) 58 rest none refl
lacks_not (x ∷ xs) rest none =
    lacks_not xs rest (All-tail (λ z. z ≢ 58) x (xs ++ 58 ∷ rest) none)

-- two texts are cut at the first colon in the same way
pub same_cut : (xs ys x y : List ℕ) → LacksColon xs → LacksColon ys
    → xs ++ 58 ∷ x ≡ ys ++ 58 ∷ y → (xs ≡ ys) × (x ≡ y)
same_cut [] [] x y none other e = (refl, cc)
same_cut [] (c ∷ ys) x y none other e = search (rules, All-head)
same_cut (a ∷ xs) [] x y none other e = search (rules, All-head)
same_cut (a ∷ xs) (c ∷ ys) x y none other e =
    let rest : xs ++ 58 ∷ x ≡ ys ++ 58 ∷ y = cc in
    let same = same_cut xs ys x y (All-tail (λ z. z ≢ 58) a xs none)
    (All-tail (λ z. z ≢ 58) c ys other) rest in
    (cc (same.0), same.1)

one_number : (a b : ℕ) → a < b → a ≡ b → ⊥
one_number a b less same = omega arith

names_differ : name_of Sha256 ≡ name_of Sha512 → ⊥
names_differ same = search (rules, one_number)

-- an algorithm is told by its name
pub one_name : (a b : Algorithm) → name_of a ≡ name_of b → a ≡ b
one_name Md5 Md5 same = refl
one_name Md5 Sha1 same = cc
one_name Md5 Sha256 same = cc
one_name Md5 Sha512 same = cc
one_name Sha1 Md5 same = cc
one_name Sha1 Sha1 same = refl
one_name Sha1 Sha256 same = cc
one_name Sha1 Sha512 same = cc
one_name Sha256 Md5 same = cc
one_name Sha256 Sha1 same = cc
one_name Sha256 Sha256 same = refl
one_name Sha256 Sha512 same =
    absurd (names_differ same)
one_name Sha512 Md5 same = cc
one_name Sha512 Sha1 same = cc
one_name Sha512 Sha256 same =
    absurd (names_differ (sym same))
one_name Sha512 Sha512 same = refl

-- a text is that of one digest
pub one_text : TextIsOfOneDigest
one_text a b is_a is_b same = search (rules, same_cut, name_lacks_colon, one_digest, one_name)

-- ---- texts that are read

-- no digest is answered where a text is none's
pub none_answer : (text : List ℕ) (answer : Option Digest) → answer ≡ None
    → ((digest : Digest) → IsDigest digest → text ≢ text_of digest)
    → MatchOption answer ((digest : Digest) → IsDigest digest → text ≢ text_of digest)
    (λ digest. IsDigest digest × (text ≡ text_of digest))
none_answer text None is other = other
none_answer text (Some digest) is other = cc is

-- a text without a colon is no digest's
pub no_colon : (text : List ℕ) → LacksColon text
    → (digest : Digest) → IsDigest digest → text ≢ text_of digest
no_colon text none digest is same = search (rules, lacks_not)

-- the name and the digits of a digest's text
text_parts : (text name digits : List ℕ) → LacksColon name → text ≡ name ++ 58 ∷ digits
    → (digest : Digest) → text ≡ text_of digest
    → (name ≡ name_of (algorithm_of digest)) × (digits ≡ digits_of digest)
text_parts text name digits none parts digest same = search (rules, same_cut, name_lacks_colon)

-- a text with another name is no digest's
pub no_name : (text name digits : List ℕ) → LacksColon name → text ≡ name ++ 58 ∷ digits
    → ((algorithm : Algorithm) → name ≢ name_of algorithm)
    → (digest : Digest) → IsDigest digest → text ≢ text_of digest
no_name text name digits none parts other digest is same = search (rules, text_parts)
