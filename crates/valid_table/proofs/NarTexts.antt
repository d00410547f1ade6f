-- Which bytes are the text of an archive, and which are a number in decimal.
use Rattle.std.proofs.Common.{◌≡◌, ◌≢◌, ◌<◌, ◌≤◌, ◌^◌, ℕ, List, ◌∷◌, ◌++◌, Option, Some, None, Result, Ok, Err, refl, sym, ap, ◌∙◌, subst, arith}
use Rattle.std.specs.Prelude.{MatchOption, codes, decimal}
use Rattle.std.specs.Str.{IsUtf8}
use Rattle.std.specs.Str.Parse.{ParsesUnsigned}
use Rattle.std.proofs.lemmas.Fmt.{IsAscii-decimal, decimal_injective, parse-decimal}
use Rattle.std.proofs.lemmas.Str.{IsUtf8-from_ascii}
use Rattle.hex.specs.Hex.{encode_lower}
use Rattle.nix_names.specs.Digests.{IsDigest, IsOfSize, algorithm_of, digits_of}
use Rattle.nix_names.specs.declared.digest.Algorithm.TheVariants.{Sha256}
use Rattle.nix_names.specs.declared.digest.Digest.{Digest}
use Rattle.nix_names.specs.declared.digest.Digest.TheVariants.{Sha256 as OfSha256}
use Rattle.nix_names.specs.declared.method.MethodDigest.{MethodDigest}
use Rattle.valid_table.specs.PathInfos.{IsNarInfo, NarInfo}
use Rattle.valid_table.specs.Texts.{IsDigestOf, IsKnownOf, IsNarOf, digest_text, known_text, nar_text}
use Rattle.valid_table.specs.declared.path_table.version.Version.TheVariants.{Three}
use Rattle.valid_table.proofs.Separators.{Lacks, digest_lacks, hex_lacks, lacks_not, same_cut, space}

-- ---- numbers

-- a number is text
pub not_text : (text : List ℕ) (n : ℕ) → n < 2 ^ 64 → (IsUtf8 text → ⊥) → text ≢ decimal n
not_text text n below other e =
    other (subst IsUtf8 (sym e) (IsUtf8-from_ascii (decimal n) (IsAscii-decimal n below)))

-- a number is read from its own text
pub read_back : {E : Type 0} (text : List ℕ) (n number : ℕ) (r : Result ℕ E) → n < 2 ^ 64
    → text ≡ decimal n → ParsesUnsigned 64 10 text r → r ≡ Ok number → text ≡ decimal number
read_back text n number r below e parses is =
    let back : r ≡ Ok n = parse-decimal 64 n text r below below e parses in
    let same : n ≡ number = cc in
    e ∙ ap decimal same

-- text that is not read as a number is none
pub not_parsed : {E : Type 0} (text : List ℕ) (n : ℕ) (r : Result ℕ E) (fault : E) → n < 2 ^ 64
    → ParsesUnsigned 64 10 text r → r ≡ Err fault → text ≢ decimal n
not_parsed text n r fault below parses is e =
    let back : r ≡ Ok n = parse-decimal 64 n text r below below e parses in cc

-- ---- archives

-- bytes that are neither a dash nor an archive's text are no text of one that may be none
pub no_nar : (text : List ℕ) → text ≢ codes "-"
    → ((nar : NarInfo) → IsNarInfo nar → text ≢ nar_text (Some nar))
    → (nar : Option NarInfo) → IsNarOf Three nar → text ≢ nar_text nar
no_nar text dash none None is = dash
no_nar text dash none (Some nar) is = none nar is

-- bytes without a colon are no archive's text
pub no_colon : (text : List ℕ) → Lacks 58 text → (nar : NarInfo) → text ≢ nar_text (Some nar)
no_colon text none nar e =
    lacks_not 58 (encode_lower nar.hash) (decimal nar.size) (subst (Lacks 58) e none)

-- what stands before the colon of an archive's text, and after it
both_parts : (text digits length : List ℕ) → Lacks 58 digits → text ≡ digits ++ 58 ∷ length
    → (nar : NarInfo) → IsNarInfo nar → text ≡ nar_text (Some nar)
    → (digits ≡ encode_lower nar.hash) × (length ≡ decimal nar.size)
both_parts text digits length none parts nar is e =
    same_cut 58 digits (encode_lower nar.hash) length (decimal nar.size) none
    (hex_lacks 58 refl nar.hash is.0.1) (sym parts ∙ e)

-- digits of no SHA-256 before the colon
pub no_hash : (text digits length : List ℕ) → Lacks 58 digits → text ≡ digits ++ 58 ∷ length
    → ((hash : List ℕ) → IsOfSize Sha256 hash → digits ≢ encode_lower hash)
    → (nar : NarInfo) → IsNarInfo nar → text ≢ nar_text (Some nar)
no_hash text digits length none parts other nar is e =
    other nar.hash is.0 (both_parts text digits length none parts nar is e).0

-- no number after the colon
pub no_size : (text digits length : List ℕ) → Lacks 58 digits → text ≡ digits ++ 58 ∷ length
    → ((n : ℕ) → n < 2 ^ 64 → length ≢ decimal n)
    → (nar : NarInfo) → IsNarInfo nar → text ≢ nar_text (Some nar)
no_size text digits length none parts other nar is e =
    other nar.size (omega (arith, is.1)) (both_parts text digits length none parts nar is e).1

-- too great a number after the colon
pub great_size : (text digits length : List ℕ) (size : ℕ) → Lacks 58 digits
    → text ≡ digits ++ 58 ∷ length → length ≡ decimal size → size < 2 ^ 64 → 2 ^ 63 ≤ size
    → (nar : NarInfo) → IsNarInfo nar → text ≢ nar_text (Some nar)
great_size text digits length size none parts number below great nar is e =
    let same : nar.size ≡ size = decimal_injective nar.size size (omega (arith, is.1)) below
    (sym (both_parts text digits length none parts nar is e).1 ∙ number) in
    absurd (omega (arith, is.1, same, great))

-- digits of no digest by SHA-256 are digits of no 32 bytes
pub no_digits : (digits : List ℕ)
    → ((digest : Digest) → IsDigest digest → algorithm_of digest ≡ Sha256
    → digits ≢ digits_of digest)
    → (hash : List ℕ) → IsOfSize Sha256 hash → digits ≢ encode_lower hash
no_digits digits none hash is = none (OfSha256 hash) is refl

-- what is answered for 32 bytes and a number
pub answered : (text digits length hash : List ℕ) (size : ℕ) (found : Option NarInfo)
    → Lacks 58 digits → text ≡ digits ++ 58 ∷ length
    → IsOfSize Sha256 hash × (digits ≡ encode_lower hash)
    → (size < 2 ^ 64) × (length ≡ decimal size)
    → MatchOption found (2 ^ 63 ≤ size)
    (λ nar. (nar.hash ≡ hash) × (nar.size ≡ size) × (size < 2 ^ 63))
    → MatchOption found ((nar : NarInfo) → IsNarInfo nar → text ≢ nar_text (Some nar))
    (λ nar. IsNarInfo nar × (text ≡ nar_text (Some nar)))
answered text digits length hash size None none parts is_hash number great =
    great_size text digits length size none parts number.1 number.0 great
answered text digits length hash size (Some nar) none parts is_hash number is = (
  (subst (IsOfSize Sha256) (sym is.0) is_hash.0, omega (arith, is.1, is.2)),
  parts ∙ ap (λ (d : List ℕ). d ++ 58 ∷ length) (is_hash.1 ∙ ap encode_lower (sym is.0))
      ∙ ap (λ (l : List ℕ). encode_lower nar.hash ++ 58 ∷ l) (number.1 ∙ ap decimal (sym is.1)),
)

-- ---- what is known of a path in version 3

-- it has a space
pub no_space : (text : List ℕ) → Lacks 32 text
    → (digest : Option MethodDigest) (nar : Option NarInfo) → text ≢ known_text Three digest nar
no_space text none digest nar e =
    lacks_not 32 (digest_text Three digest) (nar_text nar) (subst (Lacks 32) e none)

-- what stands before the space, and after it
known_parts : (text before after : List ℕ) → Lacks 32 before → text ≡ before ++ 32 ∷ after
    → (digest : Option MethodDigest) (nar : Option NarInfo) → IsKnownOf Three digest nar
    → text ≡ known_text Three digest nar
    → (before ≡ digest_text Three digest) × (after ≡ nar_text nar)
known_parts text before after none parts digest nar is e =
    same_cut 32 before (digest_text Three digest) after (nar_text nar) none
    (digest_lacks 32 space Three digest is.0) (sym parts ∙ e)

-- no digest's text before the space
pub no_digest : (text before after : List ℕ) → Lacks 32 before → text ≡ before ++ 32 ∷ after
    → ((digest : Option MethodDigest) → IsDigestOf Three digest
    → before ≢ digest_text Three digest)
    → (digest : Option MethodDigest) (nar : Option NarInfo) → IsKnownOf Three digest nar
    → text ≢ known_text Three digest nar
no_digest text before after none parts other digest nar is e =
    other digest is.0 (known_parts text before after none parts digest nar is e).0

-- no archive's text after the space
pub no_archive : (text before after : List ℕ) → Lacks 32 before → text ≡ before ++ 32 ∷ after
    → ((nar : Option NarInfo) → IsNarOf Three nar → after ≢ nar_text nar)
    → (digest : Option MethodDigest) (nar : Option NarInfo) → IsKnownOf Three digest nar
    → text ≢ known_text Three digest nar
no_archive text before after none parts other digest nar is e =
    other nar is.1 (known_parts text before after none parts digest nar is e).1
