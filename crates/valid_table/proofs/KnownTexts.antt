-- What is known of a path has one text in a version.
use Rattle.std.proofs.Common.{◌≡◌, ◌≢◌, ◌∷◌, Option, Some, None, length, refl, ap, sym, ◌∙◌, arith, codes}
use Rattle.std.specs.Prelude.{◌≤◌, decimal}
use Rattle.std.proofs.lemmas.Fmt.{decimal_injective}
use Rattle.std.proofs.lemmas.List.{length-append}
use Rattle.hex.specs.Hex.{encode_lower, lower_digits}
use Rattle.hex.proofs.HexLemmas.{length-encode_with}
use Rattle.nix_names.specs.Digests.{IsDigest, algorithm_of, bytes_of, digits_of, name_of, size_of, text_of}
use Rattle.nix_names.specs.Methods.{mark_of, method_text_of}
use Rattle.nix_names.specs.declared.digest.Algorithm.{Algorithm}
use Rattle.nix_names.specs.declared.digest.Algorithm.TheVariants.{Md5, Sha1, Sha256, Sha512}
use Rattle.nix_names.specs.declared.digest.Digest.{Digest}
use Rattle.nix_names.specs.declared.method.MethodDigest.{MethodDigest}
use Rattle.valid_table.specs.PathInfos.{IsNarInfo, NarInfo}
use Rattle.valid_table.specs.Texts.{IsDigestOf, IsKnownOf, IsNarOf, digest_text, known_text, nar_text}
use Rattle.valid_table.specs.declared.path_table.version.Version.{Version}
use Rattle.valid_table.specs.declared.path_table.version.Version.TheVariants.{One, Two, Three}
use Rattle.valid_table.proofs.Separators.{digest_lacks, hex_lacks, same_cut, space}
use Rattle.nix_names.proofs.DigestTexts.{one_digest, one_list, one_text}
use Rattle.nix_names.proofs.MethodTexts.{one_method_text}

-- ---- digests

-- an algorithm's digests have two bytes at least
some_bytes : (algorithm : Algorithm) → 2 ≤ size_of algorithm
some_bytes Md5 = omega arith
some_bytes Sha1 = omega arith
some_bytes Sha256 = omega arith
some_bytes Sha512 = omega arith

-- a digest's digits are two at least
some_digits : (digest : Digest) → IsDigest digest → 2 ≤ length (digits_of digest)
some_digits digest is = omega (
  arith,
  length-encode_with lower_digits (bytes_of digest),
  is.0,
  some_bytes (algorithm_of digest),
)

-- so is its text
some_text : (digest : Digest) → IsDigest digest → 2 ≤ length (text_of digest)
some_text digest is = omega (
  arith,
  length-append (name_of (algorithm_of digest)) (58 ∷ digits_of digest),
  some_digits digest is,
)

-- and the text of it by a method
some_method_text : (found : MethodDigest) → IsDigest found.digest
    → 2 ≤ length (method_text_of found)
some_method_text found is = omega (
  arith,
  length-append (mark_of found.method) (text_of found.digest),
  some_text found.digest is,
)

-- a digest's text isn't that of none
no_dash : (version : Version) (found : MethodDigest) → IsDigestOf version (Some found)
    → codes "-" ≢ digest_text version (Some found)
no_dash One found is e = absurd (omega (arith, ap length e, some_digits found.digest is.2))
no_dash Two found is e = absurd (omega (arith, ap length e, some_text found.digest is.1))
no_dash Three found is e = absurd (omega (arith, ap length e, some_method_text found is))

-- digests by one method are the same where they are
same_found : (a b : MethodDigest) → a.method ≡ b.method → a.digest ≡ b.digest → a ≡ b
same_found a b method digest = λ j. record { method = method j; digest = digest j }

-- a digest has one text
same_digest : (version : Version) (a b : Option MethodDigest) → IsDigestOf version a
    → IsDigestOf version b → digest_text version a ≡ digest_text version b → a ≡ b
same_digest version None None one two e = refl
same_digest version None (Some b) one two e = absurd (no_dash version b two e)
same_digest version (Some a) None one two e = absurd (no_dash version a one (sym e))
same_digest One (Some a) (Some b) one two e =
    ap Some (same_found a b (one.0 ∙ sym two.0)
    (one_digest a.digest b.digest one.2 two.2 (one.1 ∙ sym two.1) e))
same_digest Two (Some a) (Some b) one two e =
    ap Some (same_found a b (one.0 ∙ sym two.0) (one_text a.digest b.digest one.1 two.1 e))
same_digest Three (Some a) (Some b) one two e = ap Some (one_method_text a b one two e)

-- ---- archives

-- an archive's text isn't that of none
no_nar_dash : (nar : NarInfo) → IsNarInfo nar → codes "-" ≢ nar_text (Some nar)
no_nar_dash nar is e = absurd (omega (
  arith,
  ap length e,
  length-append (encode_lower nar.hash) (58 ∷ decimal nar.size),
  length-encode_with lower_digits nar.hash,
  is.0.0,
))

-- archives with one digest and one length are one
same_parts : (a b : NarInfo) → a.hash ≡ b.hash → a.size ≡ b.size → a ≡ b
same_parts a b hash size = λ j. record { hash = hash j; size = size j }

-- an archive has one text
same_nar : (a b : NarInfo) → IsNarInfo a → IsNarInfo b → nar_text (Some a) ≡ nar_text (Some b)
    → a ≡ b
same_nar a b one two e =
    let cut = same_cut 58 (encode_lower a.hash) (encode_lower b.hash) _ _
    (hex_lacks 58 refl a.hash one.0.1) (hex_lacks 58 refl b.hash two.0.1) e in
    same_parts a b (one_list 32 a.hash b.hash one.0 two.0 cut.0)
    (decimal_injective a.size b.size (omega (arith, one.1)) (omega (arith, two.1)) cut.1)

-- so has one that may be none
same_nars : (a b : Option NarInfo) → IsNarOf Three a → IsNarOf Three b → nar_text a ≡ nar_text b
    → a ≡ b
same_nars None None one two e = refl
same_nars None (Some b) one two e = absurd (no_nar_dash b two e)
same_nars (Some a) None one two e = absurd (no_nar_dash a one (sym e))
same_nars (Some a) (Some b) one two e = ap Some (same_nar a b one two e)

-- ---- both

-- version 1 has no archive
none_in_one : (a b : Option NarInfo) → IsNarOf One a → IsNarOf One b → a ≡ b
none_in_one None None one two = refl
none_in_one None (Some b) one two = absurd two
none_in_one (Some a) b one two = absurd one

-- nor has version 2
none_in_two : (a b : Option NarInfo) → IsNarOf Two a → IsNarOf Two b → a ≡ b
none_in_two None None one two = refl
none_in_two None (Some b) one two = absurd two
none_in_two (Some a) b one two = absurd one

-- what is known of a path has one text
pub same_known : (version : Version) (a b : Option MethodDigest) (m n : Option NarInfo)
    → IsKnownOf version a m → IsKnownOf version b n
    → known_text version a m ≡ known_text version b n → (a ≡ b) × (m ≡ n)
same_known One a b m n one two e =
    (same_digest One a b one.0 two.0 e, none_in_one m n one.1 two.1)
same_known Two a b m n one two e =
    (same_digest Two a b one.0 two.0 e, none_in_two m n one.1 two.1)
same_known Three a b m n one two e =
    let cut = same_cut 32 (digest_text Three a) (digest_text Three b) (nar_text m) (nar_text n)
    (digest_lacks 32 space Three a one.0) (digest_lacks 32 space Three b two.0) e in
    (same_digest Three a b one.0 two.0 cut.0, same_nars m n one.1 two.1 cut.1)
