-- Which bytes are the text of a digest, or of an archive, in a version.
use Rattle.std.proofs.Common.{◌≡◌, ◌≢◌, ℕ, List, Option, Some, None, ap, ◌∙◌, subst}
use Rattle.std.specs.Prelude.{MatchOption, codes}
use Rattle.nix_names.specs.Digests.{IsDigest, algorithm_of, digits_of, text_of}
use Rattle.nix_names.specs.declared.digest.Algorithm.TheVariants.{Sha256}
use Rattle.nix_names.specs.declared.digest.Digest.{Digest}
use Rattle.nix_names.specs.declared.method.Method.TheVariants.{Flat}
use Rattle.nix_names.specs.declared.method.MethodDigest.{MethodDigest}
use Rattle.valid_table.specs.PathInfos.{NarInfo}
use Rattle.valid_table.specs.Texts.{IsDigestOf, IsKnownOf, digest_text, known_text}
use Rattle.valid_table.specs.declared.path_table.version.Version.{Version}
use Rattle.valid_table.specs.declared.path_table.version.Version.TheVariants.{One, Two}

-- bytes that are neither a dash nor a digest's text are no text of one that may be none
pub no_digest : (version : Version) (text : List ℕ) → text ≢ codes "-"
    → ((digest : MethodDigest) → IsDigestOf version (Some digest)
    → text ≢ digest_text version (Some digest))
    → (digest : Option MethodDigest) → IsDigestOf version digest
    → text ≢ digest_text version digest
no_digest version text dash none None is = dash
no_digest version text dash none (Some digest) is = none digest is

-- a digest that was read as that of a file's bytes
abbrev IsFlat : Option Digest → Option MethodDigest → Type 0
IsFlat digest found =
    MatchOption found (digest ≡ None) (λ d. (digest ≡ Some d.digest) × (d.method ≡ Flat))

-- a digest that was read in version 1
one_read : (text : List ℕ) (read : Digest) (d : MethodDigest)
    → IsDigest read × (algorithm_of read ≡ Sha256) × (text ≡ digits_of read) → read ≡ d.digest
    → d.method ≡ Flat → IsDigestOf One (Some d) × (text ≡ digest_text One (Some d))
one_read text read d is same flat = (
  (flat, subst (λ x. algorithm_of x ≡ Sha256) same is.1, subst IsDigest same is.0),
  is.2 ∙ ap digits_of same,
)

-- a digest that was read in version 2
two_read : (text : List ℕ) (read : Digest) (d : MethodDigest)
    → IsDigest read × (text ≡ text_of read) → read ≡ d.digest
    → d.method ≡ Flat → IsDigestOf Two (Some d) × (text ≡ digest_text Two (Some d))
two_read text read d is same flat =
    ((flat, subst IsDigest same is.0), is.1 ∙ ap text_of same)

-- a digest's text in version 1 is the digits of a SHA-256
pub in_one : (text : List ℕ) (read : Option Digest) (found : Option MethodDigest)
    → MatchOption read
    ((digest : Digest) → IsDigest digest → algorithm_of digest ≡ Sha256 → text ≢ digits_of digest)
    (λ digest. IsDigest digest × (algorithm_of digest ≡ Sha256) × (text ≡ digits_of digest))
    → IsFlat read found
    → MatchOption found
    ((digest : MethodDigest) → IsDigestOf One (Some digest) → text ≢ digest_text One (Some digest))
    (λ digest. IsDigestOf One (Some digest) × (text ≡ digest_text One (Some digest)))
in_one text None None none flat = λ digest is. none digest.digest is.2 is.1
in_one text None (Some d) none flat = cc (flat.0)
in_one text (Some read) None is flat = cc (flat)
in_one text (Some read) (Some d) is flat =
    one_read text read d is (cc (flat.0)) flat.1

-- in version 2 it is an algorithm's name, a colon and the digits
pub in_two : (text : List ℕ) (read : Option Digest) (found : Option MethodDigest)
    → MatchOption read ((digest : Digest) → IsDigest digest → text ≢ text_of digest)
    (λ digest. IsDigest digest × (text ≡ text_of digest))
    → IsFlat read found
    → MatchOption found
    ((digest : MethodDigest) → IsDigestOf Two (Some digest) → text ≢ digest_text Two (Some digest))
    (λ digest. IsDigestOf Two (Some digest) × (text ≡ digest_text Two (Some digest)))
in_two text None None none flat = λ digest is. none digest.digest is.1
in_two text None (Some d) none flat = cc (flat.0)
in_two text (Some read) None is flat = cc (flat)
in_two text (Some read) (Some d) is flat =
    two_read text read d is (cc (flat.0)) flat.1

-- in versions 1 and 2 nothing but a digest is known of a path
pub no_known_one : (text : List ℕ)
    → ((digest : Option MethodDigest) → IsDigestOf One digest → text ≢ digest_text One digest)
    → (digest : Option MethodDigest) (nar : Option NarInfo) → IsKnownOf One digest nar
    → text ≢ known_text One digest nar
no_known_one text none digest nar is = none digest is.0

pub no_known_two : (text : List ℕ)
    → ((digest : Option MethodDigest) → IsDigestOf Two digest → text ≢ digest_text Two digest)
    → (digest : Option MethodDigest) (nar : Option NarInfo) → IsKnownOf Two digest nar
    → text ≢ known_text Two digest nar
no_known_two text none digest nar is = none digest is.0
