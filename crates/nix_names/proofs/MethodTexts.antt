-- What the text of a digest with its method tells.
use Rattle.std.proofs.Common.{◌≡◌, ◌++◌, false, ap, refl}
use Rattle.nix_names.specs.Digests.{IsDigest, text_of}
use Rattle.nix_names.specs.Methods.{TextIsOfOneMethodDigest, is_marked, mark_of}
use Rattle.nix_names.specs.declared.digest.Digest.{Digest}
use Rattle.nix_names.specs.declared.digest.Digest.TheVariants.{Md5, Sha1, Sha256, Sha512}
use Rattle.nix_names.specs.declared.method.Method.{Method}
use Rattle.nix_names.specs.declared.method.Method.TheVariants.{Flat, Recursive}
use Rattle.nix_names.specs.declared.method.MethodDigest.{MethodDigest}
use Rattle.nix_names.proofs.DigestTexts.{one_text}

-- a digest's own text has no mark
pub text_unmarked : (digest : Digest) → is_marked (text_of digest) ≡ false
text_unmarked (Md5 bytes) = refl
text_unmarked (Sha1 bytes) = refl
text_unmarked (Sha256 bytes) = refl
text_unmarked (Sha512 bytes) = refl

-- two texts have one mark and one digest
one_of_each : (m n : Method) (x y : Digest) → IsDigest x → IsDigest y
    → mark_of m ++ text_of x ≡ mark_of n ++ text_of y → (m ≡ n) × (x ≡ y)
one_of_each Flat Flat x y is_x is_y same = (refl, one_text x y is_x is_y same)
one_of_each Flat Recursive x y is_x is_y same =
    let marked = ap is_marked same in
    cc (text_unmarked x)
one_of_each Recursive Flat x y is_x is_y same =
    let marked = ap is_marked same in
    cc (text_unmarked y)
one_of_each Recursive Recursive x y is_x is_y same =
    let rest : text_of x ≡ text_of y = cc in
    (refl, one_text x y is_x is_y rest)

-- a digest and its method
abbrev paired : Method → Digest → MethodDigest
paired method digest = record { method = method; digest = digest }

-- a digest with its method is told by both
with_parts : (m n : Method) (x y : Digest) → m ≡ n → x ≡ y → paired m x ≡ paired n y
with_parts m n x y same_method same_digest = cc

-- a text is that of one digest by one method
pub one_method_text : TextIsOfOneMethodDigest
one_method_text a b is_a is_b same =
    let both = one_of_each a.method b.method a.digest b.digest is_a is_b same in
    with_parts a.method b.method a.digest b.digest (both.0) (both.1)
