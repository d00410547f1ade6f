-- Digests of a file's bytes: an algorithm and the bytes that it gives (RFC 1321; FIPS 180-4), and
-- how they are written (Nix manual, "nix hash convert": base 16).
use Rattle.std.specs.Prelude.{◌≡◌, ◌++◌, ◌∷◌, ◌<◌, ℕ, All, codes, length}
use Rattle.hex.specs.Hex.{encode_lower}
use Rattle.nix_names.specs.Bytes.{Bytes, Name, Hash}
use Rattle.nix_names.specs.declared.digest.Algorithm.{Algorithm}
use Rattle.nix_names.specs.declared.digest.Algorithm.TheVariants.{Md5, Sha1, Sha256, Sha512}
use Rattle.nix_names.specs.declared.digest.Digest.{Digest}
use Rattle.nix_names.specs.declared.digest.Digest.TheVariants.{Md5 as OfMd5, Sha1 as OfSha1, Sha256 as OfSha256, Sha512 as OfSha512}

-- an algorithm's name
abbrev pub name_of : Algorithm → Name
name_of Md5 = codes "md5"
name_of Sha1 = codes "sha1"
name_of Sha256 = codes "sha256"
name_of Sha512 = codes "sha512"

-- how many bytes its digests have
abbrev pub size_of : Algorithm → ℕ
size_of Md5 = 16
size_of Sha1 = 20
size_of Sha256 = 32
size_of Sha512 = 64

-- a digest's algorithm
abbrev pub algorithm_of : Digest → Algorithm
algorithm_of (OfMd5 bytes) = Md5
algorithm_of (OfSha1 bytes) = Sha1
algorithm_of (OfSha256 bytes) = Sha256
algorithm_of (OfSha512 bytes) = Sha512

-- a digest's bytes
abbrev pub bytes_of : Digest → Hash
bytes_of (OfMd5 bytes) = bytes
bytes_of (OfSha1 bytes) = bytes
bytes_of (OfSha256 bytes) = bytes
bytes_of (OfSha512 bytes) = bytes

-- the digest of an algorithm with these bytes
abbrev pub digest_with : Algorithm → Hash → Digest
digest_with Md5 bytes = OfMd5 bytes
digest_with Sha1 bytes = OfSha1 bytes
digest_with Sha256 bytes = OfSha256 bytes
digest_with Sha512 bytes = OfSha512 bytes

-- some bytes can be a digest of the algorithm
abbrev pub IsOfSize : Algorithm → Hash → Type 0
IsOfSize algorithm bytes = (length bytes ≡ size_of algorithm) × All (λ byte. byte < 256) bytes

-- a digest has its algorithm's count of bytes
abbrev pub IsDigest : Digest → Type 0
IsDigest digest = IsOfSize (algorithm_of digest) (bytes_of digest)

-- a digest in lower-case hexadecimal digits
abbrev pub digits_of : Digest → Bytes
digits_of digest = encode_lower (bytes_of digest)

-- a digest in lower-case hexadecimal digits, with its algorithm's name and a colon before it
abbrev pub text_of : Digest → Bytes
text_of digest = name_of (algorithm_of digest) ++ 58 ∷ digits_of digest

-- a text with a name before it is that of one digest
abbrev pub TextIsOfOneDigest : Type 0
TextIsOfOneDigest = (a b : Digest) → IsDigest a → IsDigest b → text_of a ≡ text_of b → a ≡ b

-- digits are those of one digest of an algorithm
abbrev pub DigitsAreOfOneDigest : Type 0
DigitsAreOfOneDigest = (a b : Digest) → IsDigest a → IsDigest b → algorithm_of a ≡ algorithm_of b
    → digits_of a ≡ digits_of b → a ≡ b
