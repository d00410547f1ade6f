-- What a store keeps of a valid path (Dolstra's thesis, section 5.5; Nix manual, "Store Object":
-- references; Nix manual, "Nix Archive (NAR) format").
use Rattle.std.specs.Prelude.{◌<◌, ◌^◌, ℕ, List, Option}
use Rattle.nix_names.specs.Bytes.{Hash, Path}
use Rattle.nix_names.specs.Digests.{IsOfSize}
use Rattle.nix_names.specs.declared.digest.Algorithm.TheVariants.{Sha256}
use Rattle.nix_names.specs.declared.method.MethodDigest.{MethodDigest}

-- The SHA-256 of a path's archive (NAR), and the archive's length in bytes.
pub record NarInfo : Type 0 where
  pub hash : Hash
  pub size : ℕ

-- an archive is described by the 32 bytes of a SHA-256 and by a length below 2 to the 63
abbrev pub IsNarInfo : NarInfo → Type 0
IsNarInfo nar = IsOfSize Sha256 nar.hash × (nar.size < 2 ^ 63)

-- A path's references, the digest of its bytes where it is a file or else of its archive, and its
-- archive. Either of the last two may be unknown.
pub record PathInfo : Type 0 where
  pub references : List Path
  pub digest : Option MethodDigest
  pub nar : Option NarInfo
