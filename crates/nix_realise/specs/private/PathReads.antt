-- What was read of a path. No clause says what lies on disk, so that is some tree.
use Rattle.std.specs.Prelude.{◌≡◌, ◌<◌, ◌^◌, List, Option, Some, None, IfSome, length}
use Rattle.nix_archive.specs.Tokens.{Token, tokens_of}
use Rattle.nix_archive.specs.Trees.{IsArchivable, Tree}
use Rattle.nix_names.specs.Digests.{algorithm_of}
use Rattle.nix_names.specs.declared.digest.Algorithm.{Algorithm}
use Rattle.nix_names.specs.declared.digest.Digest.{Digest}
use Rattle.nix_names.specs.declared.method.Method.{Method}
use Rattle.nix_names.specs.declared.method.MethodDigest.{MethodDigest}
use Rattle.valid_table.specs.PathInfos.{NarInfo, PathInfo}
use Rattle.nix_realise.specs.Verifying.{HasSum, digest_in}
use Rattle.nix_realise.specs.declared.verification.path_read.PathRead.{PathRead}

-- A tree was heard, and the SHA-256 and the length of its archive are these.
pub record IsHeardWith {S : Type 0} (heard : S → List Token → S → Type 0) (before : S)
    (sum : NarInfo) (after : S) : Type 0 where
  pub tree : Tree
  pub archivable : IsArchivable tree
  pub has_sum : HasSum tree sum
  pub hears : heard before (tokens_of tree) after

-- A tree was read that has this sum, and this digest by a method, or no digest.
pub record IsReadOf (digest_of : Tree → Option Digest) (read : PathRead) : Type 0 where
  pub tree : Tree
  pub archivable : IsArchivable tree
  pub has_sum : HasSum tree read.sum
  pub digest : read.digest ≡ digest_of tree

-- a tree was read that has this sum, and its digest by a method and an algorithm
abbrev pub IsReadAs : Method → Algorithm → PathRead → Type 0
IsReadAs method algorithm read = IsReadOf (digest_in method algorithm) read

-- the digest of a tree by the method and the algorithm of one that is told, if one is
abbrev pub digest_like : Option MethodDigest → Tree → Option Digest
digest_like (Some told) tree = digest_in told.method (algorithm_of told.digest) tree
digest_like None tree = None

-- a tree was read that has this sum, and its digest by the method and the algorithm of one that is
-- told
abbrev pub IsReadBy : Option MethodDigest → PathRead → Type 0
IsReadBy told read = IsReadOf (digest_like told) read

-- what was read agrees with a record
abbrev pub Agrees : PathInfo → PathRead → Type 0
Agrees info read =
    IfSome info.digest (λ told. read.digest ≡ Some told.digest)
    × IfSome info.nar (λ sum. sum ≡ read.sum)
