-- The sum of the archive of an output.
use Rattle.std.specs.Prelude.{◌≡◌, ℕ, length}
use Rattle.sha2.specs.Sha256.{sha256}
use Rattle.nix_names.specs.Bytes.{Bytes}
use Rattle.nix_names.specs.Digests.{algorithm_of}
use Rattle.nix_names.specs.declared.digest.Algorithm.{Algorithm}
use Rattle.nix_names.specs.declared.digest.Algorithm.TheVariants.{Sha256}
use Rattle.nix_names.specs.declared.method.Method.TheVariants.{Flat, Recursive}
use Rattle.drv_graph.specs.declared.kinds.Kind.{Kind}
use Rattle.drv_graph.specs.declared.kinds.Kind.TheVariants.{Addressed, Fixed}
use Rattle.ref_scan.specs.declared.tree.Tree.{Tree}
use Rattle.build_outcome.specs.declared.sums.OutputSum.{OutputSum}
use Rattle.build_outcome.specs.Verdicts.{HasArchive, digest_by}

-- the algorithm by which archives of outputs of a kind are hashed: the declared one, and else
-- SHA-256
abbrev pub archive_algorithm : Kind → Algorithm
archive_algorithm (Fixed Recursive declared) = algorithm_of declared
archive_algorithm (Fixed Flat declared) = Sha256
archive_algorithm Addressed = Sha256

-- The sum of the archive of an output's tree.
pub record IsOutputSum (kind : Kind) (tree : Tree) (sum : OutputSum) : Type 0 where
  pub bytes : Bytes
  pub has : HasArchive tree bytes
  pub hash : sum.nar.hash ≡ sha256 bytes
  pub size : sum.nar.size ≡ length bytes
  pub digest : sum.digest ≡ digest_by (archive_algorithm kind) bytes
