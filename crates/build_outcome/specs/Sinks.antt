-- What sinks hold that hash by any algorithm, and that sum an archive.
use Rattle.std.specs.Prelude.{◌≡◌, Option, Some, None, List, ◌++◌, ℕ}
use Rattle.md5.specs.Md5.{Holds as Md5Holds}
use Rattle.sha1.specs.Sha1.{Holds as Sha1Holds}
use Rattle.sha2.specs.Hashers.{Holds256, Holds512}
use Rattle.nix_archive.specs.Sums.{IsSum}
use Rattle.nix_names.specs.Bytes.{Bytes}
use Rattle.nix_names.specs.declared.digest.Algorithm.{Algorithm}
use Rattle.nix_names.specs.declared.digest.Algorithm.TheVariants as by
use Rattle.drv_graph.specs.declared.kinds.Kind.{Kind}
use Rattle.build_outcome.specs.declared.hearers.algorithm_sink.AlgorithmSink.{AlgorithmSink}
use Rattle.build_outcome.specs.declared.hearers.algorithm_sink.AlgorithmSink.TheVariants.{Md5, Sha1, Sha256, Sha512}
use Rattle.build_outcome.specs.declared.hearers.archive_sink.ArchiveSink.{ArchiveSink}
use Rattle.build_outcome.specs.Sums.{archive_algorithm}

-- the sink hashes by this algorithm, and took these bytes
abbrev pub Hashes : AlgorithmSink → Algorithm → Bytes → Type 0
Hashes (Md5 hasher) by.Md5 bytes = Md5Holds hasher bytes
Hashes (Sha1 hasher) by.Sha1 bytes = Sha1Holds hasher bytes
Hashes (Sha256 hasher) by.Sha256 bytes = Holds256 hasher bytes
Hashes (Sha512 hasher) by.Sha512 bytes = Holds512 hasher bytes
Hashes sink algorithm bytes = ⊥

-- a sink became another one by taking these bytes
abbrev pub IsHashedBy : AlgorithmSink → Bytes → AlgorithmSink → Type 0
IsHashedBy s bytes t =
    (algorithm : Algorithm) (before : Bytes) → Hashes s algorithm before
    → Hashes t algorithm (before ++ bytes)

-- what is hashed of an archive beside its SHA-256: nothing where this is the algorithm
abbrev pub HashesBeside : Option AlgorithmSink → Algorithm → Bytes → Type 0
HashesBeside None algorithm bytes = algorithm ≡ by.Sha256
HashesBeside (Some sink) algorithm bytes = Hashes sink algorithm bytes

-- The sink took these bytes of an archive of an output of this kind.
pub record SumsArchive (kind : Kind) (bytes : Bytes) (sink : ArchiveSink) : Type 0 where
  pub sum : IsSum Holds256 bytes sink.sum.length sink.sum.hasher
  pub declared : HashesBeside sink.declared (archive_algorithm kind) bytes

-- a sink became another one by taking these bytes of an archive
abbrev pub IsSummedBy : ArchiveSink → Bytes → ArchiveSink → Type 0
IsSummedBy s bytes t =
    (kind : Kind) (before : Bytes) → SumsArchive kind before s
    → SumsArchive kind (before ++ bytes) t
