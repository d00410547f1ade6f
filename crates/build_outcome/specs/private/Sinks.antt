-- What sinks tell, and that what they take joins.
use Rattle.std.specs.Prelude.{◌≡◌, ◌<◌, ◌≤◌, ◌^◌, Option, Some, None, [], ◌++◌, length}
use Rattle.std.proofs.Common.{append-nil, append_assoc, subst, sym}
use Rattle.sha2.specs.Sha256.{sha256}
use Rattle.nix_names.specs.Bytes.{Bytes}
use Rattle.drv_graph.specs.declared.kinds.Kind.{Kind}
use Rattle.build_outcome.specs.declared.hearers.algorithm_sink.AlgorithmSink.{AlgorithmSink}
use Rattle.build_outcome.specs.declared.hearers.archive_sink.ArchiveSink.{ArchiveSink}
use Rattle.build_outcome.specs.declared.sums.OutputSum.{OutputSum}
use Rattle.build_outcome.specs.Sinks.{Hashes, IsHashedBy, IsSummedBy, SumsArchive}
use Rattle.build_outcome.specs.Sums.{archive_algorithm}
use Rattle.build_outcome.specs.Verdicts.{digest_by}

-- The sum of an archive for an output of this kind.
pub record IsSumFor (kind : Kind) (bytes : Bytes) (sum : OutputSum) : Type 0 where
  pub sized : length bytes < 2 ^ 63
  pub hash : sum.nar.hash ≡ sha256 bytes
  pub size : sum.nar.size ≡ length bytes
  pub digest : sum.digest ≡ digest_by (archive_algorithm kind) bytes

-- what is told of an archive: its sum, or that it has 2^63 bytes or more
abbrev pub TellsSumFor : Kind → Bytes → Option OutputSum → Type 0
TellsSumFor kind bytes None = 2 ^ 63 ≤ length bytes
TellsSumFor kind bytes (Some sum) = IsSumFor kind bytes sum

pub hashed_none : (s : AlgorithmSink) → IsHashedBy s [] s
hashed_none s = λ algorithm before held.
    subst (Hashes s algorithm) (sym (append-nil before)) held

pub hashed_both : (s m t : AlgorithmSink) (first then : Bytes) → IsHashedBy s first m
    → IsHashedBy m then t → IsHashedBy s (first ++ then) t
hashed_both s m t first then h g = λ algorithm before held.
    subst (Hashes t algorithm) (append_assoc before first then)
    (g algorithm (before ++ first) (h algorithm before held))

pub summed_nothing : (s : ArchiveSink) → IsSummedBy s [] s
summed_nothing s = λ kind before held.
    subst (λ l. SumsArchive kind l s) (sym (append-nil before)) held

pub summed_more : (s m t : ArchiveSink) (first then : Bytes) → IsSummedBy s first m
    → IsSummedBy m then t → IsSummedBy s (first ++ then) t
summed_more s m t first then h g = λ kind before held.
    subst (λ l. SumsArchive kind l t) (append_assoc before first then)
    (g kind (before ++ first) (h kind before held))
