-- The archives of trees, and their sums.
use Rattle.std.proofs.Common.{◌≡◌, ◌∙◌, inl, inr, ⊎_elim, ℕ, ◌+◌, ◌^◌, ◌<◌, ◌≤◌, List, [], ◌∷◌, ◌++◌, length, Option, Some, None, MatchOption, refl, sym, ap, subst, arith, rules}
use Rattle.std.specs.Borrow.{Bor}
use Rattle.std.specs.Prelude.{pos, Err}
use Rattle.std.specs.List.{slice_get}
use Rattle.std.proofs.Math.Nat.{eq-or-lt_of_le}
use Rattle.std.proofs.lemmas.Option.{same_Some}
use Rattle.sha2.specs.Sha256.{sha256}
use Rattle.nix_names.specs.declared.digest.Algorithm.{Algorithm}
use Rattle.nix_names.specs.declared.digest.Algorithm.TheVariants.{Sha256}
use Rattle.nix_names.specs.declared.digest.Digest.{Digest}
use Rattle.nix_names.specs.declared.digest.Digest.TheVariants.{Sha256 as OfSha256}
use Rattle.nix_names.proofs.Lists.{get_grows, get_push_cases, get_pushed}
use Rattle.drv_graph.specs.declared.kinds.Kind.{Kind}
use Rattle.nix_archive.specs.Archive.{nar}
use Rattle.ref_scan.specs.Archives.{IsArchiveSum, IsOfArchive, HasArchive as IsArchived, HasNoArchive as IsNotArchived}
use Rattle.ref_scan.specs.declared.tree_archive.sum.ArchiveSum.{ArchiveSum}
use Rattle.ref_scan.specs.declared.tree.Tree.{Tree}
use Rattle.ref_scan.proofs.Belows.{one_archive as archive_is_one}
use Rattle.valid_table.specs.PathInfos.{NarInfo}
use Rattle.build_outcome.specs.declared.hearers.algorithm_sink.AlgorithmSink.{AlgorithmSink}
use Rattle.build_outcome.specs.declared.job.Answer.{Answer}
use Rattle.build_outcome.specs.declared.job.Job.{Job}
use Rattle.build_outcome.specs.declared.reason.Reason.{Reason}
use Rattle.build_outcome.specs.declared.reason.Reason.TheVariants.{OutOfMemory, ReadFault}
use Rattle.build_outcome.specs.declared.sums.OutputSum.{OutputSum}
use Rattle.build_outcome.specs.Sinks.{Hashes, IsHashedBy}
use Rattle.build_outcome.specs.Sums.{IsOutputSum, archive_algorithm}
use Rattle.build_outcome.specs.private.Summing.{AreSums, AreSumsSoFar, IsSumAt, TellsNar}
use Rattle.build_outcome.specs.Verdicts.{AreRead, HasArchive, HasNoArchive, IsExamining, IsNarOf, NeedsArchive, digest_by, tree_at}

-- a tree has the bytes of one archive
pub one_archive : (tree : Tree) (a b : List ℕ) → HasArchive tree a → HasArchive tree b → a ≡ b
one_archive tree a b has has' =
    has.archive
    ∙ ap nar
    (archive_is_one tree has.archived has'.archived has.is_of has'.is_of has.archivable
    has'.archivable)
    ∙ sym has'.archive

-- a tree that isn't that of an archive has none
pub no_archive : (tree : Tree) → IsNotArchived tree → HasNoArchive tree
no_archive tree none bytes has = none has.archived has.is_of has.archivable

-- an archive of which the count is known is within the bound or past it
pub past_the_bound : (tree : Tree) (sum : ArchiveSum) → IsOfArchive IsArchiveSum tree (Some sum)
    → 2 ^ 63 ≤ sum.length → HasNoArchive tree
past_the_bound tree sum told past bytes has =
    let same : bytes ≡ nar told.archived = has.archive
    ∙ ap nar
    (archive_is_one tree has.archived told.archived has.is_of told.of_tree has.archivable
    told.archivable) in
    let long : length bytes ≡ length (nar told.archived) = ap length same in
    absurd (omega (arith, past, long, has.sized, told.holds.count))

pub within_the_bound : (tree : Tree) (sum : ArchiveSum) (nar : NarInfo)
    → IsOfArchive IsArchiveSum tree (Some sum) → sum.length < 2 ^ 63 → nar.hash ≡ sum.hash
    → nar.size ≡ sum.length → IsNarOf tree nar
within_the_bound tree sum known told within hash size = (
  nar told.archived,
  record {
    archived = told.archived;
    archivable = told.archivable;
    is_of = told.of_tree;
    archive = refl;
    sized = omega (arith, within, told.holds.count);
  },
  hash ∙ told.holds.hash,
  omega (arith, size, within, told.holds.count),
)

-- what is known of a tree's archive by its sum
pub nar_told : (tree : Tree) (sum : ArchiveSum) (known : Option NarInfo)
    → IsOfArchive IsArchiveSum tree (Some sum)
    → MatchOption known (2 ^ 63 ≤ sum.length)
    (λ nar. (nar.hash ≡ sum.hash) × (nar.size ≡ sum.length) × (sum.length < 2 ^ 63))
    → TellsNar tree known
nar_told tree sum None told past = past_the_bound tree sum told past
nar_told tree sum (Some nar) told (hash, size, within) =
    within_the_bound tree sum nar told within hash size

-- a sink that took an archive gives its digest
pub hashed : (algorithm : Algorithm) (tree : Tree) (first last : AlgorithmSink) (digest : Digest)
    → Hashes first algorithm [] → IsArchived tree (λ bytes. IsHashedBy first bytes last)
    → ((a : Algorithm) (bytes : List ℕ) → Hashes last a bytes → digest ≡ digest_by a bytes)
    → IsOfArchive (λ bytes found. found ≡ digest_by algorithm bytes) tree (Some digest)
hashed algorithm tree first last digest empty told gives = record {
  archived = told.archived;
  of_tree = told.of_tree;
  archivable = told.archivable;
  holds = gives algorithm (nar told.archived) (told.holds algorithm [] empty);
}

-- the digest of an archive by SHA-256
pub by_sha256 : (kind : Kind) (tree : Tree) (bytes hash : List ℕ) → HasArchive tree bytes → hash
    ≡ sha256 bytes → archive_algorithm kind ≡ Sha256
    → IsOfArchive (λ found digest. digest ≡ digest_by (archive_algorithm kind) found) tree
    (Some (OfSha256 hash))
by_sha256 kind tree bytes hash has is algorithm = record {
  archived = has.archived;
  of_tree = has.is_of;
  archivable = has.archivable;
  holds = subst (λ (a : Algorithm). OfSha256 hash ≡ digest_by a (nar has.archived)) (sym algorithm)
      (ap OfSha256 (is ∙ ap sha256 has.archive));
}

-- the sum of an output's archive, by its SHA-256 and length and by its digest
pub summed : (kind : Kind) (tree : Tree) (known : NarInfo) (digest : Digest) (sum : OutputSum)
    → IsNarOf tree known
    → IsOfArchive (λ bytes found. found ≡ digest_by (archive_algorithm kind) bytes) tree
    (Some digest)
    → sum.nar ≡ known → sum.digest ≡ digest → IsOutputSum kind tree sum
summed kind tree known digest sum is told nar_is digest_is =
    let same : nar told.archived ≡ is.0 =
    ap nar
    (archive_is_one tree told.archived is.1.archived told.of_tree is.1.is_of told.archivable
    is.1.archivable)
    ∙ sym is.1.archive in
    record {
      bytes = is.0;
      has = is.1;
      hash = ap (λ (n : NarInfo). n.hash) nar_is ∙ is.2;
      size = ap (λ (n : NarInfo). n.size) nar_is ∙ is.3;
      digest = digest_is ∙ told.holds ∙ ap (digest_by (archive_algorithm kind)) same;
    }

-- the SHA-256 and the length by an output's sum
pub nar_summed : (kind : Kind) (tree : Tree) (sum : OutputSum) → IsOutputSum kind tree sum
    → IsNarOf tree sum.nar
nar_summed kind tree sum is = (is.bytes, is.has, is.hash, is.size)

-- where archives are asked for, a tree whose sum is given has one
pub archived_by : (job : Job) (tree : Tree) (sum : Option (Bor OutputSum))
    → MatchOption sum (NeedsArchive job.profile job.kind → ⊥)
    (λ given. IsOutputSum job.kind tree given.now)
    → NeedsArchive job.profile job.kind → (bytes : List ℕ) × HasArchive tree bytes
archived_by job tree None unneeded needed = absurd (unneeded needed)
archived_by job tree (Some given) is needed = (is.bytes, is.has)

-- ---- the sums of a job's outputs

pub sums_none : (job : Job) (answer : Answer) (sums : List (Option OutputSum)) → sums ≡ []
    → (NeedsArchive job.profile job.kind → ⊥) → AreSums job answer sums
sums_none job answer sums is unneeded = record {
  each = λ n sum tree at. let none : slice_get [] n ≡ Some (Some sum) =
      subst (λ (l : List (Option OutputSum)). slice_get l n ≡ Some (Some sum)) is at in absurd cc;
  whole = λ needed. absurd (unneeded needed);
}

pub sums_begun : (job : Job) (answer : Answer) (sums : List (Option OutputSum)) → sums ≡ []
    → AreSumsSoFar job answer sums 0
sums_begun job answer sums is = record {
  each = λ n sum tree at. let none : slice_get [] n ≡ Some (Some sum) =
      subst (λ (l : List (Option OutputSum)). slice_get l n ≡ Some (Some sum)) is at in absurd cc;
  whole = λ needed n tree below. absurd (omega (arith, below));
}

-- one tree lies at an output
tree_is_one : (answer : Answer) (n : ℕ) (a b : Tree) → tree_at answer n ≡ Some a → tree_at answer n
    ≡ Some b → a ≡ b
tree_is_one answer n a b at at' = search rules

none_or_some : {X : Type 0} (o : Option X) (x : X) → o ≡ None → o ≡ Some x → ⊥
none_or_some o x none some = search rules

-- the sum at the index after those so far
sum_pushed : (job : Job) (answer : Answer) (sums : List (Option OutputSum)) (count : ℕ)
    (sum : Option OutputSum) → length sums ≡ count → IsSumAt job answer count sum → (tree : Tree)
    → tree_at answer count ≡ Some tree
    → (found : OutputSum) × (slice_get (sums ++ sum ∷ []) count ≡ Some (Some found))
sum_pushed job answer sums count None long is_sum tree at = absurd (none_or_some _ tree is_sum at)
sum_pushed job answer sums count (Some found) long is_sum tree at = (
  found,
  subst (λ k. slice_get (sums ++ Some found ∷ []) k ≡ Some (Some found)) long
      (get_pushed sums (Some found)),
)

-- what is known of the sum at the index after those so far
sum_is_of : (job : Job) (answer : Answer) (count : ℕ) (sum : Option OutputSum)
    → IsSumAt job answer count sum → (found : OutputSum) (tree : Tree) → sum ≡ Some found
    → tree_at answer count ≡ Some tree → IsOutputSum job.kind tree found
sum_is_of job answer count None is_sum found tree is at = absurd (none_or_some None found refl is)
sum_is_of job answer count (Some other) is_sum found tree is at =
    let same : other ≡ found = same_Some other found is in
    let same_tree : is_sum.0 ≡ tree = tree_is_one answer count _ _ is_sum.1 at in
    subst (λ (s : OutputSum). IsOutputSum job.kind tree s) same
    (subst (λ (t : Tree). IsOutputSum job.kind t other) same_tree is_sum.2)

pub sums_more : (job : Job) (answer : Answer) (sums more : List (Option OutputSum)) (count : ℕ)
    (sum : Option OutputSum) → AreSumsSoFar job answer sums count → length sums ≡ count
    → IsSumAt job answer count sum → more ≡ sums ++ sum ∷ []
    → AreSumsSoFar job answer more (count + 1)
sums_more job answer sums more count sum before long is_sum is =
    subst (λ (l : List (Option OutputSum)). AreSumsSoFar job answer l (count + 1)) (sym is)
    (record {
      each = λ n found tree here at. ⊎_elim
          (λ earlier. before.each n found tree earlier at)
          (λ h.
          let index : n ≡ count = h.0 ∙ long in
          sum_is_of job answer count sum is_sum found tree h.1
          (subst (λ k. tree_at answer k ≡ Some tree) index at))
          (get_push_cases sums sum n (Some found) here);
      whole = λ needed n tree below at. ⊎_elim
          (λ index.
          let pushed = sum_pushed job answer sums count sum long is_sum tree
          (subst (λ k. tree_at answer k ≡ Some tree) index at) in (
            pushed.0,
            subst (λ k. slice_get (sums ++ sum ∷ []) k ≡ Some (Some pushed.0)) (sym index)
                pushed.1,
          ))
          (λ less.
          let there = before.whole needed n tree less at in
          (there.0, get_grows sums (sum ∷ []) n (Some there.0) there.1))
          (eq-or-lt_of_le {n = n} {m = count} (omega (arith, below)));
    })

-- what lies at outputs' paths is read where the sums are known
pub sums_read : (job : Job) (answer : Answer) (sums : List (Option OutputSum))
    → AreSums job answer sums → AreRead job answer
sums_read job answer sums are n below (tree, at, (needed, none)) =
    let there = are.whole needed n tree below at in
    let is = are.each n there.0 tree there.1 at in
    none is.bytes is.has

-- the verdict where what lies at an output is unread, and where memory was refused
pub unread : (job : Job) (permitted : List (List ℕ)) (answer : Answer) (n : ℕ) (tree : Tree)
    → answer.status ≡ Some (pos 0) → NeedsArchive job.profile job.kind
    → n < length job.outputs.items → tree_at answer n ≡ Some tree → HasNoArchive tree
    → IsExamining job permitted answer (Err ReadFault)
unread job permitted answer n tree ended needed within at none =
    inr (ended, (n, within, (tree, at, (needed, none))))

pub refused_needing : (job : Job) (permitted : List (List ℕ)) (answer : Answer) (why : Reason)
    → answer.status ≡ Some (pos 0) → NeedsArchive job.profile job.kind → why ≡ OutOfMemory
    → IsExamining job permitted answer (Err why)
refused_needing job permitted answer why ended needed is = inl (ap Err is, inr (ended, needed))
