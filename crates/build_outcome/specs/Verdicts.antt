-- *Verdict*: what becomes of a job by what its builder left behind (Nix manual, "Building";
-- Dolstra's thesis, section 5.5.1; the order of the reasons is this product's own).
use Rattle.std.specs.Prelude.{◌≡◌, ◌≢◌, ◌⊎◌, ◌<◌, ◌^◌, ⊤, ℕ, pos, All, IsTrue, Option, Some, None, IfSome, List, length, map, Contains, Result, Ok, Err, slice_get}
use Rattle.std.specs.List.{range_with_len}
use Rattle.std.specs.Option.{option_map}
use Rattle.md5.specs.Md5.{md5}
use Rattle.sha1.specs.Sha1.{sha1}
use Rattle.sha2.specs.Sha256.{sha256}
use Rattle.sha2.specs.Sha512.{sha512}
use Rattle.nix_names.specs.Bytes.{Bytes, Path}
use Rattle.nix_names.specs.Digests.{algorithm_of}
use Rattle.nix_names.specs.Firsts.{IsFirstWhere}
use Rattle.nix_names.specs.declared.digest.Algorithm.{Algorithm}
use Rattle.nix_names.specs.declared.digest.Algorithm.TheVariants.{Md5, Sha1, Sha256, Sha512}
use Rattle.nix_names.specs.declared.digest.Digest.{Digest}
use Rattle.nix_names.specs.declared.digest.Digest.TheVariants.{Md5 as OfMd5, Sha1 as OfSha1, Sha256 as OfSha256, Sha512 as OfSha512}
use Rattle.nix_names.specs.declared.method.Method.{Method}
use Rattle.nix_names.specs.declared.method.Method.TheVariants.{Flat, Recursive}
use Rattle.nix_names.specs.declared.method.MethodDigest.{MethodDigest}
use Rattle.drv_graph.specs.Plans.{LeadsBy}
use Rattle.drv_graph.specs.declared.kinds.Kind.{Kind}
use Rattle.drv_graph.specs.declared.kinds.Kind.TheVariants.{Addressed, Fixed}
use Rattle.drv_graph.specs.declared.profile.Profile.{Profile}
use Rattle.drv_graph.specs.declared.profile.Profile.TheVariants.{Plain, Nix}
use Rattle.nix_archive.specs.Archive.{nar}
use Rattle.nix_archive.specs.Trees.{Tree as ArchiveTree, IsArchivable}
use Rattle.ref_scan.specs.Archives.{IsArchiveOf}
use Rattle.ref_scan.specs.Scan.{IsFound}
use Rattle.ref_scan.specs.Trees.{Fits, joined}
use Rattle.ref_scan.specs.declared.tree.Tree.{Tree, File, Pieces, Executable, Link, Dir'}
use Rattle.valid_table.specs.PathInfos.{NarInfo, PathInfo}
use Rattle.build_outcome.specs.declared.job.Answer.{Answer}
use Rattle.build_outcome.specs.declared.job.Job.{Job}
use Rattle.build_outcome.specs.declared.job.JobOutput.{JobOutput}
use Rattle.build_outcome.specs.declared.job.LeftOutput.{LeftOutput}
use Rattle.build_outcome.specs.declared.reason.Reason.{Reason}
use Rattle.build_outcome.specs.declared.reason.Reason.TheVariants.{ExitStatus, MissingOutput, NotFlatFile, HashMismatch, OutputCycle, TooLarge, ReadFault, OutOfMemory, Killed, BadMode}

-- the digest of some bytes by an algorithm (RFC 1321; FIPS 180-4)
abbrev pub digest_by : Algorithm → Bytes → Digest
digest_by Md5 bytes = OfMd5 (md5 bytes)
digest_by Sha1 bytes = OfSha1 (sha1 bytes)
digest_by Sha256 bytes = OfSha256 (sha256 bytes)
digest_by Sha512 bytes = OfSha512 (sha512 bytes)

-- the digest of a file's bytes, which pieces make together, also where its owner may execute it; a
-- link and a folder have none
abbrev pub file_digest_of : Algorithm → Tree → Option Digest
file_digest_of algorithm (File bytes) = Some (digest_by algorithm bytes.items)
file_digest_of algorithm (Pieces parts) = Some (digest_by algorithm (joined parts.items))
file_digest_of algorithm (Executable parts) = Some (digest_by algorithm (joined parts.items))
file_digest_of algorithm (Link target) = None
file_digest_of algorithm (Dir' shape entries) = None

-- A tree has these bytes, fewer than 2^63, as its archive (NAR).
pub record HasArchive (tree : Tree) (bytes : Bytes) : Type 0 where
  pub archived : ArchiveTree
  pub archivable : IsArchivable archived
  pub is_of : IsArchiveOf tree archived
  pub archive : bytes ≡ nar archived
  pub sized : length bytes < 2 ^ 63

-- a tree has no archive of fewer than 2^63 bytes
abbrev pub HasNoArchive : Tree → Type 0
HasNoArchive tree = (bytes : Bytes) → HasArchive tree bytes → ⊥

-- the digest is a tree's by an algorithm: that of a file's bytes, or that of the tree's archive
abbrev pub IsDigestBy : Method → Algorithm → Tree → Digest → Type 0
IsDigestBy Flat algorithm tree digest = file_digest_of algorithm tree ≡ Some digest
IsDigestBy Recursive algorithm tree digest = (bytes : Bytes) × HasArchive tree bytes
    × (digest ≡ digest_by algorithm bytes)

-- the SHA-256 and the length are those of a tree's archive
abbrev pub IsNarOf : Tree → NarInfo → Type 0
IsNarOf tree sum = (bytes : Bytes) × HasArchive tree bytes × (sum.hash ≡ sha256 bytes)
    × (sum.size ≡ length bytes)

-- the paths of a job's outputs
abbrev pub outputs_of : Job → List Path
outputs_of job = map (λ (o : JobOutput). o.path) job.outputs.items

-- a tree is a file whose bytes may be those of a fixed output, under `nix` none that its owner may
-- execute
abbrev pub IsFlatFile : Profile → Tree → Type 0
IsFlatFile profile (File bytes) = ⊤
IsFlatFile profile (Pieces parts) = ⊤
IsFlatFile Plain (Executable parts) = ⊤
IsFlatFile Nix (Executable parts) = ⊥
IsFlatFile profile (Link target) = ⊥
IsFlatFile profile (Dir' shape entries) = ⊥

-- a tree has the form that a method asks for: a file for its bytes, any tree for its archive
abbrev pub HasForm : Profile → Method → Tree → Type 0
HasForm profile Flat tree = IsFlatFile profile tree
HasForm profile Recursive tree = ⊤

-- the tree keeps the limits of the profile: `nix` has none
abbrev pub MayBeTaken : Profile → Tree → Type 0
MayBeTaken Plain tree = Fits tree
MayBeTaken Nix tree = ⊤

-- the archives of outputs of a kind are asked for: each under `nix`, and under `plain` only that of
-- an output whose archive is declared
abbrev pub NeedsArchive : Profile → Kind → Type 0
NeedsArchive Nix kind = ⊤
NeedsArchive Plain Addressed = ⊥
NeedsArchive Plain (Fixed Flat digest) = ⊥
NeedsArchive Plain (Fixed Recursive digest) = ⊤

-- the archive of an output's tree is asked for, and there is none
abbrev pub IsUnread : Job → Tree → Type 0
IsUnread job tree = NeedsArchive job.profile job.kind × HasNoArchive tree

-- a digest of a file's bytes, as a record has it
abbrev pub flat_digest : Option Digest → Option MethodDigest
flat_digest (Some digest) = Some (record { method = Flat; digest = digest })
flat_digest None = None

-- the digest in the record of an output's tree: that of a fixed output is by the declared method
-- and algorithm; any other output has one under `plain` alone, the SHA-256 of a file
abbrev pub IsRecordDigest : Profile → Kind → Tree → Option MethodDigest → Type 0
IsRecordDigest profile (Fixed method declared) tree digest =
    (found : Digest) × (digest ≡ Some (record { method = method; digest = found }))
    × IsDigestBy method (algorithm_of declared) tree found
IsRecordDigest Plain Addressed tree digest = digest ≡ flat_digest (file_digest_of Sha256 tree)
IsRecordDigest Nix Addressed tree digest = digest ≡ None

-- the archive in the record of an output's tree, which is there under `nix` alone
abbrev pub IsRecordNar : Profile → Tree → Option NarInfo → Type 0
IsRecordNar Plain tree nar = nar ≡ None
IsRecordNar Nix tree nar = (sum : NarInfo) × (nar ≡ Some sum) × IsNarOf tree sum

-- What the record of an output's tree says: the permitted paths that are found in it, its digest,
-- and its archive.
pub record IsRecordOf (job : Job) (permitted : List Path) (tree : Tree) (info : PathInfo) : Type 0
  where
    pub found : IsFound tree permitted info.references
    pub digest : IsRecordDigest job.profile job.kind tree info.digest
    pub nar : IsRecordNar job.profile tree info.nar

-- why the tree of an output of this kind isn't taken: it passes the limits; or else the output is
-- fixed, and it hasn't the method's form, or has another digest than the declared one
abbrev pub IsTreeFault : Profile → Kind → Tree → Reason → Type 0
IsTreeFault profile kind tree TooLarge = MayBeTaken profile tree → ⊥
IsTreeFault profile (Fixed method declared) tree NotFlatFile = MayBeTaken profile tree
    × (HasForm profile method tree → ⊥)
IsTreeFault profile (Fixed method declared) tree HashMismatch = MayBeTaken profile tree
    × HasForm profile method tree
    × ((found : Digest) × IsDigestBy method (algorithm_of declared) tree found
    × (found ≢ declared))
IsTreeFault profile kind tree reason = ⊥

-- what lies at the output with this number, counted from 0; an answer that ends before it has
-- nothing there
abbrev pub left_at : Answer → ℕ → Option LeftOutput
left_at answer n = joined (slice_get answer.outputs.items n)
  where
    joined : Option (Option LeftOutput) → Option LeftOutput
    joined (Some left) = left
    joined None = None

-- the tree at the output with this number
abbrev pub tree_at : Answer → ℕ → Option Tree
tree_at answer n = option_map (λ (left : LeftOutput). left.tree) (left_at answer n)

-- the group of what lies at the output with this number, or others, may write it
abbrev pub OthersMayWriteAt : Answer → ℕ → Type 0
OthersMayWriteAt answer n = (left : LeftOutput) × (left_at answer n ≡ Some left)
    × IsTrue left.others_may_write

-- the number is the first below a count for which something holds
abbrev pub IsFirstNumber : (Holds : ℕ → Type 0) → (count n : ℕ) → Type 0
IsFirstNumber Holds count n = IsFirstWhere Holds (range_with_len 0 count) n

-- what lies at the output with this number is unread
abbrev pub IsUnreadAt : Job → Answer → ℕ → Type 0
IsUnreadAt job answer n = (tree : Tree) × (tree_at answer n ≡ Some tree) × IsUnread job tree

-- whatever lies at outputs' paths is read
abbrev pub AreRead : Job → Answer → Type 0
AreRead job answer = (n : ℕ) → n < length job.outputs.items → IsUnreadAt job answer n → ⊥

-- the builder ended well, and left something at each output's path, which is read
abbrev pub AreOutputsThere : Job → Answer → Type 0
AreOutputsThere job answer = (answer.status ≡ Some (pos 0))
    × ((n : ℕ) → n < length job.outputs.items → tree_at answer n ≡ None → ⊥)
    × AreRead job answer

-- the profile doesn't take the mode of what lies at the output with this number: under `nix` nobody
-- but its owner may write it
abbrev pub HasBadMode : Job → Answer → ℕ → Type 0
HasBadMode job answer n = (job.profile ≡ Nix) × OthersMayWriteAt answer n

-- the profile takes the modes of what lies at the outputs' paths
abbrev pub HaveGoodModes : Job → Answer → Type 0
HaveGoodModes job answer = (n : ℕ) → n < length job.outputs.items → HasBadMode job answer n → ⊥

-- what lies at the output with this number isn't taken, for this reason
abbrev pub IsFaulty : Job → Answer → Reason → ℕ → Type 0
IsFaulty job answer reason n = (tree : Tree) × (tree_at answer n ≡ Some tree)
    × IsTreeFault job.profile job.kind tree reason

-- what lies at some output isn't taken, and at the first such for this reason
abbrev pub IsFirstFault : Job → Answer → Reason → Type 0
IsFirstFault job answer reason =
    (n : ℕ) × IsFirstNumber (λ m. (why : Reason) × IsFaulty job answer why m)
    (length job.outputs.items) n × IsFaulty job answer reason n

-- what lies at each output's path is taken
abbrev pub IsTaken : Job → Answer → Type 0
IsTaken job answer = AreOutputsThere job answer × HaveGoodModes job answer
    × ((n : ℕ) (why : Reason) → n < length job.outputs.items → IsFaulty job answer why n → ⊥)

-- a record is that of what lies at the output with this number
abbrev pub IsRecordAt : Job → (permitted : List Path) → Answer → ℕ → PathInfo → Type 0
IsRecordAt job permitted answer n info = (tree : Tree) × (tree_at answer n ≡ Some tree)
    × IsRecordOf job permitted tree info

-- Records of a job's outputs, in the job's order.
pub record AreRecords (job : Job) (permitted : List Path) (answer : Answer)
    (infos : List PathInfo) : Type 0 where
  pub count : length infos ≡ length job.outputs.items
  pub each : (n : ℕ) (info : PathInfo) → slice_get infos n ≡ Some info
      → IsRecordAt job permitted answer n info

-- one output refers to another one, by their records
abbrev pub OutputRefersTo : (outputs : List Path) → List PathInfo → (from to : Path) → Type 0
OutputRefersTo outputs infos from to =
    (n : ℕ) × (info : PathInfo) × (slice_get outputs n ≡ Some from)
    × (slice_get infos n ≡ Some info) × Contains info.references to × Contains outputs to

-- two different outputs lead to each other by references among the outputs
abbrev pub IsCyclic : (outputs : List Path) → List PathInfo → Type 0
IsCyclic outputs infos =
    (a : Path) × (b : Path) × (there : List Path) × (back : List Path) × (a ≢ b)
    × LeadsBy (OutputRefersTo outputs infos) a b there
    × LeadsBy (OutputRefersTo outputs infos) b a back

-- *Verdict* on an answer: the records of the outputs, or the first reason why it has no records
abbrev pub IsVerdict : Job → (permitted : List Path) → Answer → Result (List PathInfo) Reason
    → Type 0
IsVerdict job permitted answer (Ok infos) =
    IsTaken job answer × AreRecords job permitted answer infos
    × (IsCyclic (outputs_of job) infos → ⊥)
IsVerdict job permitted answer (Err Killed) = answer.status ≡ None
IsVerdict job permitted answer (Err (ExitStatus n)) = (answer.status ≡ Some n) × (n ≢ pos 0)
IsVerdict job permitted answer (Err ReadFault) = (answer.status ≡ Some (pos 0))
    × ((n : ℕ) × (n < length job.outputs.items) × IsUnreadAt job answer n)
IsVerdict job permitted answer (Err (MissingOutput n)) = (answer.status ≡ Some (pos 0))
    × AreRead job answer
    × IsFirstNumber (λ m. tree_at answer m ≡ None) (length job.outputs.items) n
IsVerdict job permitted answer (Err (BadMode n)) = AreOutputsThere job answer
    × IsFirstNumber (HasBadMode job answer) (length job.outputs.items) n
IsVerdict job permitted answer (Err TooLarge) = AreOutputsThere job answer
    × HaveGoodModes job answer × IsFirstFault job answer TooLarge
IsVerdict job permitted answer (Err NotFlatFile) = AreOutputsThere job answer
    × HaveGoodModes job answer × IsFirstFault job answer NotFlatFile
IsVerdict job permitted answer (Err HashMismatch) = AreOutputsThere job answer
    × HaveGoodModes job answer × IsFirstFault job answer HashMismatch
IsVerdict job permitted answer (Err OutputCycle) =
    IsTaken job answer
    × ((infos : List PathInfo) × AreRecords job permitted answer infos
    × IsCyclic (outputs_of job) infos)
IsVerdict job permitted answer result = ⊥

-- memory may be refused once what lies at each output's path was taken, or, where archives are
-- asked for, once the builder ended well
abbrev pub MayBeRefused : Job → Answer → Type 0
MayBeRefused job answer = IsTaken job answer
    ⊎ ((answer.status ≡ Some (pos 0)) × NeedsArchive job.profile job.kind)

-- what `examine` answers: the verdict, or that memory was refused
abbrev pub IsExamining : Job → (permitted : List Path) → Answer → Result (List PathInfo) Reason
    → Type 0
IsExamining job permitted answer result = ((result ≡ Err OutOfMemory) × MayBeRefused job answer)
    ⊎ IsVerdict job permitted answer result

-- there is one verdict
abbrev pub HasOneVerdict : Type 0
HasOneVerdict = (job : Job) (permitted : List Path) (answer : Answer)
    (a b : Result (List PathInfo) Reason)
    → IsVerdict job permitted answer a → IsVerdict job permitted answer b → a ≡ b

-- under `plain`, but for an output whose archive is declared, records have no archives, and digests
-- of files' bytes alone
abbrev pub PlainRecordsAreFlat : Type 0
PlainRecordsAreFlat = (job : Job) (permitted : List Path) (answer : Answer) (infos : List PathInfo)
    → IsVerdict job permitted answer (Ok infos) → job.profile ≡ Plain
    → ((declared : Digest) → job.kind ≢ Fixed Recursive declared)
    → All (λ (info : PathInfo). (info.nar ≡ None)
    × IfSome info.digest (λ (kept : MethodDigest). kept.method ≡ Flat)) infos
