-- What hearers of an output have after the tokens of a tree.
use Rattle.std.specs.Prelude.{◌≡◌, ◌||◌, ⊤, Bool, true, false, Option, Some, None, List, [], ◌∷◌, ◌++◌}
use Rattle.std.specs.List.{flat_map, list_any}
use Rattle.nix_archive.specs.Archive.{magic}
use Rattle.nix_archive.specs.Texts.{text_of}
use Rattle.nix_archive.specs.Tokens.{Token, EntryBegun, EntryEnded, FileBegun, FileByte, FileEnded, FolderBegun, FolderEnded, LinkTo}
use Rattle.nix_archive.specs.Trees.{Tree as Archived, File}
use Rattle.nix_archive.specs.declared.writer.ArchiveWriter.{ArchiveWriter}
use Rattle.nix_names.specs.Bytes.{Bytes, Path}
use Rattle.nix_names.specs.declared.digest.Algorithm.{Algorithm}
use Rattle.nix_names.specs.declared.digest.Digest.{Digest}
use Rattle.drv_graph.specs.declared.kinds.Kind.{Kind}
use Rattle.drv_graph.specs.declared.profile.Profile.{Profile}
use Rattle.drv_graph.specs.declared.profile.Profile.TheVariants.{Nix, Plain}
use Rattle.ref_scan.specs.Counting.{IsCountHeard, IsNewCounts, IsWithin}
use Rattle.ref_scan.specs.Hearing.{IsNewScanner, IsScanHeard}
use Rattle.ref_scan.specs.declared.hearers.tree_counts.TreeCounts.{TreeCounts}
use Rattle.build_outcome.specs.Heard.{file_algorithm}
use Rattle.build_outcome.specs.Verdicts.{NeedsArchive, digest_by}
use Rattle.build_outcome.specs.Sinks.{Hashes, IsSummedBy, SumsArchive}
use Rattle.build_outcome.specs.declared.hearers.algorithm_sink.AlgorithmSink.{AlgorithmSink}
use Rattle.build_outcome.specs.declared.hearers.archive_hearer.ArchiveHearer.{ArchiveHearer}
use Rattle.build_outcome.specs.declared.hearers.archive_sink.ArchiveSink.{ArchiveSink}
use Rattle.build_outcome.specs.declared.hearers.file_hearer.FileHearer.{FileHearer}
use Rattle.build_outcome.specs.declared.hearers.output_hearer.OutputHearer.{OutputHearer}
use Rattle.build_outcome.specs.declared.job.Job.{Job}

-- ---- files

-- the byte of a file that a token tells, if it tells one
abbrev pub byte_of : Token → Bytes
byte_of (FileByte byte) = byte ∷ []
byte_of token = []

-- the bytes of files that tokens tell
abbrev pub bytes_in : List Token → Bytes
bytes_in said = flat_map byte_of said

-- whether a token tells of a folder or a link
abbrev pub is_other : Token → Bool
is_other FolderBegun = true
is_other (LinkTo target) = true
is_other token = false

-- whether one of some tokens does
abbrev pub has_other : List Token → Bool
has_other said = list_any is_other said

-- whether its owner may execute the last file that tokens tell, or the one before them
abbrev pub marked : List Token → Bool → Bool
marked [] executable = executable
marked (FileBegun mark size ∷ said) executable = marked said mark
marked (token ∷ said) executable = marked said executable

-- the digest of a file's bytes by an algorithm, if one is asked for; a link and a folder have none
abbrev pub archived_digest : (asked : Option Algorithm) → Archived → Option Digest
archived_digest (Some algorithm) (File executable bytes) = Some (digest_by algorithm bytes)
archived_digest asked tree = None

-- what hashes bytes has hashed these by the algorithm that is asked for; nothing does where none is
abbrev pub HashesIn : Option AlgorithmSink → (asked : Option Algorithm) → Bytes → Type 0
HashesIn None None bytes = ⊤
HashesIn (Some sink) (Some algorithm) bytes = Hashes sink algorithm bytes
HashesIn sink asked bytes = ⊥

-- what hashes bytes, if they are hashed, became another by these
abbrev pub IsHashedIn : Option AlgorithmSink → Bytes → Option AlgorithmSink → Type 0
IsHashedIn s bytes t =
    (asked : Option Algorithm) (before : Bytes) → HashesIn s asked before
    → HashesIn t asked (before ++ bytes)

-- A hearer of a file became another one by hearing some tokens. Nothing is known of what it hashed
-- once a folder or a link was heard.
pub record IsFileHeard (s : FileHearer) (said : List Token) (t : FileHearer) : Type 0 where
  pub others : t.others ≡ (s.others || has_other said)
  pub executable : t.executable ≡ marked said s.executable
  pub hashed : t.others ≡ false → IsHashedIn s.sink (bytes_in said) t.sink

-- A hearer of a file hashes by the algorithm that is asked for, if one is, and has heard nothing.
pub record IsFileBegun (asked : Option Algorithm) (new : FileHearer) : Type 0 where
  pub none : new.others ≡ false
  pub hashes : HashesIn new.sink asked []

-- ---- archives

-- a writer of an archive, if one is asked for, became another by these bytes
abbrev pub IsWritten : Option (ArchiveWriter ArchiveSink) → Bytes
    → Option (ArchiveWriter ArchiveSink) → Type 0
IsWritten None bytes None = ⊤
IsWritten (Some s) bytes (Some t) = IsSummedBy s.sink bytes t.sink
IsWritten s bytes t = ⊥

-- a hearer of an archive became another one by hearing some tokens
abbrev pub IsArchiveHeard : ArchiveHearer → List Token → ArchiveHearer → Type 0
IsArchiveHeard s said t = IsWritten s.writer (text_of said) t.writer

-- a writer of an archive, if one is asked for, took the string with which each archive begins
abbrev pub IsWriterBegun : Profile → Kind → Option (ArchiveWriter ArchiveSink) → Type 0
IsWriterBegun profile kind None = NeedsArchive profile kind → ⊥
IsWriterBegun profile kind (Some writer) =
    NeedsArchive profile kind × SumsArchive kind magic writer.sink

-- a hearer of an archive has heard nothing
abbrev pub IsArchiveBegun : Profile → Kind → ArchiveHearer → Type 0
IsArchiveBegun profile kind new = IsWriterBegun profile kind new.writer

-- ---- outputs

-- A hearer of an output became another one by hearing some tokens.
pub record IsOutputHeard (s : OutputHearer) (said : List Token) (t : OutputHearer) : Type 0 where
  pub profile : t.profile ≡ s.profile
  pub scanner : IsScanHeard s.scanner said t.scanner
  pub counts : IsCountHeard s.counts said t.counts
  pub file : IsFileHeard s.file said t.file
  pub archive : IsArchiveHeard s.archive said t.archive

-- what was counted keeps the limits of a profile: `nix` has none
abbrev pub IsStillWithin : Profile → TreeCounts → Type 0
IsStillWithin Plain counts = IsWithin counts
IsStillWithin Nix counts = ⊤

-- A hearer of an output of a job has heard nothing.
pub record IsOutputBegun (job : Job) (permitted : List Path) (new : OutputHearer) : Type 0 where
  pub profile : new.profile ≡ job.profile
  pub scanner : IsNewScanner permitted new.scanner
  pub counts : IsNewCounts new.counts
  pub file : IsFileBegun (file_algorithm job.profile job.kind) new.file
  pub archive : IsArchiveBegun job.profile job.kind new.archive
