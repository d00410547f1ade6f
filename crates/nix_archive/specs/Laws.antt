-- Laws of archives.
use Rattle.std.specs.Prelude.{◌≡◌, ◌++◌, ◌+◌, ℕ, List, [], Err, take}
use Rattle.nix_archive.specs.declared.reader.ArchiveReader.{ArchiveReader}
use Rattle.nix_archive.specs.Trees.{Bytes, Tree, IsArchivable}
use Rattle.nix_archive.specs.Archive.{magic, nar}
use Rattle.nix_archive.specs.Tokens.{Token, tokens_of}
use Rattle.nix_archive.specs.Sums.{IsSum, IsSummed}
use Rattle.nix_archive.specs.Texts.{text_of}
use Rattle.nix_archive.specs.Rests.{reader_rest}
use Rattle.nix_archive.specs.Reading.{IsArchive, IsBegun, IsFed, IsRefused, IsSame, IsStep}
use Rattle.nix_archive.specs.declared.fault.ArchiveFault.TheVariants.{BadNar}

-- trees with one archive are one tree
abbrev pub ArchivesTellTrees : Type 0
ArchivesTellTrees = (s t : Tree) → IsArchivable s → IsArchivable t → nar s ≡ nar t → s ≡ t

-- no archive begins another
abbrev pub NoArchiveBeginsAnother : Type 0
NoArchiveBeginsAnother = (s t : Tree) (rest : Bytes) → IsArchivable s → IsArchivable t
    → nar t ≡ nar s ++ rest → rest ≡ []

-- what is written at a tree's tokens, after the string with which each archive begins, is its
-- archive
abbrev pub TokensWriteArchives : Type 0
TokensWriteArchives = (tree : Tree) → magic ++ text_of (tokens_of tree) ≡ nar tree

-- The bytes are the archive of the tree that was heard of, and what is written at its tokens.
pub record IsReadWhole {S : Type 0} (heard : S → List Token → S → Type 0) (before after : S)
    (read : Bytes) : Type 0 where
  pub tree : Tree
  pub archivable : IsArchivable tree
  pub hears : heard before (tokens_of tree) after
  pub archive : read ≡ nar tree
  pub again : magic ++ text_of (tokens_of tree) ≡ read

-- one reading after another is a reading of all
abbrev pub ReadingsJoin : {S : Type 0} (heard : S → List Token → S → Type 0) → Type 0
ReadingsJoin {S} heard = (r s t : ArchiveReader) (before between after : S) (first second : Bytes)
    → IsStep heard before between (reader_rest r) (reader_rest s) first
    → IsStep heard between after (reader_rest s) (reader_rest t) second
    → IsStep heard before after (reader_rest r) (reader_rest t) (first ++ second)

-- an archive that is read is the archive of the tree that the reader tells
abbrev pub ReadingsTellTrees : {S : Type 0} (heard : S → List Token → S → Type 0) → Type 0
ReadingsTellTrees {S} heard = (r s : ArchiveReader) (before after : S) (read : Bytes)
    → IsSame (reader_rest r) IsArchive
    → IsStep heard before after (reader_rest r) (reader_rest s) read
    → reader_rest s [] [] → IsReadWhole heard before after read

-- some archive begins with what was read
abbrev pub ReadingsBegin : {S : Type 0} (heard : S → List Token → S → Type 0) → Type 0
ReadingsBegin {S} heard = (r s : ArchiveReader) (before after : S) (read : Bytes)
    → IsSame (reader_rest r) IsArchive
    → IsStep heard before after (reader_rest r) (reader_rest s) read → IsBegun IsArchive read

-- a fault names the first byte with which no archive goes on, also where pieces were read before
abbrev pub FaultsComeFirst : {S : Type 0} (heard : S → List Token → S → Type 0) → Type 0
FaultsComeFirst {S} heard = (r s t : ArchiveReader) (before between after : S) (read piece : Bytes)
    (offset : ℕ) → IsSame (reader_rest r) IsArchive
    → IsStep heard before between (reader_rest r) (reader_rest s) read
    → IsFed heard between after (reader_rest s) (reader_rest t) piece (Err (BadNar offset))
    → IsBegun IsArchive (read ++ take offset piece)
    × IsRefused IsArchive (read ++ take (offset + 1) piece)

-- What is summed at a tree's tokens, after the string with which each archive begins, is the
-- tree's archive.
abbrev pub SumsAreOfArchives : {D : Type 0} (holds : D → List ℕ → Type 0) → Type 0
SumsAreOfArchives {D} holds = (tree : Tree) (first begun last : ℕ) (hasher middle hashes : D)
    → IsSum holds [] first hasher → IsSummed holds magic first hasher begun middle
    → IsSummed holds (text_of (tokens_of tree)) begun middle last hashes
    → IsSum holds (nar tree) last hashes
