-- What was read of a text that a reader gives.
use Rattle.std.specs.Prelude.{◌≡◌, ◌+◌, ◌<◌, ℕ, List, Option, length, take}
use Rattle.std.specs.Io.KnownBytes.{Consumes, IsAtEnd}
use Rattle.nix_archive.specs.Archive.{nar}
use Rattle.nix_archive.specs.Reading.{IsArchive, IsBegun, IsRefused, IsSame, IsStep}
use Rattle.nix_archive.specs.Rests.{reader_rest}
use Rattle.nix_archive.specs.Tokens.{Token, tokens_of}
use Rattle.nix_archive.specs.Trees.{IsArchivable, Tree}
use Rattle.nix_archive.specs.declared.reader.ArchiveReader.{ArchiveReader}
use Rattle.nix_names.specs.Bytes.{Bytes}
use Rattle.nix_realise.specs.ArchiveEndings.{IsStray}
use Rattle.nix_realise.specs.declared.archives.input.InputFault.{InputFault}
use Rattle.nix_realise.specs.declared.archives.input.InputFault.TheVariants.{NoMemory, Stray, Unreadable}

-- The archive of a tree was read, which was heard, and nothing is left.
pub record IsTreeRead {S : Type 0} (heard : S → List Token → S → Type 0) (before after : S)
    (old new : Option Bytes) : Type 0 where
  pub tree : Tree
  pub archivable : IsArchivable tree
  pub hears : heard before (tokens_of tree) after
  pub read : Consumes old new (nar tree)
  pub ended : IsAtEnd new

-- why no archive was read
abbrev pub IsNoInput : (old new : Option Bytes) → InputFault → Type 0
IsNoInput old new (Stray offset) = IsStray old new offset
IsNoInput old new Unreadable = Unit {0}
IsNoInput old new NoMemory = Unit {0}

-- why a piece was not read, which begins at this offset of a text
abbrev pub IsUnfed : (rest : List Token → Bytes → Type 0) → (piece : Bytes) → (start : ℕ)
    → InputFault → Type 0
IsUnfed rest piece start (Stray offset) =
    (at : ℕ) × (offset ≡ start + at) × (at < length piece) × IsBegun rest (take at piece)
    × IsRefused rest (take (at + 1) piece)
IsUnfed rest piece start Unreadable = Unit {0}
IsUnfed rest piece start NoMemory = Unit {0}

-- So far a text was read, by a reader that had read nothing before, and of it was heard.
pub record IsSoFar {S : Type 0} (heard : S → List Token → S → Type 0) (before after : S)
    (reader : ArchiveReader) (old new : Option Bytes) (offset : ℕ) : Type 0 where
  pub first : ArchiveReader
  pub fresh : IsSame (reader_rest first) IsArchive
  pub text : Bytes
  pub step : IsStep heard before after (reader_rest first) (reader_rest reader) text
  pub read : Consumes old new text
  pub counted : length text ≡ offset
