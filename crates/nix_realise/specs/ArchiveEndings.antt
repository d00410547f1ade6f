-- How `dump`, `hash` and `restore` end: what was printed, and what archive was printed or read (Nix
-- manual, "Nix Archive (NAR) format"). No clause says what lies on disk, so that is some tree.
use Rattle.std.specs.Prelude.{◌≡◌, ◌⊎◌, ◌<◌, ◌+◌, ℕ, [], ◌∷◌, ◌++◌, Option, Result, Ok, Err, codes, decimal, length, take}
use Rattle.std.specs.Io.KnownBytes.{Appends, Consumes, IsAtEnd}
use Rattle.sha2.specs.Sha256.{sha256}
use Rattle.nix_archive.specs.Archive.{nar}
use Rattle.nix_archive.specs.Reading.{IsArchive, IsBegun, IsRefused}
use Rattle.nix_archive.specs.Trees.{IsArchivable, Tree}
use Rattle.nix_names.specs.Base32.{base32}
use Rattle.nix_names.specs.Bytes.{Bytes}
use Rattle.valid_table.specs.PathInfos.{NarInfo}
use Rattle.command_line.specs.declared.options.DumpRequest.{DumpRequest}
use Rattle.command_line.specs.declared.options.HashRequest.{HashRequest}
use Rattle.command_line.specs.declared.options.RestoreRequest.{RestoreRequest}
use Rattle.nix_realise.specs.declared.cli.exit.Status.{Status}
use Rattle.nix_realise.specs.declared.cli.exit.Status.TheVariants.{Done}
use Rattle.nix_realise.specs.declared.cli.run_error.RunError.{RunError}
use Rattle.nix_realise.specs.declared.cli.run_error.RunError.TheVariants.{BadArchive, InputUnreadable}
use Rattle.nix_realise.specs.declared.cli.run_error.RunError.TheVariants.{NoMemory, NotRestored}
use Rattle.nix_realise.specs.declared.cli.run_error.RunError.TheVariants.{Unreadable, Unwritable}

-- The bytes are the archive of a tree.
pub record IsNar (bytes : Bytes) : Type 0 where
  pub tree : Tree
  pub archivable : IsArchivable tree
  pub is_of : bytes ≡ nar tree

-- How `dump` ends: a whole archive is printed. Where it is stopped while the path is read, a part
-- of one may be.
abbrev pub DumpEnds : DumpRequest → (before after : Option Bytes) → Result Status RunError → Type 0
DumpEnds request before after (Ok status) =
    (status ≡ Done) × ((archive : Bytes) × IsNar archive × Appends before after archive)
DumpEnds request before after (Err (Unreadable blamed)) = blamed ≡ request.path
DumpEnds request before after (Err NoMemory) = Unit {0}
DumpEnds request before after (Err Unwritable) = Unit {0}
DumpEnds request before after (Err stop) = ⊥

-- the line of an archive, by its SHA-256 and its length
abbrev pub sum_line : NarInfo → Bytes
sum_line sum = codes "sha256:" ++ base32 sum.hash ++ 32 ∷ decimal sum.size ++ 10 ∷ []

-- The SHA-256 and the length are those of a tree's archive.
pub record IsSumOfNar (sum : NarInfo) : Type 0 where
  pub archive : Bytes
  pub is_nar : IsNar archive
  pub hash : sum.hash ≡ sha256 archive
  pub size : sum.size ≡ length archive

-- How `hash` ends: the line of an archive is printed, or nothing where the path can't be read.
abbrev pub HashEnds : HashRequest → (before after : Option Bytes) → Result Status RunError → Type 0
HashEnds request before after (Ok status) =
    (status ≡ Done) × ((sum : NarInfo) × IsSumOfNar sum × Appends before after (sum_line sum))
HashEnds request before after (Err (Unreadable blamed)) =
    (blamed ≡ request.path) × (after ≡ before)
HashEnds request before after (Err NoMemory) = after ≡ before
HashEnds request before after (Err Unwritable) = Unit {0}
HashEnds request before after (Err stop) = ⊥

-- The offset of the first byte of a text with which no archive goes on; or the text's length, where
-- the text ends, and an archive goes on with more bytes but not with none.
abbrev pub IsStrayOffset : (text : Bytes) → (offset : ℕ) → Type 0
IsStrayOffset text offset =
    ((offset < length text) × IsBegun IsArchive (take offset text)
    × IsRefused IsArchive (take (offset + 1) text))
    ⊎ ((offset ≡ length text) × IsBegun IsArchive text × ¬ (IsNar text))

-- Why what a reader gives is no archive: by the bytes that it gave, of which none is left where
-- they only begin one.
abbrev pub IsStray : (before after : Option Bytes) → (offset : ℕ) → Type 0
IsStray before after offset =
    (text : Bytes) × Consumes before after text × IsStrayOffset text offset
    × (offset ≡ length text → IsAtEnd after)

-- An archive was read, and nothing is left.
abbrev pub IsWholeInput : (before after : Option Bytes) → Type 0
IsWholeInput before after =
    (text : Bytes) × IsNar text × Consumes before after text × IsAtEnd after

-- How `restore` ends, by what standard input had left before and has left after: it is accepted
-- exactly where that is an archive; and what that holds may not be made.
abbrev pub RestoreEndsBy : RestoreRequest → (before after : Option Bytes) → Result Status RunError
    → Type 0
RestoreEndsBy request before after (Ok status) = (status ≡ Done) × IsWholeInput before after
RestoreEndsBy request before after (Err (BadArchive blamed offset)) =
    (blamed ≡ request.path) × IsStray before after offset
RestoreEndsBy request before after (Err (NotRestored blamed)) =
    (blamed ≡ request.path) × IsWholeInput before after
RestoreEndsBy request before after (Err InputUnreadable) = Unit {0}
RestoreEndsBy request before after (Err NoMemory) = Unit {0}
RestoreEndsBy request before after (Err stop) = ⊥

-- how it ends: nothing is known of what standard input gives
abbrev pub RestoreEnds : RestoreRequest → Result Status RunError → Type 0
RestoreEnds request result =
    (before : Option Bytes) × (after : Option Bytes) × RestoreEndsBy request before after result
