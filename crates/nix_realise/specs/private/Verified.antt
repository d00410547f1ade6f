-- What was found of valid paths, and the journal by which.
use Rattle.std.specs.Prelude.{◌≡◌, List, Ok}
use Rattle.nix_names.specs.Bytes.{Bytes, Path}
use Rattle.valid_table.specs.Entries.{registered}
use Rattle.valid_table.specs.PathInfos.{PathInfo}
use Rattle.valid_table.specs.Tables.{JournalValue}
use Rattle.valid_table.specs.Valid.{Registers}
use Rattle.command_line.specs.declared.options.VerifyRequest.{VerifyRequest}
use Rattle.nix_realise.specs.AddedText.{IsJournalOf}
use Rattle.nix_realise.specs.Files.{FileBytes}
use Rattle.nix_realise.specs.Verifying.{HasPaths, IsFinding, words_of}
use Rattle.nix_realise.specs.declared.verification.verified.Verified.{Verified}

-- a path is valid, and this is found of it by its record
abbrev pub IsFound : JournalValue → Path → Verified → Type 0
IsFound journal path found = (info : PathInfo)
    × Registers (registered journal.entries) path info × IsFinding info found

-- the paths that a request names, and the journal
abbrev pub IsJournalTaken : VerifyRequest → (gave : FileBytes) → (named : List Path) → JournalValue
    → Type 0
IsJournalTaken request gave named journal =
    (named ≡ words_of request) × HasPaths request
    × IsJournalOf request.store_dir.now gave (Ok journal)
