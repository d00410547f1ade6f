-- How a run of `add-text` ends: what was printed, and which files were not written.
use Rattle.std.specs.Prelude.{◌≡◌, ◌∷◌, ◌++◌, [], Option, Result, Ok, Err, IsSome}
use Rattle.std.specs.Io.KnownBytes.{Appends}
use Rattle.nix_names.specs.Bytes.{Bytes, Path}
use Rattle.nix_names.specs.Names.{IsStoreDir}
use Rattle.command_line.specs.declared.options.AddTextRequest.{AddTextRequest}
use Rattle.nix_realise.specs.AddedText.{HasNamedText, IsAddingText, IsNaming}
use Rattle.nix_realise.specs.Filed.{HasLongJournal, HasShortJournal, new_bytes}
use Rattle.nix_realise.specs.Files.{FileBytes}
use Rattle.nix_realise.specs.Locking.{IsNotHeld}
use Rattle.nix_realise.specs.declared.additions.added_text.AddedText.{AddedText}
use Rattle.nix_realise.specs.declared.additions.added_text.NamedText.{NamedText}
use Rattle.nix_realise.specs.declared.io.all_written.AllWritten.{AllWritten}
use Rattle.nix_realise.specs.declared.cli.exit.Status.TheVariants.{Done}
use Rattle.nix_realise.specs.declared.cli.run_error.RunError.{RunError}
use Rattle.nix_realise.specs.declared.cli.run_error.RunError.TheVariants.{InUse, NotLocked}
use Rattle.nix_realise.specs.declared.cli.run_error.RunError.TheVariants.{NotWritten, JournalNotWritten}
use Rattle.nix_realise.specs.declared.cli.run_error.RunError.TheVariants.{JournalTooLong}
use Rattle.nix_realise.specs.declared.cli.run_error.RunError.TheVariants.{NoMemory, Unwritable}

-- the line of a path
abbrev pub path_line : Path → Bytes
path_line path = path ++ 10 ∷ []

-- Why the files are not written: the text can't be written at its path; or the text is written, and
-- the journal is not, exactly where its new bytes are too many, or else since it can't be; or
-- memory is refused. A file is written only where the journal has new bytes.
abbrev pub IsWriteFault : AddedText → RunError → Type 0
IsWriteFault added (NotWritten path) = (path ≡ added.path) × IsSome added.journal
IsWriteFault added JournalTooLong = HasLongJournal (new_bytes added)
IsWriteFault added JournalNotWritten = HasShortJournal (new_bytes added)
IsWriteFault added NoMemory = Unit {0}
IsWriteFault added stop = ⊥

-- How it ends to print an accepted text's path and to write its files: well only where the
-- journal's new bytes are not too many. Nothing more is known where the line is refused.
abbrev pub IsPrintedAndWritten : AddedText → (before after : Option Bytes) → Result AllWritten RunError
    → Type 0
IsPrintedAndWritten added before after (Ok written) =
    (written.status ≡ Done) × Appends before after (path_line added.path)
    × ¬ (HasLongJournal (new_bytes added))
IsPrintedAndWritten added before after (Err Unwritable) = Unit {0}
IsPrintedAndWritten added before after (Err stop) =
    IsWriteFault added stop × Appends before after (path_line added.path)

-- The text was accepted, and the line of its path was printed.
abbrev pub IsPrinted : AddTextRequest → (gave journal : FileBytes)
    → (before after : Option Bytes) → AddedText → Type 0
IsPrinted request gave journal before after added =
    IsAddingText request gave journal (Ok added) × Appends before after (path_line added.path)

-- How a run ends, by what the two files gave. Nothing is printed where the text is refused, or
-- where the store folder may not be used, which is found out after FILE and NAME. Else the path is
-- printed, and then a file may not be written. Where the line is refused, the text is accepted;
-- where memory is refused, the store folder is well-formed.
abbrev pub EndsBy : AddTextRequest → (gave journal : FileBytes)
    → (before after : Option Bytes) → Result AllWritten RunError → Type 0
EndsBy request gave journal before after (Ok written) =
    (written.status ≡ Done) × ((added : AddedText) × IsPrinted request gave journal before after added
    × ¬ (HasLongJournal (new_bytes added)))
EndsBy request gave journal before after (Err (NotWritten path)) =
    (added : AddedText) × IsPrinted request gave journal before after added
    × IsWriteFault added (NotWritten path)
EndsBy request gave journal before after (Err JournalTooLong) =
    (added : AddedText) × IsPrinted request gave journal before after added
    × IsWriteFault added JournalTooLong
EndsBy request gave journal before after (Err JournalNotWritten) =
    (added : AddedText) × IsPrinted request gave journal before after added
    × IsWriteFault added JournalNotWritten
EndsBy request gave journal before after (Err Unwritable) =
    (added : AddedText) × IsAddingText request gave journal (Ok added)
EndsBy request gave journal before after (Err (InUse blamed)) =
    (after ≡ before) × ((bytes : Bytes) × HasNamedText request gave bytes)
    × IsNotHeld request.store_dir request.wait (InUse blamed)
EndsBy request gave journal before after (Err (NotLocked blamed)) =
    (after ≡ before) × ((bytes : Bytes) × HasNamedText request gave bytes)
    × IsNotHeld request.store_dir request.wait (NotLocked blamed)
EndsBy request gave journal before after (Err NoMemory) =
    ¬ (¬ (IsStoreDir request.store_dir.now))
EndsBy request gave journal before after (Err stop) =
    (after ≡ before) × IsAddingText request gave journal (Err stop)

-- how a run ends: nothing is known of what the files gave
abbrev pub Ends : AddTextRequest → (before after : Option Bytes) → Result AllWritten RunError → Type 0
Ends request before after result =
    (gave : FileBytes) × (journal : FileBytes) × EndsBy request gave journal before after result

-- how a run ends that has a text with its path, and holds its store folder
abbrev pub HeldTextEnds : AddTextRequest → NamedText → (before after : Option Bytes)
    → Result AllWritten RunError → Type 0
HeldTextEnds request named before after result =
    (gave : FileBytes) → IsNaming request gave (Ok named)
    → (journal : FileBytes) × EndsBy request gave journal before after result
