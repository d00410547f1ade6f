-- Which files of a text, and of a derivation, were written, and what ends a run where one wasn't.
use Rattle.std.specs.Prelude.{◌≡◌, ◌≤◌, ◌<◌, ℕ, Option, Some, None, IsSome, length, option_map, string_bytes}
use Rattle.std.specs.Global.{Vec}
use Rattle.nix_names.specs.Bytes.{Bytes, Path}
use Rattle.nix_realise.specs.JournalFiles.{max_journal_len, text_stop, unwritten_stop}
use Rattle.nix_realise.specs.declared.additions.add_drv.AddDrvError.{AddDrvError}
use Rattle.nix_realise.specs.declared.additions.add_drv.AddDrvError.TheVariants.{File, Line}
use Rattle.nix_realise.specs.declared.io.all_written.Filed.{Filed}
use Rattle.nix_realise.specs.declared.additions.add_text.AddTextError.{AddTextError}
use Rattle.nix_realise.specs.declared.additions.add_text.AddTextError.TheVariants.{Text, Journal}
use Rattle.nix_realise.specs.declared.additions.added_drv.AddedDrv.{AddedDrv}
use Rattle.nix_realise.specs.declared.additions.added_text.AddedText.{AddedText}
use Rattle.nix_realise.specs.declared.io.journal_file.OwnJournal.{OwnJournal}
use Rattle.nix_realise.specs.declared.io.journal_write.UnwrittenJournal.{UnwrittenJournal}
use Rattle.nix_realise.specs.declared.io.journal_write.UnwrittenJournal.TheVariants as journal
use Rattle.nix_realise.specs.declared.cli.run_error.RunError.{RunError}
use Rattle.nix_realise.specs.declared.cli.run_error.RunError.TheVariants.{Unwritable}
use Rattle.nix_realise.specs.declared.io.whole_file.WriteReceipt.{WriteReceipt}

-- these bytes were written to the file at this path
abbrev pub IsWritten : (path bytes : Bytes) → WriteReceipt → Type 0
IsWritten path bytes written = (written.path.now ≡ path) × (written.bytes.now ≡ bytes)

-- the journal's new bytes, if it gets any
abbrev pub new_bytes : AddedText → Option Bytes
new_bytes added = option_map (λ (b : Vec ℕ). b.items) added.journal

-- there are new bytes of a journal, and no more than a journal may have
abbrev pub HasShortJournal : (new : Option Bytes) → Type 0
HasShortJournal None = ⊥
HasShortJournal (Some bytes) = length bytes ≤ max_journal_len

-- there are new bytes of a journal, and more than a journal may have
abbrev pub HasLongJournal : (new : Option Bytes) → Type 0
HasLongJournal None = ⊥
HasLongJournal (Some bytes) = max_journal_len < length bytes

-- why the new bytes of a journal are not written: they are too many; or they are not, and the file
-- could not be written
abbrev pub IsUnwrittenNew : (new : Option Bytes) → UnwrittenJournal → Type 0
IsUnwrittenNew new journal.TooLong = HasLongJournal new
IsUnwrittenNew new (journal.File unwritten) = HasShortJournal new

-- where the journal has new bytes, the text and the journal were written, and these bytes are not
-- too many; else no file was written
abbrev pub AreFiled : AddedText → OwnJournal → Option Filed → Type 0
AreFiled added file None = new_bytes added ≡ None
AreFiled added file (Some filed) =
    IsWritten added.path added.text.items filed.text
    × (filed.journal.path.now ≡ string_bytes file.path)
    × (new_bytes added ≡ Some filed.journal.bytes.now)
    × (length filed.journal.bytes.now ≤ max_journal_len)

-- why a file of a text was not written: that of the text only where the journal has new bytes
abbrev pub IsUnfiled : AddedText → AddTextError → Type 0
IsUnfiled added (Text unwritten) = IsSome added.journal
IsUnfiled added (Journal fault) = IsUnwrittenNew (new_bytes added) fault

-- the text of a derivation was written to its path
abbrev pub IsDrvWritten : AddedDrv → WriteReceipt → Type 0
IsDrvWritten added written = IsWritten added.path added.text.items written

-- nothing is printed where the file of a derivation was not written
abbrev pub IsUnprinted : (before after : Option Bytes) → AddDrvError → Type 0
IsUnprinted before after (File unwritten) = after ≡ before
IsUnprinted before after Line = Unit {0}

-- what ends a run of which a file of the text at this path was not written
abbrev pub unfiled_stop : Path → AddTextError → RunError
unfiled_stop path (Text unwritten) = text_stop path unwritten.failure
unfiled_stop path (Journal fault) = unwritten_stop fault

-- what ends a run whose derivation was not put at this path
abbrev pub unput_stop : Path → AddDrvError → RunError
unput_stop path (File unwritten) = text_stop path unwritten.failure
unput_stop path Line = Unwritable
