-- What `add-text` answers to a request, by what its two files gave: the text's path and the
-- journal's new bytes, or the first fault.
use Rattle.std.specs.Prelude.{◌≡◌, ◌≢◌, ◌≤◌, ◌<◌, [], ◌∷◌, ◌++◌, ℕ, List, Option, Some, None}
use Rattle.std.specs.Prelude.{Result, Ok, Err, IsTrue, false, length}
use Rattle.std.specs.Borrow.{Bor}
use Rattle.std.specs.Global.{Vec}
use Rattle.nix_names.specs.Bytes.{Bytes, Dir, Path}
use Rattle.nix_names.specs.Names.{IsStoreDir, is_name}
use Rattle.nix_drv.specs.OwnPath.{text_path}
use Rattle.valid_table.specs.Entries.{registered}
use Rattle.valid_table.specs.Reading.{IsJournalReading}
use Rattle.valid_table.specs.Tables.{JournalValue}
use Rattle.valid_table.specs.Valid.{IsValid}
use Rattle.valid_table.specs.Written.{written_text}
use Rattle.valid_table.specs.declared.entry.Entry.{Entry}
use Rattle.valid_table.specs.declared.fault.TableFault.{TableFault}
use Rattle.valid_table.specs.declared.fault.TableFault.TheVariants as table
use Rattle.command_line.specs.declared.options.AddTextRequest.{AddTextRequest}
use Rattle.nix_realise.specs.Files.{FileBytes}
use Rattle.nix_realise.specs.Registering.{record_of_text, text_entry}
use Rattle.nix_realise.specs.declared.additions.added_text.AddedText.{AddedText}
use Rattle.nix_realise.specs.declared.additions.added_text.NamedText.{NamedText}
use Rattle.nix_realise.specs.declared.additions.text_record.TextRecord.{TextRecord}
use Rattle.nix_realise.specs.declared.io.files.FileFault.TheVariants as file
use Rattle.nix_realise.specs.declared.cli.run_error.RunError.{RunError}
use Rattle.nix_realise.specs.declared.cli.run_error.RunError.TheVariants.{BadStoreDir, Unreadable, TooLong}
use Rattle.nix_realise.specs.declared.cli.run_error.RunError.TheVariants.{BadName, JournalUnreadable, BadJournal}
use Rattle.nix_realise.specs.declared.cli.run_error.RunError.TheVariants.{NoMemory}

-- the greatest length of a text, in bytes
abbrev pub max_text_len : ℕ
max_text_len = 4194304

-- The text's bytes by what FILE gave, or a fault.
abbrev pub IsTextOf : Bor Bytes → FileBytes → Result (Vec ℕ) RunError → Type 0
IsTextOf path gave (Ok bytes) = (gave ≡ Ok bytes.items) × (length bytes.items ≤ max_text_len)
IsTextOf path gave (Err (Unreadable blamed)) = (blamed ≡ path) × (gave ≡ Err file.Unreadable)
IsTextOf path gave (Err (TooLong blamed)) =
    (blamed ≡ path) × ((bytes : Bytes) × (gave ≡ Ok bytes) × (max_text_len < length bytes))
IsTextOf path gave (Err NoMemory) = gave ≡ Err file.NoMemory
IsTextOf path gave (Err stop) = ⊥

-- The journal's new bytes: none where the path is valid by the journal's entries; else the text of
-- these entries with the path's entry after them.
abbrev pub IsNewText : List Entry → (path : Path) → TextRecord → Option (Vec ℕ) → Type 0
IsNewText entries path told None = IsValid (registered entries) path
IsNewText entries path told (Some bytes) =
    ¬ (IsValid (registered entries) path)
    × (bytes.items ≡ written_text (entries ++ text_entry path told ∷ []))

-- The journal file gave the text of some entries, and these are the new bytes.
pub record IsRenewed (dir : Dir) (gave : FileBytes) (path : Path) (told : TextRecord)
    (new : Option (Vec ℕ)) : Type 0 where
  pub bytes : Bytes
  pub bytes_are : gave ≡ Ok bytes
  pub entries : List Entry
  pub reading : IsJournalReading dir bytes (Ok entries)
  pub is_new : IsNewText entries path told new

-- The journal file gave bytes that have this fault as a journal of the folder.
abbrev pub IsBadJournal : (dir : Dir) → FileBytes → TableFault → Type 0
IsBadJournal dir gave fault =
    (fault ≢ table.NoMemory)
    × ((bytes : Bytes) × (gave ≡ Ok bytes) × IsJournalReading dir bytes (Err fault))

-- The journal whose text its file gave, or a fault.
abbrev pub IsJournalOf : (dir : Dir) → FileBytes → Result JournalValue RunError → Type 0
IsJournalOf dir gave (Ok journal) =
    (bytes : Bytes) × (gave ≡ Ok bytes) × IsJournalReading dir bytes (Ok journal.entries)
IsJournalOf dir gave (Err JournalUnreadable) = gave ≡ Err file.Unreadable
IsJournalOf dir gave (Err (BadJournal fault)) = IsBadJournal dir gave fault
IsJournalOf dir gave (Err NoMemory) = Unit {0}
IsJournalOf dir gave (Err stop) = ⊥

-- The journal's new bytes by what its file gave, or a fault.
abbrev pub IsRenewing : (dir : Dir) → FileBytes → (path : Path) → TextRecord
    → Result (Option (Vec ℕ)) RunError → Type 0
IsRenewing dir gave path told (Ok new) = IsRenewed dir gave path told new
IsRenewing dir gave path told (Err JournalUnreadable) = gave ≡ Err file.Unreadable
IsRenewing dir gave path told (Err (BadJournal fault)) = IsBadJournal dir gave fault
IsRenewing dir gave path told (Err NoMemory) = Unit {0}
IsRenewing dir gave path told (Err stop) = ⊥

-- The store folder is well-formed, and FILE gave these bytes, which are not too long.
abbrev pub HasText : AddTextRequest → FileBytes → (bytes : Bytes) → Type 0
HasText request gave bytes =
    IsStoreDir request.store_dir.now × (gave ≡ Ok bytes) × (length bytes ≤ max_text_len)

-- And the name is well-formed.
abbrev pub HasNamedText : AddTextRequest → FileBytes → (bytes : Bytes) → Type 0
HasNamedText request gave bytes = HasText request gave bytes × IsTrue (is_name request.name.now)

-- The text that FILE gave, with its path in a well-formed store folder, or a fault: FILE is tested
-- first, then the name.
abbrev pub IsNaming : AddTextRequest → (gave : FileBytes) → Result NamedText RunError → Type 0
IsNaming request gave (Ok named) =
    HasNamedText request gave named.text.items
    × (named.path ≡ text_path request.store_dir.now request.name.now named.text.items [])
    × (named.told ≡ record_of_text request.profile named.text.items)
IsNaming request gave (Err (Unreadable blamed)) =
    (blamed ≡ request.file) × (gave ≡ Err file.Unreadable)
IsNaming request gave (Err (TooLong blamed)) =
    (blamed ≡ request.file)
    × ((bytes : Bytes) × (gave ≡ Ok bytes) × (max_text_len < length bytes))
IsNaming request gave (Err (BadName blamed)) =
    (blamed ≡ request.name) × ((bytes : Bytes) × HasText request gave bytes)
    × (is_name request.name.now ≡ false)
IsNaming request gave (Err NoMemory) = Unit {0}
IsNaming request gave (Err stop) = ⊥

-- The text that is put into the store, by what the journal file gave, or a fault of the journal.
abbrev pub IsAdding : (dir : Dir) → NamedText → (journal : FileBytes) → Result AddedText RunError
    → Type 0
IsAdding dir named journal (Ok added) =
    (added.path ≡ named.path) × (added.text ≡ named.text)
    × IsRenewed dir journal named.path named.told added.journal
IsAdding dir named journal (Err stop) =
    IsRenewing dir journal named.path named.told (Err stop)

-- What `add-text` answers. The store folder is tested first, then FILE, the name and the journal.
-- Each fault comes exactly where nothing is wrong with what is tested before it, so the cases
-- exclude one another. Want of memory is the exception; it is never answered in place of a refused
-- folder.
abbrev pub IsAddingText : AddTextRequest → (gave journal : FileBytes)
    → Result AddedText RunError → Type 0
IsAddingText request gave journal (Ok added) =
    HasNamedText request gave added.text.items
    × (added.path ≡ text_path request.store_dir.now request.name.now added.text.items [])
    × IsRenewed request.store_dir.now journal added.path
    (record_of_text request.profile added.text.items) added.journal
IsAddingText request gave journal (Err (BadStoreDir blamed)) =
    (blamed ≡ request.store_dir) × ¬ (IsStoreDir request.store_dir.now)
IsAddingText request gave journal (Err (Unreadable blamed)) =
    (blamed ≡ request.file) × IsStoreDir request.store_dir.now × (gave ≡ Err file.Unreadable)
IsAddingText request gave journal (Err (TooLong blamed)) =
    (blamed ≡ request.file) × IsStoreDir request.store_dir.now
    × ((bytes : Bytes) × (gave ≡ Ok bytes) × (max_text_len < length bytes))
IsAddingText request gave journal (Err (BadName blamed)) =
    (blamed ≡ request.name) × ((bytes : Bytes) × HasText request gave bytes)
    × (is_name request.name.now ≡ false)
IsAddingText request gave journal (Err JournalUnreadable) =
    ((bytes : Bytes) × HasNamedText request gave bytes) × (journal ≡ Err file.Unreadable)
IsAddingText request gave journal (Err (BadJournal fault)) =
    ((bytes : Bytes) × HasNamedText request gave bytes)
    × IsBadJournal request.store_dir.now journal fault
IsAddingText request gave journal (Err NoMemory) = ¬ (¬ (IsStoreDir request.store_dir.now))
IsAddingText request gave journal (Err stop) = ⊥
