-- What `Journal::read` answers for the bytes of a file, case by case. The cases exclude one
-- another, want of memory apart.
use Rattle.std.specs.Prelude.{◌≡◌, ◌≢◌, ◌⊎◌, ◌<◌, ℕ, List, [], ◌++◌, length, Result, Ok, Err}
use Rattle.nix_names.specs.Bytes.{Bytes, Dir}
use Rattle.valid_table.specs.BadLines.{IsBadLine, IsOtherVersion}
use Rattle.valid_table.specs.LineFaults.{IsLeastFault, IsNotClosedAt, IsTwiceAt}
use Rattle.valid_table.specs.Tables.{JournalValue}
use Rattle.valid_table.specs.Texts.{IsJournalText, version_line}
use Rattle.valid_table.specs.Valid.{IsJournal}
use Rattle.valid_table.specs.declared.entry.Entry.{Entry}
use Rattle.valid_table.specs.declared.fault.TableFault.{TableFault}
use Rattle.valid_table.specs.declared.path_table.version.Version.{Version}
use Rattle.valid_table.specs.declared.path_table.version.Version.TheVariants.{One, Two, Three}
use Rattle.valid_table.specs.declared.fault.TableFault.TheVariants.{NoMemory, BadLine, NotClosed, Twice, WrongVersion, TooLong}

-- the greatest length of a journal's text in a version
abbrev pub max_len : Version → ℕ
max_len One = 67108864
max_len Two = 134217728
max_len Three = 134217728

-- the bytes begin with the line of a version
abbrev pub BeginsVersion : Version → Bytes → Type 0
BeginsVersion version bytes = (rest : Bytes) × (bytes ≡ version_line version ++ rest)

-- the bytes are more than a journal of any version may have, or they begin with the line of a
-- version and are more than a journal of that version may have
abbrev pub IsTooLong : Bytes → Type 0
IsTooLong bytes = (max_len Three < length bytes)
    ⊎ ((version : Version) × BeginsVersion version bytes × (max_len version < length bytes))

-- what is answered for entries whose text was read
abbrev pub IsEntriesChecking : List Entry → Result (List Entry) TableFault → Type 0
IsEntriesChecking entries (Ok journal) = (journal ≡ entries) × IsJournal entries
IsEntriesChecking entries (Err (NotClosed n)) = IsNotClosedAt entries n × IsLeastFault entries n
IsEntriesChecking entries (Err (Twice n)) = IsTwiceAt entries n × IsLeastFault entries n
IsEntriesChecking entries (Err NoMemory) = entries ≢ []
IsEntriesChecking entries (Err fault) = ⊥

-- The bytes are not too long, and are the text of some entries. The answer is that for these
-- entries.
pub record IsReadAs (dir : Dir) (bytes : Bytes) (answer : Result (List Entry) TableFault)
    : Type 0 where
  pub within : IsTooLong bytes → ⊥
  pub entries : List Entry
  pub is_text : IsJournalText dir entries bytes
  pub checked : IsEntriesChecking entries answer

-- an answer without the journal's room: the journal's entries, or the fault
abbrev pub answered : Result JournalValue TableFault → Result (List Entry) TableFault
answered (Ok journal) = Ok journal.entries
answered (Err fault) = Err fault

-- What is answered for bytes. Memory is refused only where they are within the limit and begin with
-- the line of a version.
abbrev pub IsJournalReading : (dir : Dir) (bytes : Bytes) → Result (List Entry) TableFault → Type 0
IsJournalReading dir bytes (Err TooLong) = IsTooLong bytes
IsJournalReading dir bytes (Err WrongVersion) = (IsTooLong bytes → ⊥) × IsOtherVersion bytes
IsJournalReading dir bytes (Err (BadLine n)) = (IsTooLong bytes → ⊥) × (IsOtherVersion bytes → ⊥)
    × IsBadLine dir bytes n
IsJournalReading dir bytes (Err NoMemory) = (IsTooLong bytes → ⊥) × (IsOtherVersion bytes → ⊥)
    × ((version : Version) × BeginsVersion version bytes)
IsJournalReading dir bytes answer = IsReadAs dir bytes answer
