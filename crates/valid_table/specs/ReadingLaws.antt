-- That the text of a journal is read as just that journal, and that bytes have one answer.
use Rattle.std.specs.Prelude.{◌≡◌, ◌⊎◌, ◌≤◌, ◌*◌, List, length, Result, Ok, Err}
use Rattle.nix_names.specs.Bytes.{Bytes, Dir}
use Rattle.nix_names.specs.Names.{IsStoreDir}
use Rattle.valid_table.specs.Reading.{IsJournalReading, IsTooLong}
use Rattle.valid_table.specs.Texts.{IsJournalText, IsTextIn, text}
use Rattle.valid_table.specs.Valid.{IsJournal}
use Rattle.valid_table.specs.declared.entry.Entry.{Entry}
use Rattle.valid_table.specs.declared.fault.TableFault.{TableFault}
use Rattle.valid_table.specs.declared.fault.TableFault.TheVariants.{NoMemory}
use Rattle.valid_table.specs.declared.path_table.version.Version.{Version}
use Rattle.valid_table.specs.declared.path_table.version.Version.TheVariants.{One, Two, Three}

-- a text is the text of at most one list of entries
abbrev pub TextHasOneList : Type 0
TextHasOneList = (dir : Dir) (bytes : Bytes) (a b : List Entry) → IsJournalText dir a bytes
    → IsJournalText dir b bytes → a ≡ b

-- the text of a journal, within the limit, is read as just that journal, want of memory apart
abbrev pub JournalTextsAreRead : Type 0
JournalTextsAreRead =
    (dir : Dir) (bytes : Bytes) (entries : List Entry) (answer : Result (List Entry) TableFault)
    → IsStoreDir dir → (IsTooLong bytes → ⊥)
    → IsJournalText dir entries bytes → IsJournal entries → IsJournalReading dir bytes answer
    → (answer ≡ Ok entries) ⊎ (answer ≡ Err NoMemory)

-- two answers for the same bytes are the same, or one is want of memory
abbrev pub AnswerIsOne : Type 0
AnswerIsOne =
    (dir : Dir) (bytes : Bytes) (a b : Result (List Entry) TableFault) → IsStoreDir dir
    → IsJournalReading dir bytes a → IsJournalReading dir bytes b
    → (a ≡ b) ⊎ (a ≡ Err NoMemory) ⊎ (b ≡ Err NoMemory)

-- a version comes before another
abbrev pub IsEarlier : (old new : Version) → Type 0
IsEarlier One Two = Unit {0}
IsEarlier One Three = Unit {0}
IsEarlier Two Three = Unit {0}
IsEarlier old new = ⊥

-- a text of a version and the text of its entries in a later one have the same entries; the second
-- has at most twice the length, so it is within its limit where the first is within half of that
abbrev pub VersionsHaveTheSameEntries : Type 0
VersionsHaveTheSameEntries =
    (old new : Version) (dir : Dir) (bytes : Bytes) (entries : List Entry) → IsEarlier old new
    → IsTextIn old dir entries bytes
    → IsTextIn new dir entries (text new entries)
    × (length (text new entries) ≤ 2 * length bytes)

-- The entries that are read of a text of a version are read again of the text of these entries in a
-- later one, want of memory apart. A text of version 2 may be so long that the text in version 3 is
-- past the limit; one of version 1 may not.
abbrev pub WrittenJournalsAreReadAgain : Type 0
WrittenJournalsAreReadAgain =
    (old new : Version) (dir : Dir) (bytes : Bytes) (entries : List Entry)
    (answer : Result (List Entry) TableFault)
    → IsEarlier old new → IsStoreDir dir → IsTextIn old dir entries bytes
    → IsJournalReading dir bytes (Ok entries)
    → (old ≡ Two → IsTooLong (text new entries) → ⊥)
    → IsJournalReading dir (text new entries) answer
    → (answer ≡ Ok entries) ⊎ (answer ≡ Err NoMemory)
