-- What ends a run: its line, the number of the fault, and the status of the run.
use Rattle.std.specs.Prelude.{◌≡◌, ℕ, [], ◌∷◌, ◌++◌, Option, codes, decimal, string_bytes}
use Rattle.std.specs.Io.KnownBytes.{Appends}
use Rattle.nix_names.specs.Bytes.{Bytes}
use Rattle.drv_graph.specs.Faults.{node_number_of}
use Rattle.nix_names.specs.Faults.{number_of as name_number_of}
use Rattle.nix_names.specs.Names.{IsStoreDir}
use Rattle.run_report.specs.Words.{with_value}
use Rattle.store_run.specs.Numbers.{fault_number_of as run_number_of}
use Rattle.valid_table.specs.Faults.{number_of as table_number_of}
use Rattle.valid_table.specs.declared.fault.TableFault.{TableFault}
use Rattle.valid_table.specs.declared.fault.TableFault.TheVariants as table
use Rattle.nix_realise.specs.FaultWords.{name_fault_words, run_fault_words, table_fault_words}
use Rattle.nix_realise.specs.GraphWords.{node_fault_words}
use Rattle.nix_realise.specs.declared.cli.exit.Exit.{Exit}
use Rattle.nix_realise.specs.declared.cli.exit.Exit.TheVariants as ending
use Rattle.nix_realise.specs.declared.cli.exit.Status.{Status}
use Rattle.nix_realise.specs.declared.cli.exit.Status.TheVariants.{Refused, CutShort}
use Rattle.nix_realise.specs.declared.cli.run_error.FaultName.{FaultName}
use Rattle.nix_realise.specs.declared.cli.run_error.FaultName.TheVariants.{OfArchive, OfJournal, OfName}
use Rattle.nix_realise.specs.declared.cli.run_error.FaultName.TheVariants.{OfNode, OfRun, Word}
use Rattle.nix_realise.specs.declared.cli.run_error.RunError.{RunError}
use Rattle.nix_realise.specs.declared.cli.run_error.RunError.TheVariants.{BadStoreDir, Unreadable, TooLong}
use Rattle.nix_realise.specs.declared.cli.run_error.RunError.TheVariants.{BadDraft, BadDrv}
use Rattle.nix_realise.specs.declared.cli.run_error.RunError.TheVariants.{BadName, JournalUnreadable, BadJournal}
use Rattle.nix_realise.specs.declared.cli.run_error.RunError.TheVariants.{InUse, NixStore, NotLocked}
use Rattle.nix_realise.specs.declared.cli.run_error.RunError.TheVariants.{NotWritten, JournalNotWritten}
use Rattle.nix_realise.specs.declared.cli.run_error.RunError.TheVariants.{JournalTooLong}
use Rattle.nix_realise.specs.declared.cli.run_error.RunError.TheVariants.{BadArchive, NoBuildDir, NotRestored}
use Rattle.nix_realise.specs.declared.cli.run_error.RunError.TheVariants.{InputUnreadable, NotValid}
use Rattle.nix_realise.specs.declared.cli.run_error.RunError.TheVariants.{NoLogs, NoPath, NoRunner, NoTrace, Run}
use Rattle.nix_realise.specs.declared.cli.run_error.RunError.TheVariants.{NoMemory, Unwritable}

-- what ends a run for this fault of its journal
abbrev pub stop_of : TableFault → RunError
stop_of table.NoMemory = NoMemory
stop_of fault = BadJournal fault

-- What is told of a fault that ends a run: its number in the table of faults; the status of the
-- run; where the fault was found, as the line says, which is a word as it was given, a path, the
-- journal or the run; and the fault's name with its value.
pub record Row : Type 0 where
  pub number : ℕ
  pub status : Status
  pub location : Bytes
  pub words : Bytes

-- a word, a file or the journal is refused
abbrev pub refused : ℕ → (location words : Bytes) → Row
refused n location name = record { number = n; status = Refused; location = location; words = name }

-- the run is cut short: the store folder may not be used now, the journal can't be read or would be
-- too long to be read again, the workers end too early, memory or a write is refused
abbrev pub cut_short : ℕ → (location words : Bytes) → Row
cut_short n location name =
    record { number = n; status = CutShort; location = location; words = name }

-- what is told of each fault
abbrev pub row_of : RunError → Row
row_of (BadName name) = refused 6 name.now (codes "BadName")
row_of (BadStoreDir dir) = refused 7 dir.now (codes "BadStoreDir")
row_of NoMemory = cut_short 9 (codes "run") (codes "NoMemory")
row_of (TooLong file) = refused 12 file.now (codes "TooLong")
row_of (Unreadable file) = refused 20 file.now (codes "Unreadable")
row_of InputUnreadable = refused 20 (codes "input") (codes "Unreadable")
row_of (NotValid word) = refused 34 word.now (codes "NotValid")
row_of JournalUnreadable = cut_short 20 (codes "journal") (codes "Unreadable")
row_of JournalTooLong = cut_short 35 (codes "journal") (codes "TooLong")
row_of (NotWritten path) = cut_short 74 path (codes "Unwritable")
row_of JournalNotWritten = cut_short 74 (codes "journal") (codes "Unwritable")
row_of Unwritable = cut_short 74 (codes "run") (codes "Unwritable")
row_of (NotLocked dir) = cut_short 74 dir.now (codes "Unwritable")
row_of (NoLogs folder) = cut_short 74 folder.now (codes "Unwritable")
row_of (NoTrace file) = cut_short 74 file.now (codes "Unwritable")
row_of (NoBuildDir folder) = cut_short 74 (string_bytes folder) (codes "Unwritable")
row_of (NotRestored path) = cut_short 74 path.now (codes "Unwritable")
row_of (InUse dir) = cut_short 75 dir.now (codes "InUse")
row_of (NixStore dir) = cut_short 76 dir.now (codes "NixStore")
row_of (NoRunner program) = refused 77 program.now (codes "NoRunner")
row_of (BadArchive path offset) =
    refused 87 path.now (with_value (codes "BadNar") (decimal offset))
row_of (NoPath word fault) = refused (name_number_of fault) word.now (name_fault_words fault)
row_of (BadDraft file fault) = refused (node_number_of fault) file.now (node_fault_words fault)
row_of (BadDrv path fault) = refused (node_number_of fault) path (node_fault_words fault)
row_of (BadJournal fault) =
    refused (table_number_of fault) (codes "journal") (table_fault_words fault)
row_of (Run fault kept) = cut_short (run_number_of fault) (codes "run") (run_fault_words fault)

-- the words by which a line names a fault
abbrev pub words_of : FaultName → Bytes
words_of (Word text) = text.now
words_of (OfName fault) = name_fault_words fault
words_of (OfNode fault) = node_fault_words fault.now
words_of (OfJournal fault) = table_fault_words fault.now
words_of (OfRun fault) = run_fault_words fault
words_of (OfArchive offset) = with_value (codes "BadNar") (decimal offset)

-- the line of the fault on standard error
abbrev pub stop_line : RunError → Bytes
stop_line stop =
    codes "nix_realise: " ++ (row_of stop).location ++ codes ": " ++ (row_of stop).words ++ 10 ∷ []

-- A run ends with the line and the status of what ends it. Where there is no memory for the line,
-- that of `NoMemory` is written; where standard error refuses a write, nothing is known of it.
abbrev pub IsTold : (before after : Option Bytes) → RunError → Exit → Type 0
IsTold before after stop (ending.Printed status) =
    (status ≡ (row_of stop).status) × Appends before after (stop_line stop)
IsTold before after stop ending.NoMemory = Appends before after (stop_line NoMemory)
IsTold before after stop ending.Unprinted = Unit {0}

-- why `check` prints no report: the given word is no store folder; or memory is refused; or it is a
-- store folder, and a write is refused
abbrev pub IsStopOf : (given : Bytes) → RunError → Type 0
IsStopOf given (BadStoreDir dir) = (dir.now ≡ given) × ¬ (IsStoreDir given)
IsStopOf given NoMemory = Unit {0}
IsStopOf given Unwritable = IsStoreDir given
IsStopOf given stop = ⊥
