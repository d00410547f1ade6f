-- *Journals of runs*: the entries of a run go on from those that it opened with, and their text is
-- read as just these entries (this product's own).
use Rattle.std.specs.Prelude.{◌≡◌, ◌⊎◌, List, [], ◌∷◌, ◌++◌, All, Result, Ok, Err}
use Rattle.nix_names.specs.Bytes.{Bytes, Dir, Path}
use Rattle.nix_names.specs.Names.{IsStoreDir}
use Rattle.nix_names.specs.StorePaths.{IsStorePath}
use Rattle.nix_drv.specs.Sources.{Answer as SourceAnswer}
use Rattle.drv_graph.specs.Plans.{Graph, IsPlan}
use Rattle.valid_table.specs.PathInfos.{PathInfo}
use Rattle.valid_table.specs.Reading.{IsJournalReading, IsTooLong}
use Rattle.valid_table.specs.Texts.{IsJournalText}
use Rattle.valid_table.specs.Written.{written_text}
use Rattle.valid_table.specs.declared.entry.Entry.{Entry}
use Rattle.valid_table.specs.declared.fault.TableFault.{TableFault}
use Rattle.valid_table.specs.declared.fault.TableFault.TheVariants.{NoMemory}
use Rattle.build_outcome.specs.declared.job.Answer.{Answer}
use Rattle.build_outcome.specs.declared.job.Job.{Job}
use Rattle.build_outcome.specs.declared.reason.Reason.{Reason}
use Rattle.run_states.specs.Legal.{IsLegal}
use Rattle.run_states.specs.Systems.{Platform}
use Rattle.run_states.specs.Runs.{History, Run}
use Rattle.run_states.specs.declared.state.Event.{Event}
use Rattle.run_states.specs.declared.state.Event.TheVariants.{Begin, Done as Finish, Fail}
use Rattle.sched_core.specs.Books.{IsDone, Ledger}
use Rattle.store_run.specs.Builders.{IsAnswered}
use Rattle.store_run.specs.Keeping.{IsInterimJournal}
use Rattle.store_run.specs.Realising.{IsLeft}

-- Entries are those of the Done events among some events, in order: for each Done the whole entry
-- of its derivation, with records that are allowed after the entries before it.
abbrev pub AreDoneEntries : Run → (before : List Entry) → List Event → (more : List Entry) → Type 0
AreDoneEntries run before [] [] = Unit {0}
AreDoneEntries run before [] (entry ∷ more) = ⊥
AreDoneEntries run before (Finish d lease ∷ events) [] = ⊥
AreDoneEntries run before (Finish d lease ∷ events) (entry ∷ more) =
    ((infos : List PathInfo) × IsDone run before d infos entry)
    × AreDoneEntries run (before ++ entry ∷ []) events more
AreDoneEntries run before (Begin d lease ∷ events) more = AreDoneEntries run before events more
AreDoneEntries run before (Fail d lease reason ∷ events) more =
    AreDoneEntries run before events more

-- *Entries go on*: in a legal history the entries are the opening ones, then those of its Done
-- events
abbrev pub EntriesGoOn : Type 0
EntriesGoOn = (run : Run) (history : History) → IsLegal run history
    → (more : List Entry) × (history.entries ≡ history.opening ++ more)
    × AreDoneEntries run history.opening history.events more

-- A run is over a plan of a store folder, whose roots are store paths, and opens with entries that
-- some text of a journal of that folder has.
pub record IsOverStore (dir : Dir) (gives : Path → SourceAnswer → Type 0) (roots : List Path)
    (graph : Graph) (opening : List Entry)
    : Type 0 where
  pub is_dir : IsStoreDir dir
  pub are_paths : All IsStorePath roots
  pub is_plan : IsPlan dir gives roots graph
  pub written : (bytes : Bytes) × IsJournalText dir opening bytes

-- bytes, within the limit of a journal, are read as just these entries, or
-- memory is refused
abbrev pub AreReadAs : Dir → (bytes : Bytes) → List Entry → Type 0
AreReadAs dir bytes entries = (answer : Result (List Entry) TableFault) → (IsTooLong bytes → ⊥)
    → IsJournalReading dir bytes answer → (answer ≡ Ok entries) ⊎ (answer ≡ Err NoMemory)

-- *Journals of runs are read*: the text of the entries of a legal and answered history of such a
-- run, whose derivations a source gave, is read as these entries
abbrev pub JournalsOfRunsAreRead : {S : Type 0} → (may : Job → Result Answer Reason → Type 0)
    → (gives : S → Path → SourceAnswer → Type 0) → Type 0
JournalsOfRunsAreRead {S} may gives =
    (source : S) (dir : Dir) (roots : List Path) (run : Run) (history : History)
    → IsOverStore dir (gives source) roots run.graph history.opening
    → IsLegal run history → IsAnswered may run history
    → AreReadAs dir (written_text history.entries) history.entries

-- each text that is kept of such a run while it goes on is read as the entries of its history
abbrev pub KeptTextsAreRead : {S : Type 0} → (may : Job → Result Answer Reason → Type 0)
    → (was_shown : List Entry → Type 0) → (gives : S → Path → SourceAnswer → Type 0) → Type 0
KeptTextsAreRead {S} may was_shown gives =
    (source : S) (dir : Dir) (roots : List Path) (run : Run) (opening shown : List Entry)
    (text : Bytes)
    → IsOverStore dir (gives source) roots run.graph opening
    → (kept : IsInterimJournal may was_shown run opening shown text)
    → AreReadAs dir text kept.history.entries

-- the text of the entries that such a run leaves behind is read as these entries
abbrev pub LeftJournalsAreRead : {S : Type 0} → (may : Job → Result Answer Reason → Type 0)
    → (gives : S → Path → SourceAnswer → Type 0) → Type 0
LeftJournalsAreRead {S} may gives =
    (source : S) (dir : Dir) (roots : List Path) (plan : Graph) (system : Platform)
    (opening : List Entry) (book : Ledger) → IsOverStore dir (gives source) roots plan opening
    → IsLeft may plan system opening book
    → AreReadAs dir (written_text book.history.entries) book.history.entries
