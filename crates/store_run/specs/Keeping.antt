-- *Kept*: what is kept of a run while it goes on (this product's own).
use Rattle.std.specs.Prelude.{◌≡◌, List, Result}
use mathlib.Core.List.{IsPrefix}
use Rattle.nix_names.specs.Bytes.{Bytes}
use Rattle.drv_graph.specs.declared.profile.Profile.{Profile}
use Rattle.drv_graph.specs.declared.profile.Profile.TheVariants.{Plain, Nix}
use Rattle.valid_table.specs.Texts.{text}
use Rattle.valid_table.specs.Written.{written_version}
use Rattle.valid_table.specs.declared.entry.Entry.{Entry}
use Rattle.valid_table.specs.declared.path_table.version.Version.{Version}
use Rattle.valid_table.specs.declared.path_table.version.Version.TheVariants.{Three}
use Rattle.build_outcome.specs.declared.job.Answer.{Answer}
use Rattle.build_outcome.specs.declared.job.Job.{Job}
use Rattle.build_outcome.specs.declared.reason.Reason.{Reason}
use Rattle.run_states.specs.Legal.{IsLegal}
use Rattle.run_states.specs.Runs.{History, Run}
use Rattle.sched_core.specs.Books.{BuildsOver}
use Rattle.store_run.specs.Builders.{IsAnswered}

-- the version of the texts that are kept of a run while it goes on, by the entries that it opened
-- with: version 3 under `nix`, where each output's record has its archive, and else the version in
-- which those entries are written
abbrev pub interim_version : Profile → (opening : List Entry) → Version
interim_version Nix opening = Three
interim_version Plain opening = written_version opening

-- A text is what is kept of a run that opened with these entries, where this list was shown: the
-- text, in the run's version, of all entries of a legal history of the run, in which what became of
-- each derivation is a verdict on what a builder may give. The entries go on from the list, in
-- which all is valid that is built from.
pub record IsInterimJournal (may : Job → Result Answer Reason → Type 0)
    (was_shown : List Entry → Type 0) (run : Run) (opening shown : List Entry) (bytes : Bytes)
    : Type 0 where
  pub history : History
  pub opening_is : history.opening ≡ opening
  pub legal : IsLegal run history
  pub answered : IsAnswered may run history
  pub is_shown : was_shown shown
  pub goes_on : IsPrefix shown history.entries
  pub seeds : BuildsOver run history shown
  pub text_is : bytes ≡ text (interim_version run.graph.profile opening) history.entries

-- each text that is kept of a run that is over something may be handed over
abbrev pub TakesEachInterimJournal : (may : Job → Result Answer Reason → Type 0)
    → (was_shown : List Entry → Type 0) → (is_this_run : Run → List Entry → Type 0)
    → (may_keep : List Entry → Bytes → Type 0) → Type 0
TakesEachInterimJournal may was_shown is_this_run may_keep =
    (run : Run) (opening shown : List Entry) (bytes : Bytes) → is_this_run run opening
    → IsInterimJournal may was_shown run opening shown bytes → may_keep shown bytes
