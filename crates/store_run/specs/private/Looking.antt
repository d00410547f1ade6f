-- How a keeper looks at what a run has registered (this product's own).
use Rattle.std.specs.Prelude.{◌≡◌, ◌++◌, ◌*◌, ℕ, Option, Some, None, List, Result, length, max, min}
use Rattle.std.specs.Duration.{max_nanos}
use Rattle.nix_names.specs.Bytes.{Bytes}
use Rattle.valid_table.specs.Written.{lines_in}
use Rattle.valid_table.specs.declared.entry.Entry.{Entry}
use Rattle.valid_table.specs.declared.path_table.version.Version.{Version}
use Rattle.build_outcome.specs.declared.job.Answer.{Answer}
use Rattle.build_outcome.specs.declared.job.Job.{Job}
use Rattle.build_outcome.specs.declared.reason.Reason.{Reason}
use Rattle.run_states.specs.Legal.{IsLegal}
use Rattle.run_states.specs.Runs.{History, Run}
use Rattle.sched_core.specs.Books.{BuildsOver}
use Rattle.store_run.specs.Builders.{IsAnswered}
use Rattle.store_run.specs.Keeping.{interim_version}

-- the texts that are kept of each run that is over something are in this version
abbrev pub AreKeptIn : (is_this_run : Run → List Entry → Type 0) → Version → Type 0
AreKeptIn is_this_run version = (run : Run) (opening : List Entry) → is_this_run run opening
    → interim_version run.graph.profile opening ≡ version

-- What a keeper knows: the version of a text, entries that were shown, the text, and how many
-- entries the text had that was kept last.
pub record Keeping : Type 0 where
  pub version : Version
  pub shown : List Entry
  pub text : Bytes
  pub kept : ℕ

-- What a look gives: the entries that are shown now, the lines of those of them that are new, the
-- lines of the entries that wait, and how many entries there are.
pub record Looked : Type 0 where
  pub shown : List Entry
  pub fresh : Bytes
  pub waiting : Bytes
  pub count : ℕ

-- What a look at some entries gives to a keeper that knows others, in lines of a version. What is
-- shown goes on from these.
pub record IsNews (version : Version) (known entries : List Entry)
    (looked : Looked) : Type 0 where
  pub fresh : List Entry
  pub waiting : List Entry
  pub goes_on : looked.shown ≡ known ++ fresh
  pub all : entries ≡ looked.shown ++ waiting
  pub fresh_lines : looked.fresh ≡ lines_in version fresh
  pub waiting_lines : looked.waiting ≡ lines_in version waiting
  pub count_is : looked.count ≡ length entries

-- What a look at a book behind a lock gives, of which this is known alone: the history is legal,
-- what became of each derivation is a verdict on what a builder may give, the run is over
-- something, and what is shown was shown, in which all is valid that is built from.
pub record IsLook (may : Job → Result Answer Reason → Type 0) (was_shown : List Entry → Type 0)
    (is_this_run : Run → List Entry → Type 0) (version : Version) (known : List Entry)
    (looked : Looked)
    : Type 0 where
  pub run : Run
  pub history : History
  pub legal : IsLegal run history
  pub answered : IsAnswered may run history
  pub over : is_this_run run history.opening
  pub is_shown : was_shown looked.shown
  pub seeds : BuildsOver run history looked.shown
  pub news : IsNews version known history.entries looked

-- the nanoseconds of a keeper's pause after looking and writing that took so many: eight times as
-- many, and at least half a second; half a second where it isn't known how many
abbrev pub pause_nanos : Option ℕ → ℕ
pause_nanos None = 500000000
pause_nanos (Some took) = max 500000000 (min max_nanos (took * 8))
