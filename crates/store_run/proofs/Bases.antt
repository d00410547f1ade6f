-- A run stays over what it is over.
use Rattle.std.proofs.Common.{ℕ, List}
use Rattle.valid_table.specs.PathInfos.{PathInfo}
use Rattle.valid_table.specs.declared.entry.Entry.{Entry}
use Rattle.sched_core.specs.Books.{IsBeginning, IsFailing, IsFinishing, Ledger}
use Rattle.run_states.specs.Runs.{Run}
use Rattle.build_outcome.specs.declared.job.Job.{Job}
use Rattle.build_outcome.specs.declared.reason.Reason.{Reason}

pub over_beginning : (is_this_run : Run → List Entry → Type 0) (before after : Ledger) (job : Job)
    (number : ℕ) → is_this_run before.run before.history.opening
    → IsBeginning before after job number → is_this_run after.run after.history.opening
over_beginning is_this_run before after job number over begins = rw (begins.run, begins.history) over

pub over_finishing : (is_this_run : Run → List Entry → Type 0) (before after : Ledger) (job : Job)
    (number : ℕ) (infos : List PathInfo) → is_this_run before.run before.history.opening
    → IsFinishing before after job number infos → is_this_run after.run after.history.opening
over_finishing is_this_run before after job number infos over finishes =
    rw (finishes.run, finishes.history) over

pub over_failing : (is_this_run : Run → List Entry → Type 0) (before after : Ledger) (job : Job)
    (number : ℕ) (reason : Reason) → is_this_run before.run before.history.opening
    → IsFailing before after job number reason → is_this_run after.run after.history.opening
over_failing is_this_run before after job number reason over fails = rw (fails.run, fails.history) over
