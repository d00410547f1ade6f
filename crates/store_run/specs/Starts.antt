-- What is prepared for the start of a job's builder, by a list of entries (this product's own).
use Rattle.std.specs.Prelude.{◌≡◌, ◌⊎◌, [], List, Result, Ok, Err}
use mathlib.Core.List.{IsPrefix}
use Rattle.valid_table.specs.Entries.{registered}
use Rattle.valid_table.specs.declared.entry.Entry.{Entry}
use Rattle.valid_table.specs.declared.entry.Registration.{Registration}
use Rattle.valid_view.specs.Answers.{AreRecords}
use Rattle.valid_view.specs.Shown.{IsShowable}
use Rattle.build_outcome.specs.declared.job.Job.{Job}
use Rattle.build_outcome.specs.declared.preparation.Prepared.{Prepared}
use Rattle.build_outcome.specs.declared.preparation.Prepared.TheVariants.{Entries}
use Rattle.build_outcome.specs.declared.reason.Reason.{Reason}
use Rattle.build_outcome.specs.declared.reason.Reason.TheVariants.{OutOfMemory}
use Rattle.builder_start.specs.Asked.{AsksForRecords}
use Rattle.builder_start.specs.Preparing.{IsPrepared, IsUnprepared}
use Rattle.sched_core.specs.Books.{AreSeedsValid}

-- what is prepared for a job by some records; or why nothing is: memory was refused, or nothing can
-- be prepared
abbrev pub IsPreparing : List Registration → Job → Result Prepared Reason → Type 0
IsPreparing rows job (Ok prepared) = IsPrepared rows job prepared
IsPreparing rows job (Err reason) = (reason ≡ OutOfMemory) ⊎ IsUnprepared rows job reason

-- What is prepared for a job by the records of the closure of its seeds in a list.
pub record IsPreparedBy (seen : List Entry) (job : Job) (start : Result Prepared Reason)
    : Type 0 where
  pub rows : List Registration
  pub are_rows : AreRecords (registered seen) job.seeds.items rows
  pub is : IsPreparing rows job start

-- no files are prepared
abbrev pub HasNoFiles : Result Prepared Reason → Type 0
HasNoFiles (Ok (Entries files)) = files.items ≡ []
HasNoFiles other = ⊥

-- What is prepared for a job by a list: no files where the job asks for no records, and else what
-- is prepared by the records.
abbrev pub IsStart : (seen : List Entry) → Job → Result Prepared Reason → Type 0
IsStart seen job start = ((AsksForRecords job → ⊥) × HasNoFiles start)
    ⊎ (AsksForRecords job × IsPreparedBy seen job start)

-- What is prepared for a job by a list is prepared for it by each other list, where both may be
-- shown and begin with a list in which the job's seeds are valid.
abbrev pub SetupIsShared : Type 0
SetupIsShared = (common a b : List Entry) (job : Job) (start : Result Prepared Reason)
    → IsShowable a → IsShowable b → IsPrefix common a → IsPrefix common b
    → AreSeedsValid common job → IsStart a job start → IsStart b job start
