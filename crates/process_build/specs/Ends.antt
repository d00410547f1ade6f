-- What may come of a job that a process builds (this product's own).
use Rattle.std.specs.Prelude.{◌≡◌, ◌≢◌, ◌⊎◌, ⊤, [], Some, Result, Ok, Err, length, pos}
use Rattle.build_outcome.specs.declared.job.Answer.{Answer}
use Rattle.build_outcome.specs.declared.job.Job.{Job}
use Rattle.build_outcome.specs.declared.reason.Reason.{Reason}
use Rattle.build_outcome.specs.declared.reason.Reason.TheVariants.{NoStart, ReadFault, TooLarge}

-- An answer to a job: where the exit status is 0, what lies at each output's path, or that nothing
-- does; else no entry at all.
pub record IsAnswerOf (job : Job) (answer : Answer) : Type 0 where
  pub of_good : answer.status ≡ Some (pos 0)
      → length answer.outputs.items ≡ length job.outputs.items
  pub of_bad : answer.status ≢ Some (pos 0) → answer.outputs.items ≡ []

-- the outcomes of a job that a process builds: an answer, or one of three reasons
abbrev pub MayEnd : Job → Result Answer Reason → Type 0
MayEnd job (Ok answer) = IsAnswerOf job answer
MayEnd job (Err reason) = (reason ≡ NoStart) ⊎ (reason ≡ ReadFault) ⊎ (reason ≡ TooLarge)

-- the outcomes of a job, whether anything could be prepared for its builder or not: an answer, or
-- a reason, which may be any that was found before
abbrev pub MayAnswer : Job → Result Answer Reason → Type 0
MayAnswer job (Ok answer) = IsAnswerOf job answer
MayAnswer job (Err reason) = ⊤
