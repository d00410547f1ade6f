-- What comes of a job whose outcome is examined.
use Rattle.std.proofs.Common.{◌≡◌, ◌⊎◌, ◌∙◌, List, Result, Ok, Err, ℕ, ap, inl, inr, subst, sym, ⊎_elim}
use Rattle.std.specs.Prelude.{IfErr}
use Rattle.valid_table.specs.PathInfos.{PathInfo}
use Rattle.build_outcome.specs.Heard.{IsExaminedOutcome, IsRunExamined}
use Rattle.build_outcome.specs.declared.job.Answer.{Answer}
use Rattle.build_outcome.specs.declared.job.Job.{Job}
use Rattle.build_outcome.specs.declared.preparation.Prepared.{Prepared}
use Rattle.build_outcome.specs.declared.reason.Reason.{Reason}
use Rattle.build_outcome.specs.declared.reason.Reason.TheVariants.{OutOfMemory}

-- the reason why there is no answer
abbrev reason_of : Result Answer Reason → Reason
reason_of (Ok answer) = OutOfMemory
reason_of (Err why) = why

module _ (job : Job) (permitted : List (List ℕ)) where
  -- where a builder may give the outcome
  pub may_be_examined : (may : Job → Result Answer Reason → Type 0)
      (outcome : Result Answer Reason) (examined : Result (Result (List PathInfo) Reason) Reason)
      → (outcome ≡ Err OutOfMemory) ⊎ may job outcome
      → IsExaminedOutcome job permitted outcome examined
      → IsRunExamined may job permitted examined
  may_be_examined may (Ok answer) (Ok verdict) given is =
      (answer, ⊎_elim (λ no. absurd cc) (λ gives. gives) given, is)
  may_be_examined may (Ok answer) (Err told) given is = absurd is
  may_be_examined may (Err why) (Ok verdict) given is = absurd is
  may_be_examined may (Err why) (Err told) given is = ⊎_elim
      (λ refused. inl (is ∙ ap reason_of refused))
      (λ gives. inr (subst (λ reason. may job (Err reason)) (sym is) gives)) given

  unprepared_is_told : (why : Reason) (outcome : Result Answer Reason)
      (examined : Result (Result (List PathInfo) Reason) Reason)
      → (outcome ≡ Err OutOfMemory) ⊎ (outcome ≡ Err why)
      → IsExaminedOutcome job permitted outcome examined
      → (examined ≡ Err OutOfMemory) ⊎ (examined ≡ Err why)
  unprepared_is_told why (Ok answer) (Ok verdict) given is =
      ⊎_elim (λ no. absurd cc) (λ no. absurd cc) given
  unprepared_is_told why (Ok answer) (Err told) given is = absurd is
  unprepared_is_told why (Err reason) (Ok verdict) given is = absurd is
  unprepared_is_told why (Err reason) (Err told) given is = ⊎_elim
      (λ refused. inl (ap Err (is ∙ ap reason_of refused)))
      (λ same. inr (ap Err (is ∙ ap reason_of same))) given

  -- where nothing could be prepared
  pub unprepared_is_examined : (prepared : Result Prepared Reason)
      (outcome : Result Answer Reason) (examined : Result (Result (List PathInfo) Reason) Reason)
      → IfErr prepared (λ why. (outcome ≡ Err OutOfMemory) ⊎ (outcome ≡ Err why))
      → IsExaminedOutcome job permitted outcome examined
      → IfErr prepared (λ why. (examined ≡ Err OutOfMemory) ⊎ (examined ≡ Err why))
  unprepared_is_examined (Ok prepared) outcome examined given is = tt
  unprepared_is_examined (Err why) outcome examined given is =
      unprepared_is_told why outcome examined given is
