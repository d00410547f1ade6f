-- What a verdict's records refer to is permitted.
use Rattle.std.proofs.Common.{List, ℕ, Result, Ok, Err, inl, inr}
use Rattle.std.specs.Prelude.{IfOk}
use Rattle.valid_table.specs.PathInfos.{PathInfo}
use Rattle.valid_table.specs.declared.entry.Entry.{Entry}
use Rattle.sched_core.specs.Books.{ArePermittedPaths, MayAllRefer}
use Rattle.sched_core.specs.VerdictLaws.{VerdictsMayRefer}
use Rattle.build_outcome.specs.Verdicts.{IsExamining}
use Rattle.build_outcome.specs.declared.job.Answer.{Answer}
use Rattle.build_outcome.specs.declared.job.Job.{Job}
use Rattle.build_outcome.specs.declared.reason.Reason.{Reason}
use Rattle.nix_names.proofs.Lists.{get_from_contains}

pub examined_may_refer : (entries : List Entry) (job : Job) (permitted : List (List ℕ))
    (answer : Answer) (found : Result (List PathInfo) Reason)
    → ArePermittedPaths entries job permitted → IsExamining job permitted answer found
    → IfOk found (MayAllRefer entries job)
examined_may_refer entries job permitted answer (Err reason) are examined = tt
examined_may_refer entries job permitted answer (Ok infos) are (inl (refused, taken)) = absurd cc
examined_may_refer entries job permitted answer (Ok infos) are (inr (taken, records, acyclic)) =
    λ info path has refers.
    let index = get_from_contains _ _ has in
    let is_record = records.each index.0 info index.1 in
    (are.each path).0 ((is_record.2.found.each path).0 refers).0

pub verdicts_may_refer : VerdictsMayRefer
verdicts_may_refer entries job permitted answer infos are is =
    examined_may_refer entries job _ answer (Ok infos) are (inr is)
