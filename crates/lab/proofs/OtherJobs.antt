-- Records that were found under one job refer to what is permitted to another one.
use Rattle.std.proofs.Common.{List, [], ℕ, Result, Ok, Err, inl, inr}
use Rattle.std.specs.Prelude.{IfOk}
use Rattle.valid_table.specs.PathInfos.{PathInfo}
use Rattle.valid_table.specs.declared.entry.Entry.{Entry}
use Rattle.sched_core.specs.Books.{ArePermittedPaths, MayAllRefer}
use Rattle.build_outcome.specs.Verdicts.{IsExamining}
use Rattle.build_outcome.specs.declared.job.Answer.{Answer}
use Rattle.build_outcome.specs.declared.job.Job.{Job}
use Rattle.build_outcome.specs.declared.reason.Reason.{Reason}
use Rattle.nix_names.proofs.Lists.{Contains-nothing, get_from_contains}

pub may_refer_by_permitted : (entries : List Entry) (job other : Job) (permitted : List (List ℕ))
    (answer : Answer) (found : Result (List PathInfo) Reason)
    → ArePermittedPaths entries job permitted → IsExamining other permitted answer found
    → IfOk found (MayAllRefer entries job)
may_refer_by_permitted entries job other permitted answer (Err reason) are examined = tt
may_refer_by_permitted entries job other permitted answer (Ok infos) are
    (inl (refused, taken)) = absurd cc
may_refer_by_permitted entries job other permitted answer (Ok infos) are
    (inr (taken, records, acyclic)) =
    λ info path has refers.
    let index = get_from_contains infos info has in
    let is_record = records.each index.0 info index.1 in
    (are.each path).0 ((is_record.2.found.each path).0 refers).0

-- Records that were found where nothing was permitted refer to nothing.
pub may_refer_by_none : (entries : List Entry) (job other : Job) (answer : Answer)
    (found : Result (List PathInfo) Reason)
    → IsExamining other [] answer found → IfOk found (MayAllRefer entries job)
may_refer_by_none entries job other answer (Err reason) examined = tt
may_refer_by_none entries job other answer (Ok infos) (inl (refused, taken)) = absurd cc
may_refer_by_none entries job other answer (Ok infos) (inr (taken, records, acyclic)) =
    λ info path has refers.
    let index = get_from_contains infos info has in
    let is_record = records.each index.0 info index.1 in
    absurd (Contains-nothing path ((is_record.2.found.each path).0 refers).0)

-- What holds of records holds of them under a condition.
pub under : (lease : Type 0) (entries : List Entry) (job : Job)
    (found : Result (List PathInfo) Reason) → IfOk found (MayAllRefer entries job)
    → IfOk found (λ infos. lease → MayAllRefer entries job infos)
under lease entries job (Err reason) may = tt
under lease entries job (Ok infos) may = λ is. may
