use Rattle.std.proofs.Common.{subst, sym}
use Rattle.std.specs.Prelude.{slice_get, slice_set}
use Rattle.run_states.specs.NodeStates.{CanHear, IsMemo, news_by, of_twins, turns_stays}
use Rattle.run_states.proofs.ToldStates.{is_input, told_bad, told_before, told_good, told_held, told_later, told_waits}
use Rattle.run_states.proofs.node_states.input_ended.Goals as goal

pub overflow_sub-waits : goal.overflow_sub-waits
overflow_sub-waits c =
    told_waits _ _ _ _ _ c.requires.2 (is_input _ _ _ _ _ c.requires.2 c.if-index-memo.false)

pub returns-then-index-memo-clause-is : goal.returns-then-index-memo-clause-is
returns-then-index-memo-clause-is c = λ awaited heard can.
    subst (λ n. IsMemo awaited (slice_set heard n (news_by c.args.good)) c.hear_twin_end.result)
    (sym c.if-index-memo.true)
    (c.hear_twin_end.ensures.is awaited heard c.args.ended
    (subst (λ n. CanHear awaited heard c.args.memo n c.args.ended) c.if-index-memo.true can))

pub returns-then-good-clause-is : goal.returns-then-good-clause-is
returns-then-good-clause-is c = λ awaited heard can.
    let low = is_input _ _ _ _ _ can c.if-index-memo.false in
    told_good _ _ _ _ _ can low c.args.good c.if-good.true
    c.state_after_good-state.result
    (c.state_after_good-state.ensures.is c.args.memo.precondition (of_twins awaited heard)
    (slice_get awaited.inputs c.args.memo.first)
    (told_held _ _ _ _ _ can low)
    (told_before _ _ _ _ _ can low))

pub returns-then-index-memo-2-clause-is : goal.returns-then-index-memo-2-clause-is
returns-then-index-memo-2-clause-is c = λ awaited heard can.
    let low = is_input _ _ _ _ _ can c.if-index-memo.false in
    told_bad _ _ _ _ _ can low c.args.good c.if-good.false
    c.if-index-memo-2.true c.state_after_bad-state.result
    (c.state_after_bad-state.ensures.is (of_twins awaited heard)
    (slice_get awaited.inputs c.args.memo.first)
    (told_held _ _ _ _ _ can low)
    (told_before _ _ _ _ _ can low))

pub returns-else-index-memo-2-clause-is : goal.returns-else-index-memo-2-clause-is
returns-else-index-memo-2-clause-is c = λ awaited heard can.
    told_later _ _ _ _ _ can
    (is_input _ _ _ _ _ can c.if-index-memo.false)
    c.args.good c.if-good.false c.if-index-memo-2.false

pub returns-else-index-memo-2-clause-turns : goal.returns-else-index-memo-2-clause-turns
returns-else-index-memo-2-clause-turns c = turns_stays c.args.memo.state
