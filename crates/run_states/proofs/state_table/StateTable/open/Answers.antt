use Rattle.std.proofs.Common.{◌∙◌, ap, length, subst, sym}
use Rattle.run_states.specs.WorkQueues.{AreQueues, IsFresh}
use Rattle.run_states.specs.StateTables.{all_of, awaited_at}
use Rattle.run_states.specs.UserSpans.{uses}
use Rattle.run_states.specs.Users.{AreUsers}
use Rattle.run_states.proofs.MemoTables.{followed_none, opening_table}
use Rattle.run_states.proofs.state_table.StateTable.open.Goals as goal

pub invariant_of-result : goal.invariant_of-result
invariant_of-result c =
    let plan = c.args.plan in
    let users = c.in_ok-users.users in
    let queues = c.in_ok-queues.queues in
    let is = opening_table _ _ _ _
    _ _ _
    c.in_ok-memos.ensures.ok
    (subst (λ l. AreUsers (λ d. all_of (awaited_at plan l d)) (length plan.nodes) users)
    (c.deref.ensures.value ∙ sym c.deref-4.ensures.value) c.in_ok-users.ensures.ok)
    (subst (λ l. AreQueues l queues) c.deref-5.ensures.value c.in_ok-queues.ensures.is)
    (subst (λ l. IsFresh l queues) c.deref-5.ensures.value c.in_ok-queues.ensures.fresh)
    c.in_ok-queues.ensures.none in (
      is,
      followed_none _ _ _ queues is
          (λ d low. c.in_ok-users.ensures.sizes d low
          ∙ ap (λ l. uses (λ e. all_of (awaited_at plan l e)) (length plan.nodes) d)
          (c.deref.ensures.value ∙ sym c.deref-4.ensures.value
          ∙ sym c.in_ok-memos.ensures.ok.are_twins))
          c.in_ok-memos.ensures.ok.idle c.in_ok-users.ensures.few,
    )
