use Rattle.std.proofs.Common.{◌≡◌, ◌∙◌, ◌++◌, ap, drop, length, refl, subst, sym, take, rules}
use Rattle.std.proofs.Math.Seq.{take-append_seam}
use Rattle.run_states.specs.WorkQueues.{IsSteady, preconditions_in, twins_in, wanted_in}
use Rattle.run_states.specs.FollowedEdges.{open_edges, sizes}
use Rattle.run_states.specs.StateTables.{awaited_at}
use Rattle.run_states.proofs.MemoTables.{noted_table, same_length, state_kept, followed_more}
use Rattle.run_states.proofs.state_table.StateTable.note.Goals as goal

pub change_state-followed-requires-clause-turns : goal.change_state-followed-requires-clause-turns
change_state-followed-requires-clause-turns c = search (rules, state_kept)

pub invariant_of-self : goal.invariant_of-self
invariant_of-self c =
    let plan = c.self.inside.plan in
    let items = c.self.inside.memos.items in
    let users = c.self.inside.users in
    let now = c.change_state-followed.new.memos in
    let value = c.deref_mut.ensures.value in
    let awaited = awaited_at plan (twins_in items) in
    let stand : preconditions_in now ≡ preconditions_in items =
    c.change_state-followed.ensures.preconditions ∙ ap preconditions_in value in
    let want : wanted_in now ≡ wanted_in items =
    c.change_state-followed.ensures.wanted ∙ ap wanted_in value in
    let twin : twins_in now ≡ twins_in items = c.change_state-followed.ensures.twins
    ∙ ap twins_in value in
    let steady = c.change_state-followed.ensures.steady awaited
    (subst (λ l. IsSteady awaited users l c.self.inside.queues) (sym value)
    c.self.invariant.0.steady) in
    let is = noted_table _ _ _ _ _ _
    c.self.invariant.0 stand twin steady in
    let followed = followed_more _ _ _ _ _ _
    _ c.self.invariant.1 stand want twin
    (c.change_state-followed.ensures.followed ∙ ap (open_edges (sizes users)) value) refl in
    let size : c.self.inside.memos.len ≡ length now =
    sym (c.deref_mut.ensures.len) ∙ ap length value ∙ same_length _ _ stand in
    let whole = ap (λ n. take n (now ++ drop (length now) items)) size
    ∙ take-append_seam now (drop (length now) items) in
    rw whole (is, followed)
