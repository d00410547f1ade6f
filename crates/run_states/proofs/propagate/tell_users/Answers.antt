use Rattle.std.proofs.Common.{◌≡◌, ◌∙◌, ◌<◌, ℕ, List, None, ap, sym, subst, false, get_or}
use Rattle.std.proofs.lemmas.List.{length-set}
use Rattle.run_states.specs.WorkQueues.{noted}
use Rattle.run_states.specs.States.{is_good}
use Rattle.run_states.specs.declared.state.State.TheVariants.{Done}
use Rattle.run_states.specs.declared.precondition.Precondition.TheVariants.{AllValid}
use Rattle.run_states.specs.declared.node_states.NodeState.{NodeState}
use Rattle.run_states.specs.declared.users.Edge.{Edge}
use Rattle.run_states.proofs.Telling.{can_tell, same_then, told_edges, told_good, told_measure, told_room, told_same, told_settles, told_space, told_user}
use Rattle.run_states.proofs.propagate.tell_users.Goals as goal

-- what is read past the end of a list
abbrev no_edge : Edge
no_edge = record { user = 0; index = 0 }

abbrev no_memo : NodeState
no_memo = record {
  precondition = AllValid;
  wanted = false;
  twin = None;
  state = Done;
  inputs = 0;
  waits = 0;
  first = 0;
  failed = None;
  held = false;
}

abbrev edge_at : List Edge → ℕ → Edge
edge_at edges i = get_or edges i no_edge

abbrev memo_at : List NodeState → ℕ → NodeState
memo_at memos d = get_or memos d no_memo

pub input_ended-after-requires : goal.input_ended-after-requires
input_ended-after-requires c =
    can_tell _ _ c.loop-edge.memos _ c.args.ended c.loop-edge.edge-index no_edge no_memo
    c.of-edges.result.now
    (rw c.loop-edge.invariant.count c.requires.within)
    c.of-edges.ensures c.loop-edge-test.true
    (c.loop-edge.invariant.told c.requires.told.0 c.requires.told.1)

pub note-requires-clause-room : goal.note-requires-clause-room
note-requires-clause-room c =
    told_room _ _ c.loop-edge.memos _ c.args.ended c.loop-edge.edge-index no_edge no_memo
    c.of-edges.result.now
    (rw c.loop-edge.invariant.count c.requires.within)
    c.of-edges.ensures c.loop-edge-test.true
    (c.loop-edge.invariant.told c.requires.told.0 c.requires.told.1) c.input_ended-after.result
    c.input_ended-after.ensures.turns c.input_ended-after.ensures.same

pub note-requires-clause-space : goal.note-requires-clause-space
note-requires-clause-space c =
    told_space _ _ c.loop-edge.memos _ c.args.ended c.loop-edge.edge-index no_edge no_memo
    c.of-edges.result.now
    (rw c.loop-edge.invariant.count c.requires.within)
    c.of-edges.ensures c.loop-edge-test.true
    (c.loop-edge.invariant.told c.requires.told.0 c.requires.told.1) c.input_ended-after.result
    c.input_ended-after.ensures.turns c.input_ended-after.ensures.same

pub note-requires-clause-unsettled : goal.note-requires-clause-unsettled
note-requires-clause-unsettled c =
    told_settles _ _ c.loop-edge.memos _ c.args.ended c.loop-edge.edge-index no_edge no_memo
    c.of-edges.result.now
    (rw c.loop-edge.invariant.count c.requires.within)
    c.of-edges.ensures c.loop-edge-test.true
    (c.loop-edge.invariant.told c.requires.told.0 c.requires.told.1) c.input_ended-after.result
    c.input_ended-after.ensures.turns c.input_ended-after.ensures.same

pub loop-edge-preserved : goal.loop-edge-preserved
loop-edge-preserved c =
    let edge : Edge = get_or c.of-edges.result.now c.loop-edge.edge-index no_edge in
    let before : NodeState = get_or c.loop-edge.memos edge.user no_memo in
    let after : NodeState = c.input_ended-after.result in
    let low = subst (λ n. c.args.ended < n) (sym c.loop-edge.invariant.count) c.requires.within in
    let now : c.note.new.self ≡ noted c.loop-edge.queues edge.user before after =
    c.note.ensures in
    let is = c.loop-edge.invariant.told c.requires.told.0 c.requires.told.1 in
    record {
      items = c.of-edges.ensures;
      count = length-set c.loop-edge.memos edge.user after ∙ c.loop-edge.invariant.count;
      good = c.loop-edge.invariant.good
          ∙ ap is_good (sym (told_good _ _ c.loop-edge.memos _ c.args.ended c.loop-edge.edge-index
          no_edge no_memo c.of-edges.result.now low c.of-edges.ensures c.loop-edge-test.true
          is after c.input_ended-after.ensures.turns c.input_ended-after.ensures.same));
      told = λ awaited start. rw now
          (told_user _ _ c.loop-edge.memos _ c.args.ended c.loop-edge.edge-index no_edge
          no_memo c.of-edges.result.now low c.of-edges.ensures c.loop-edge-test.true
          (c.loop-edge.invariant.told awaited start) after c.input_ended-after.ensures.turns
          c.input_ended-after.ensures.same c.serves-good.result c.loop-edge.invariant.good
          c.input_ended-after.ensures.is);
      same = same_then c.args.memos.now c.loop-edge.memos _ c.loop-edge.invariant.same
          (told_same _ _ c.loop-edge.memos _ c.args.ended c.loop-edge.edge-index no_edge
          no_memo c.of-edges.result.now low c.of-edges.ensures c.loop-edge-test.true is after
          c.input_ended-after.ensures.turns c.input_ended-after.ensures.same);
      measure = rw now
          (told_measure _ _ c.loop-edge.memos _ c.args.ended c.loop-edge.edge-index no_edge
          no_memo c.of-edges.result.now low c.of-edges.ensures c.loop-edge-test.true is after
          c.input_ended-after.ensures.turns c.input_ended-after.ensures.same
          ∙ c.loop-edge.invariant.measure);
      ahead = rw now
          (told_edges _ _ c.loop-edge.memos _ c.args.ended c.loop-edge.edge-index no_edge
          no_memo c.of-edges.result.now low c.of-edges.ensures c.loop-edge-test.true is after
          c.input_ended-after.ensures.turns c.input_ended-after.ensures.same
          ∙ c.loop-edge.invariant.ahead);
    }
