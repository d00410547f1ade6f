use Rattle.std.proofs.Common.{◌∙◌, false, None, ap, arith, length}
use Rattle.run_states.specs.WorkQueues.{WorkQueues}
use Rattle.run_states.specs.declared.state.State.TheVariants.{Done}
use Rattle.run_states.specs.declared.precondition.Precondition.TheVariants.{AllValid}
use Rattle.run_states.specs.Users.{users_of_all}
use Rattle.run_states.specs.declared.node_states.NodeState.{NodeState}
use Rattle.run_states.proofs.Telling.{steady_after, turned_edges, turned_phases, turned_preconditions, turned_room, turned_settles, turned_space, turned_spreading, turned_twins, turned_wanted}
use Rattle.run_states.proofs.propagate.change_state.Goals as goal

-- what is read past the end of the memos
abbrev no_memo : NodeState
no_memo = record {
  precondition = AllValid;
  wanted = false;
  twin = None;
  state = Done;
  inputs = 0;
  waits = 0;
  first = 0;
  failed = None;
  held = false;
}

pub note-requires-clause-room : goal.note-requires-clause-room
note-requires-clause-room c =
    turned_room _ _ c.args.d no_memo c.args.state
    c.requires.within c.requires.turns c.requires.steady.1.told.listed

pub note-requires-clause-space : goal.note-requires-clause-space
note-requires-clause-space c =
    turned_space _ _ c.args.d no_memo c.args.state
    c.requires.within c.requires.turns c.requires.steady.1.told.listed

pub note-requires-clause-unsettled : goal.note-requires-clause-unsettled
note-requires-clause-unsettled c =
    turned_settles _ _ c.args.d no_memo c.args.state
    c.requires.within c.requires.turns c.requires.steady.1.told.listed

pub spread_ends-followed-requires-clause-told : goal.spread_ends-followed-requires-clause-told
spread_ends-followed-requires-clause-told c = (
  c.requires.steady.0,
  rw c.note.ensures
      (turned_spreading c.args.memos.now c.args.queues.now c.args.d no_memo c.args.state
      c.requires.within c.requires.turns c.requires.steady.0 c.args.users.now c.requires.begun
      c.requires.steady.1.told),
)

pub spread_ends-followed-requires-clause-few : goal.spread_ends-followed-requires-clause-few
spread_ends-followed-requires-clause-few c =
    omega (
      arith,
      turned_edges c.args.memos.now c.args.queues.now c.args.d no_memo c.args.state
          c.requires.within c.requires.turns c.args.users.now,
      ap (λ (a : WorkQueues). length (users_of_all c.args.users.now a.work)) c.note.ensures,
      c.requires.few,
      ap (λ l. length (users_of_all c.args.users.now l)) c.requires.steady.1.none,
    )

pub drop_begun-requires : goal.drop_begun-requires
drop_begun-requires c =
    (c.spread_ends-followed.ensures.told c.requires.steady.0
    (rw c.note.ensures
    (turned_spreading c.args.memos.now c.args.queues.now c.args.d no_memo c.args.state
    c.requires.within c.requires.turns c.requires.steady.0 c.args.users.now c.requires.begun
    c.requires.steady.1.told))).listed

pub returns-clause-steady : goal.returns-clause-steady
returns-clause-steady c awaited steady =
    steady_after awaited c.args.users.now c.spread_ends-followed.new.memos
    c.spread_ends-followed.new.queues
    c.drop_begun.new.self
    (c.spread_ends-followed.ensures.told awaited
    (rw c.note.ensures
    (turned_spreading c.args.memos.now c.args.queues.now c.args.d no_memo c.args.state
    c.requires.within c.requires.turns awaited c.args.users.now c.requires.begun steady.told)))
    c.spread_ends-followed.ensures.none c.drop_begun.ensures.is c.drop_begun.ensures.fresh
    c.drop_begun.ensures.work

pub returns-clause-preconditions : goal.returns-clause-preconditions
returns-clause-preconditions c = c.spread_ends-followed.ensures.same.preconditions
    ∙ turned_preconditions c.args.memos.now c.args.queues.now c.args.d no_memo c.args.state
    c.requires.within c.requires.turns

pub returns-clause-wanted : goal.returns-clause-wanted
returns-clause-wanted c = c.spread_ends-followed.ensures.same.wanted
    ∙ turned_wanted c.args.memos.now c.args.queues.now c.args.d no_memo c.args.state
    c.requires.within c.requires.turns

pub returns-clause-twins : goal.returns-clause-twins
returns-clause-twins c = c.spread_ends-followed.ensures.same.twins
    ∙ turned_twins c.args.memos.now c.args.queues.now c.args.d no_memo c.args.state
    c.requires.within c.requires.turns

pub returns-clause-phases : goal.returns-clause-phases
returns-clause-phases c = c.spread_ends-followed.ensures.same.phases
    ∙ turned_phases c.args.memos.now c.args.queues.now c.args.d no_memo c.args.state
    c.requires.within c.requires.turns

pub returns-clause-followed : goal.returns-clause-followed
returns-clause-followed c =
    omega (
      arith,
      turned_edges c.args.memos.now c.args.queues.now c.args.d no_memo c.args.state
          c.requires.within c.requires.turns c.args.users.now,
      ap (λ (a : WorkQueues). length (users_of_all c.args.users.now a.work)) c.note.ensures,
      c.spread_ends-followed.ensures.edges,
      ap (λ l. length (users_of_all c.args.users.now l)) c.requires.steady.1.none,
    )
