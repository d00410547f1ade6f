use Rattle.std.proofs.Common.{subst, sym}
use Rattle.run_states.specs.NodeStates.{Turns, turns_done}
use Rattle.run_states.specs.declared.state.State.TheVariants.{Done}
use Rattle.run_states.proofs.MemoTables.{is_building}
use Rattle.run_states.proofs.state_table.StateTable.finish.Goals as goal

pub note-requires-clause-turns : goal.note-requires-clause-turns
note-requires-clause-turns c = subst (λ s. Turns s Done)
    (sym (is_building c.args.self.now _ _ c.requires.1.1))
    (turns_done c.requires.1.0)
