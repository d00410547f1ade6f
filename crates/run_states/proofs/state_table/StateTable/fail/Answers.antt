use Rattle.std.proofs.Common.{subst, sym}
use Rattle.run_states.specs.NodeStates.{Turns, turns_failed}
use Rattle.run_states.specs.declared.state.State.TheVariants.{Failed}
use Rattle.run_states.proofs.MemoTables.{is_building}
use Rattle.run_states.proofs.state_table.StateTable.fail.Goals as goal

pub note-requires-clause-turns : goal.note-requires-clause-turns
note-requires-clause-turns c = subst (λ s. Turns s (Failed c.args.reason))
    (sym (is_building c.args.self.now _ _ c.requires.1.1))
    (turns_failed c.requires.1.0 c.args.reason)
