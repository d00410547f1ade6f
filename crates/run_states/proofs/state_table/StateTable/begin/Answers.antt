use Rattle.std.proofs.Common.{subst, sym}
use Rattle.run_states.specs.NodeStates.{Turns, turns_begun}
use Rattle.run_states.specs.declared.state.State.TheVariants.{Building}
use Rattle.run_states.proofs.state_table.StateTable.begin.Goals as goal

pub note-requires-clause-turns : goal.note-requires-clause-turns
note-requires-clause-turns c = subst (λ s. Turns s (Building c.args.lease)) (sym c.requires.2)
    (turns_begun c.args.lease)
