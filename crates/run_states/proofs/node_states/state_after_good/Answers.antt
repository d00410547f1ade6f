use Rattle.std.proofs.Common.{refl, sym, subst}
use Rattle.run_states.specs.NodeStates.{Turns, turns_freed, turns_stays}
use Rattle.run_states.specs.declared.state.State.TheVariants.{Ready, Blocked}
use Rattle.run_states.proofs.OneStates.{not_freed}
use Rattle.run_states.proofs.node_states.state_after_good.Goals as goal

pub returns-then-not-held-clause-turns : goal.returns-then-not-held-clause-turns
returns-then-not-held-clause-turns c =
    subst (λ s. Turns s Ready) (sym c.in-Blocked.is) turns_freed

pub returns-else-all-clause-turns : goal.returns-else-all-clause-turns
returns-else-all-clause-turns c =
    subst (λ s. Turns s Blocked) (sym c.in-Blocked.is) (turns_stays Blocked)

pub returns-in_default : goal.returns-in_default
returns-in_default c = record {
  is = λ precondition twins first says is.
      not_freed _ _ _ _ _ c.in_default.not-Blocked is;
  phase = refl;
  turns = turns_stays c.args.state;
}
