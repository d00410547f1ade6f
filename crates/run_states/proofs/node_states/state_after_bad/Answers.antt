use Rattle.std.proofs.Common.{refl, sym, subst, ⊎_elim}
use Rattle.run_states.specs.NodeStates.{Turns, turns_named, turns_refused, turns_stays}
use Rattle.run_states.specs.declared.state.Refusal.TheVariants.{InputNotRealised}
use Rattle.run_states.specs.declared.state.State.TheVariants.{Refused}
use Rattle.run_states.proofs.OneStates.{hindered_stays, not_refused}
use Rattle.run_states.proofs.node_states.state_after_bad.Goals as goal

pub returns-then-held-clause-turns : goal.returns-then-held-clause-turns
returns-then-held-clause-turns c = turns_stays c.args.state

pub returns-in-Blocked-clause-turns : goal.returns-in-Blocked-clause-turns
returns-in-Blocked-clause-turns c = ⊎_elim
    (λ blocked. subst (λ s. Turns s (Refused (InputNotRealised c.args.input))) (sym blocked)
    (turns_refused (InputNotRealised c.args.input)))
    (λ named. subst (λ s. Turns s (Refused (InputNotRealised c.args.input))) (sym named.1)
    (turns_named named.0 (InputNotRealised c.args.input)))
    c.in-Blocked.is

pub returns-in_default-state : goal.returns-in_default-state
returns-in_default-state c = record {
  is = λ twins first says is.
      not_refused _ _ _ _ _ c.in-Free.is
      c.in_default-state.not-Blocked c.in_default-state.not-Refused is;
  phase = refl;
  turns = turns_stays c.args.state;
}

pub returns-in_default : goal.returns-in_default
returns-in_default c = record {
  is = λ twins first says is.
      hindered_stays _ _ _ _
      _ c.in_default.not-Free is;
  phase = refl;
  turns = turns_stays c.args.state;
}
