use Rattle.std.proofs.Common.{◌==◌, refl, subst, sym}
use Rattle.run_states.specs.NodeStates.{Turns, turns_reused, turns_stays}
use Rattle.run_states.specs.declared.state.State.TheVariants.{Blocked, Reused}
use Rattle.run_states.proofs.OneStates.{own_turns}
use Rattle.run_states.proofs.ToldStates.{released_bad, released_else, released_good}
use Rattle.run_states.proofs.node_states.hear_twin_end.Goals as goal

pub returns-then-good-clause-is : goal.returns-then-good-clause-is
returns-then-good-clause-is c = λ awaited heard twin can.
    released_good c.args.memo awaited heard twin can c.args.good c.if-good.true c.in-Blocked.is

pub returns-then-good-clause-turns : goal.returns-then-good-clause-turns
returns-then-good-clause-turns c =
    subst (λ s. Turns s Reused) (sym c.in-Blocked.is) turns_reused

pub returns-else-good-clause-is : goal.returns-else-good-clause-is
returns-else-good-clause-is c = λ awaited heard twin can.
    released_bad c.args.memo awaited heard twin can c.args.good c.own_state.result c.if-good.false
    c.in-Blocked.is c.own_state.ensures

pub returns-else-good-clause-turns : goal.returns-else-good-clause-turns
returns-else-good-clause-turns c =
    subst (λ s. Turns s c.own_state.result) (sym c.in-Blocked.is)
    (subst (Turns Blocked) (sym c.own_state.ensures)
    (own_turns c.args.memo.precondition c.args.memo.failed (c.args.memo.waits == 0)))

pub returns-in_default : goal.returns-in_default
returns-in_default c = record {
  is = λ awaited heard twin can.
      released_else c.args.memo awaited heard twin can c.args.good c.in_default.not-Blocked;
  same = record { precondition = refl; wanted = refl; twin = refl; phase = refl };
  turns = turns_stays c.args.memo.state;
}
