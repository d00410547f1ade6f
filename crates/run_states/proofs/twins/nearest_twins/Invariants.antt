use Rattle.std.proofs.Common.{◌≡◌, length, vec_capacity}
use Rattle.run_states.proofs.LastTwins.{AreLast, AreNear}
use Rattle.run_states.proofs.twins.nearest_twins.Given as goal

abbrev pub invariant-loop-d : goal.invariant-loop-d
invariant-loop-d l = record {
  last : AreLast l.plan.nodes l.wanted l.last.items l.d;
  near : AreNear l.plan.nodes l.wanted l.twins.items l.d;
  room : vec_capacity l.twins ≡ length l.plan.nodes;
}
