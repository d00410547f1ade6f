use Rattle.std.proofs.Common.{◌≡◌, length, vec_capacity}
use Rattle.run_states.proofs.LookUps.{AreFirst}
use Rattle.run_states.proofs.preconditions.preconditions_of.Given as goal

abbrev pub invariant-loop-d : goal.invariant-loop-d
invariant-loop-d l = record {
  first : AreFirst (record { profile = l.plan.profile; system = l.system }) l.journal.entries
      l.plan.nodes l.preconditions.items l.d;
  room : vec_capacity l.preconditions ≡ length l.plan.nodes;
}
