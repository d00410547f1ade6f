-- The numbers before the start at hand were met, and the walk is over.
use Rattle.std.proofs.Common.{◌<◌, ℕ, []}
use Rattle.build_outcome.specs.private.Walking.{IsMet, IsWalk}
use Rattle.build_outcome.proofs.walk.has_round.Given as goal

abbrev pub invariant-loop-start : goal.invariant-loop-start
invariant-loop-start l = record {
  walk : IsWalk l.links l.nodes.items [];
  met : (n : ℕ) → n < l.start → IsMet l.nodes.items n;
}
