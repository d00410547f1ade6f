use Rattle.std.proofs.Common.{◌≡◌, length, vec_capacity}
use Rattle.run_report.specs.private.Holding.{AreClosed}
use Rattle.run_report.proofs.Passing.{AreBuilt, AreFirst}
use Rattle.run_report.proofs.forecast.foretold.foretold.Given as goal

abbrev pub invariant-loop-d : goal.invariant-loop-d
invariant-loop-d l = record {
  count : length l.states.items ≡ l.d;
  room : vec_capacity l.states ≡ length l.plan.nodes;
  closed : AreClosed l.states.items;
  built : AreBuilt l.plan.nodes l.wanted l.states.items l.built.items;
  first : AreFirst l.plan l.preconditions l.wanted l.states.items;
}
