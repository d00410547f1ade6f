use Rattle.sched_core.proofs.SeedParts.{AreFirstSeeds}
use Rattle.sched_core.proofs.seeds_of.seeds_of.Given as goal

abbrev pub invariant-loop-index : goal.invariant-loop-index
invariant-loop-index l = AreFirstSeeds l.plan.nodes l.d l.seeds.items l.index
