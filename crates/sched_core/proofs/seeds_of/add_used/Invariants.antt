use Rattle.sched_core.proofs.SeedParts.{AddsFirst}
use Rattle.sched_core.proofs.seeds_of.add_used.Given as goal

abbrev pub invariant-loop-n : goal.invariant-loop-n
invariant-loop-n l = AddsFirst l.drv.inputs l.index l.used l.fn.seeds.items l.seeds.items l.n
