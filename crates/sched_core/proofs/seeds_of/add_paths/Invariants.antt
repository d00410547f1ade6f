use Rattle.std.proofs.Common.{◌≡◌, ◌++◌, take}
use Rattle.sched_core.proofs.seeds_of.add_paths.Given as goal

abbrev pub invariant-loop-path : goal.invariant-loop-path
invariant-loop-path l = l.seeds.items ≡ l.fn.seeds.items ++ take l.path-index l.paths
