use Rattle.std.proofs.Common.{take}
use Rattle.sched_core.specs.private.Following.{IsRest}
use Rattle.sched_core.proofs.has_seeds.rest_after_paths.Given as goal

abbrev pub invariant-loop-path : goal.invariant-loop-path
invariant-loop-path l = IsRest l.seeds (take l.path-index l.paths) l.left
