-- The first outputs are to be made.
use Rattle.std.proofs.Common.{◌≡◌, length, take}
use Rattle.sched_core.specs.private.SameJobs.{MakesAt}
use Rattle.sched_core.proofs.is_job.makes.Given as goal

abbrev pub invariant-loop-n : goal.invariant-loop-n
invariant-loop-n l = (length l.made ≡ length l.outputs)
    × MakesAt (take l.n l.outputs) (take l.n l.paths) (take l.n l.made)
