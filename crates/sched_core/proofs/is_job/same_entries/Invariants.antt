-- The first entries are the same.
use Rattle.std.proofs.Common.{◌≡◌, length, map, take}
use Rattle.nix_drv.specs.Parts.{entry_of}
use Rattle.sched_core.proofs.is_job.same_entries.Given as goal

abbrev pub invariant-loop-n : goal.invariant-loop-n
invariant-loop-n l = (length l.left ≡ length l.right)
    × (map entry_of (take l.n l.left) ≡ map entry_of (take l.n l.right))
