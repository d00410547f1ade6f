-- The archives of the outputs from this one on.
use Rattle.std.proofs.Common.{◌≤◌, drop, length, map}
use Rattle.std.specs.Prelude.{zip}
use Rattle.build_outcome.specs.Checks.{registration_of}
use Rattle.build_outcome.specs.declared.job.JobOutput.{JobOutput}
use Rattle.build_outcome.specs.private.Sizing.{AreNars, kept_nar}
use Rattle.build_outcome.proofs.checks.sizes.ClosureNars.new.Given as goal

abbrev pub invariant-loop-n : goal.invariant-loop-n
invariant-loop-n l = record {
  within : l.n ≤ length l.outputs;
  nars : AreNars (kept_nar l.own) (drop l.n (map registration_of
      (zip (map (λ (o : JobOutput). o.path) l.outputs) l.records)));
}

abbrev pub decreases-loop-n : goal.decreases-loop-n
decreases-loop-n l = l.n
