-- The paths of the first outputs were added.
use Rattle.std.proofs.Common.{◌≡◌, ◌++◌, map, take}
use Rattle.build_outcome.specs.declared.job.JobOutput.{JobOutput}
use Rattle.builder_start.proofs.requests.add_outputs.Given as goal

abbrev pub invariant-outputs : goal.invariant-outputs
invariant-outputs l = l.paths.items
    ≡ l.initial.paths.items ++ map (λ (o : JobOutput). o.path) (take l.output-index l.outputs)
