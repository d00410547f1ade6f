-- The paths of the outputs so far stand there, and there is room for all.
use Rattle.std.proofs.Common.{◌≡◌, length, map, take, vec_capacity}
use Rattle.build_outcome.specs.declared.job.JobOutput.{JobOutput}
use Rattle.build_outcome.proofs.verdict.paths_of.Given as goal

abbrev pub invariant-loop-output : goal.invariant-loop-output
invariant-loop-output l = record {
  count : length l.paths.items ≡ l.output-index;
  paths : l.paths.items ≡ map (λ (o : JobOutput). o.path) (take l.output-index l.outputs);
  room : vec_capacity l.paths ≡ length l.outputs;
}
