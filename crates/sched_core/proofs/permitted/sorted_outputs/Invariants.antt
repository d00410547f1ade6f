-- The copies so far are the first outputs' paths, and there is room for all.
use Rattle.std.proofs.Common.{◌≡◌, length, map, take, vec_capacity}
use Rattle.build_outcome.specs.declared.job.JobOutput.{JobOutput}
use Rattle.sched_core.proofs.permitted.sorted_outputs.Given as goal

abbrev pub invariant-loop-output : goal.invariant-loop-output
invariant-loop-output l = record {
  count : length l.sorted.items ≡ l.output-index;
  paths : l.sorted.items ≡ map (λ (o : JobOutput). o.path) (take l.output-index l.job.outputs.items);
  room : vec_capacity l.sorted ≡ length l.job.outputs.items;
}
