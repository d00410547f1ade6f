use Rattle.std.proofs.Common.{◌≡◌, length, vec_capacity}
use Rattle.sched_core.proofs.JobParts.{AreMade}
use Rattle.sched_core.proofs.job_of.outputs_of.Given as goal

abbrev pub invariant-loop-n : goal.invariant-loop-n
invariant-loop-n l = record {
  count : length l.made.items ≡ l.n;
  made : AreMade l.outputs l.paths l.made.items l.n;
  room : vec_capacity l.made ≡ length l.paths;
}
