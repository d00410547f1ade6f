-- The sums of the outputs so far stand there, and there is room for all.
use Rattle.std.proofs.Common.{◌≡◌, length, vec_capacity}
use Rattle.build_outcome.specs.private.Summing.{AreSumsSoFar}
use Rattle.build_outcome.proofs.sums.sums_of_all.Given as goal

abbrev pub invariant-loop-n : goal.invariant-loop-n
invariant-loop-n l = record {
  count : length l.sums.items ≡ l.n;
  sums : AreSumsSoFar l.job l.answer l.sums.items l.n;
  room : vec_capacity l.sums ≡ length l.job.outputs.items;
}
