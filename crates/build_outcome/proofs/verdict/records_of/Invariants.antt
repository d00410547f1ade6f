-- The records of the outputs so far stand there, and there is room for all.
use Rattle.std.proofs.Common.{◌≡◌, ℕ, List, length, vec_capacity}
use Rattle.build_outcome.specs.declared.job.Answer.{Answer}
use Rattle.build_outcome.specs.Verdicts.{IsTaken}
use Rattle.build_outcome.specs.private.Judging.{IsReadAs}
use Rattle.build_outcome.proofs.Verdicts.{RecordsSoFar}
use Rattle.build_outcome.proofs.verdict.records_of.Given as goal

abbrev pub invariant-loop-n : goal.invariant-loop-n
invariant-loop-n l = record {
  count : length l.records.items ≡ l.n;
  records : (answer : Answer) → IsReadAs l.job l.permitted answer l.outputs
      → IsTaken l.job answer → RecordsSoFar l.job l.permitted answer l.records.items l.n;
  room : vec_capacity l.records ≡ length l.job.outputs.items;
}
