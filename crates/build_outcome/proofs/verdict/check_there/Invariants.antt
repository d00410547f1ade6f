-- At the outputs so far something lies.
use Rattle.std.proofs.Common.{ℕ, List}
use Rattle.build_outcome.specs.declared.job.Answer.{Answer}
use Rattle.build_outcome.specs.private.Judging.{IsReadAs}
use Rattle.build_outcome.proofs.Verdicts.{ThereSoFar}
use Rattle.build_outcome.proofs.verdict.check_there.Given as goal

abbrev pub invariant-loop-n : goal.invariant-loop-n
invariant-loop-n l = (permitted : List (List ℕ)) (answer : Answer)
    → IsReadAs l.job permitted answer l.outputs → ThereSoFar answer l.n
