-- The outputs so far have good modes.
use Rattle.std.proofs.Common.{ℕ, List}
use Rattle.build_outcome.specs.declared.job.Answer.{Answer}
use Rattle.build_outcome.specs.private.Judging.{IsReadAs}
use Rattle.build_outcome.proofs.Verdicts.{GoodSoFar}
use Rattle.build_outcome.proofs.verdict.check_modes.Given as goal

abbrev pub invariant-loop-n : goal.invariant-loop-n
invariant-loop-n l = (permitted : List (List ℕ)) (answer : Answer)
    → IsReadAs l.job permitted answer l.outputs → GoodSoFar l.job answer l.n
