-- The outputs so far are taken.
use Rattle.std.proofs.Common.{ℕ, List}
use Rattle.build_outcome.specs.declared.job.Answer.{Answer}
use Rattle.build_outcome.specs.private.Judging.{IsReadAs}
use Rattle.build_outcome.proofs.Verdicts.{SoundSoFar}
use Rattle.build_outcome.proofs.verdict.check_trees.Given as goal

abbrev pub invariant-loop-n : goal.invariant-loop-n
invariant-loop-n l = (permitted : List (List ℕ)) (answer : Answer)
    → IsReadAs l.job permitted answer l.outputs → SoundSoFar l.job answer l.n
