-- The outputs so far refer to nothing.
use Rattle.std.proofs.Common.{map}
use Rattle.std.specs.Prelude.{All}
use Rattle.std.specs.List.{range_with_len}
use Rattle.build_outcome.specs.Checks.{OfFixed}
use Rattle.build_outcome.specs.private.Testing.{IsPassed}
use Rattle.build_outcome.proofs.checks.output_tests.Tester.test_references.Given as goal

abbrev pub invariant-loop-n : goal.invariant-loop-n
invariant-loop-n l = All (IsPassed l.self.job.now l.self.permitted.now l.self.records.now
    l.self.asked.now.closures.items) (map OfFixed (range_with_len 0 l.n))
