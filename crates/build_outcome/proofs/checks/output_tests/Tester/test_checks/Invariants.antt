-- The checks of the outputs so far are passed.
use Rattle.std.specs.Prelude.{All}
use Rattle.std.specs.List.{flat_map, range_with_len}
use Rattle.build_outcome.specs.Checks.{checks_at}
use Rattle.build_outcome.specs.private.Testing.{IsPassed}
use Rattle.build_outcome.proofs.checks.output_tests.Tester.test_checks.Given as goal

abbrev pub invariant-loop-n : goal.invariant-loop-n
invariant-loop-n l = All (IsPassed l.self.job.now l.self.permitted.now l.self.records.now
    l.self.asked.now.closures.items) (flat_map checks_at (range_with_len 0 l.n))
