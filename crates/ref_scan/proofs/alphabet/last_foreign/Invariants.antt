use Rattle.std.proofs.Common.{◌≤◌}
use Rattle.ref_scan.specs.private.Parts.{AreDigits}
use Rattle.ref_scan.proofs.alphabet.last_foreign.Given as goal

abbrev pub invariant-loop-offset : goal.invariant-loop-offset
invariant-loop-offset l = record {
  within : l.offset ≤ 32;
  from : l.from ≤ l.offset;
  digits : AreDigits l.window l.offset 32;
}

abbrev pub decreases-loop-offset : goal.decreases-loop-offset
decreases-loop-offset l = l.offset
