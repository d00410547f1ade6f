-- The first paths rise.
use Rattle.valid_table.proofs.SortedOutputs.{RiseBelow}
use Rattle.valid_table.proofs.entry.is_rising.Given as goal

abbrev pub invariant-loop-i : goal.invariant-loop-i
invariant-loop-i l = RiseBelow l.registrations l.i
