use Rattle.std.proofs.Common.{ℕ, ◌+◌, ◌<◌, get_or}
use Rattle.ref_scan.proofs.index.are_rising.Given as goal

abbrev pub invariant-loop-number : goal.invariant-loop-number
invariant-loop-number l = (k : ℕ) → k + 1 < l.number → get_or l.keys k 0 < get_or l.keys (k + 1) 0
