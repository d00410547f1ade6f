use Rattle.std.proofs.Common.{◌≤◌, ◌-◌, length}
use Rattle.ref_scan.proofs.Searching.{Searching}
use Rattle.ref_scan.proofs.search.search.Given as goal

abbrev pub invariant-loop-window : goal.invariant-loop-window
invariant-loop-window l = record {
  inside : l.start ≤ length l.bytes;
  known : l.known ≤ 31;
  so_far : Searching l.index.parts l.initial.met l.met l.bytes l.start;
}

abbrev pub decreases-loop-window : goal.decreases-loop-window
decreases-loop-window l = length l.bytes - l.start
