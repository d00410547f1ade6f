-- What was merged, with what is left of both lists, and the room for all.
use Rattle.std.proofs.Common.{◌≡◌, ◌≤◌, ◌+◌, length, vec_capacity}
use Rattle.valid_table.proofs.Merged.{IsMerged}
use Rattle.valid_table.proofs.path_table.union.union.Given as goal

abbrev pub invariant-paths : goal.invariant-paths
invariant-paths l = record {
  merged : IsMerged l.fn.left l.fn.right l.paths.items l.more l.others;
  enough : length l.paths.items + (length l.more + length l.others) ≤ vec_capacity l.paths;
  room : vec_capacity l.paths ≡ length l.fn.left + length l.fn.right;
}

abbrev pub decreases-paths : goal.decreases-paths
decreases-paths l = length l.more + length l.others
