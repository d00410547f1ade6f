use Rattle.std.proofs.Common.{◌≡◌, length, take, vec_capacity}
use Rattle.ref_scan.proofs.index.copies.Given as goal

abbrev pub invariant-loop-path : goal.invariant-loop-path
invariant-loop-path l = record {
  items : l.copies.items ≡ take l.path-index l.paths;
  capacity : vec_capacity l.copies ≡ length l.paths;
}
