use Rattle.std.proofs.Common.{◌≡◌, take, length, vec_capacity, vec_len}
use Rattle.drv_graph.proofs.paths.copy_paths.Given as goal

abbrev pub invariant-loop-path : goal.invariant-loop-path
invariant-loop-path l = record {
  first : l.copies.items ≡ take l.path-index l.paths;
  count : vec_len l.copies ≡ l.path-index;
  room : vec_capacity l.copies ≡ length l.paths;
}
