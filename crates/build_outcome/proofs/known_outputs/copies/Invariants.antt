-- The paths so far stand there, and there is room for all.
use Rattle.std.proofs.Common.{◌≡◌, length, take, vec_capacity}
use Rattle.build_outcome.proofs.known_outputs.copies.Given as goal

abbrev pub invariant-loop-path : goal.invariant-loop-path
invariant-loop-path l = record {
  count : length l.copies.items ≡ l.path-index;
  paths : l.copies.items ≡ take l.path-index l.paths;
  room : vec_capacity l.copies ≡ length l.paths;
}
