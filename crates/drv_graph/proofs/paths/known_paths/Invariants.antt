use Rattle.std.proofs.Common.{◌≡◌, map, take, length, vec_capacity, vec_len}
use Rattle.drv_graph.proofs.paths.known_paths.Given as goal

abbrev pub invariant-loop-value : goal.invariant-loop-value
invariant-loop-value g l = record {
  first : l.paths.items ≡ map g.T.NamesPath.path_text (take l.value-index l.named);
  count : vec_len l.paths ≡ l.value-index;
  room : vec_capacity l.paths ≡ length l.named;
}
