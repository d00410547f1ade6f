use Rattle.std.proofs.Common.{◌≡◌, map, take, length, vec_capacity, vec_len}
use Rattle.nix_drv.specs.Parts.{bytes_of}
use Rattle.drv_graph.proofs.outputs.modulo.copy_names.Given as goal

abbrev pub invariant-loop-name : goal.invariant-loop-name
invariant-loop-name l = record {
  first : map bytes_of l.copy.items ≡ map bytes_of (take l.name-index l.names);
  count : vec_len l.copy ≡ l.name-index;
  room : vec_capacity l.copy ≡ length l.names;
}
