use Rattle.std.proofs.Common.{◌≡◌, map, take, length, vec_capacity, vec_len}
use Rattle.nix_drv.specs.Parts.{input_of}
use Rattle.drv_graph.specs.Modulo.{replaced}
use Rattle.drv_graph.proofs.outputs.modulo.inputs_by_hash.Given as goal

abbrev pub invariant-loop-index : goal.invariant-loop-index
invariant-loop-index l = record {
  first : map input_of l.changed.items
      ≡ take l.index (replaced (map input_of l.inputs) l.hashes);
  count : vec_len l.changed ≡ l.index;
  room : vec_capacity l.changed ≡ length l.inputs;
}
