use Rattle.std.proofs.Common.{◌≡◌, ◌≤◌, length, map, vec_capacity, vec_len}
use Rattle.nix_drv.specs.Parts.{input_of}
use Rattle.drv_graph.specs.private.Uniting.{IsGathered}
use Rattle.drv_graph.proofs.outputs.modulo.gather.Given as goal

abbrev pub invariant-loop-input : goal.invariant-loop-input
invariant-loop-input l = record {
  first : IsGathered (map input_of l.yielded) (map input_of l.gathered.items);
  count : vec_len l.gathered ≤ length l.yielded;
  room : vec_capacity l.gathered ≡ length l.fn.inputs.items;
}
