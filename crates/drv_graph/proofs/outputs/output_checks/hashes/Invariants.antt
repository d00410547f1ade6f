use Rattle.std.proofs.Common.{◌≡◌, take, length, vec_capacity, vec_len}
use Rattle.drv_graph.specs.private.UsedInputs.{hashes_of}
use Rattle.drv_graph.proofs.outputs.output_checks.hashes.Given as goal

abbrev pub invariant-loop-input : goal.invariant-loop-input
invariant-loop-input l = record {
  first : l.hashes.items ≡ take l.input-index (hashes_of l.used);
  count : vec_len l.hashes ≡ l.input-index;
  room : vec_capacity l.hashes ≡ length l.used;
}
