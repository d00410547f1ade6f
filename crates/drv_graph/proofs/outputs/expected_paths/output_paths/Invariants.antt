use Rattle.std.proofs.Common.{◌≡◌, map, take, length, vec_capacity, vec_len}
use Rattle.nix_drv.specs.Parts.{output_of}
use Rattle.drv_graph.specs.private.ExpectedPaths.{output_path}
use Rattle.drv_graph.proofs.outputs.expected_paths.output_paths.Given as goal

abbrev pub invariant-loop-output : goal.invariant-loop-output
invariant-loop-output l = record {
  first : l.paths.items ≡ take l.output-index
      (map (output_path l.dir l.name l.inner) (map output_of l.outputs));
  count : vec_len l.paths ≡ l.output-index;
  room : vec_capacity l.paths ≡ length l.outputs;
}
