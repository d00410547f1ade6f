use Rattle.std.proofs.Common.{◌≡◌, ◌++◌, map, take, drop}
use Rattle.nix_drv.specs.Parts.{output_of}
use Rattle.drv_graph.specs.private.Uniting.{masked_output}
use Rattle.drv_graph.proofs.outputs.modulo.mask_outputs.Given as goal

abbrev pub invariant-loop-output : goal.invariant-loop-output
invariant-loop-output l = map output_of l.outputs
    ≡ map masked_output (take l.output-index (map output_of l.fn.outputs))
    ++ drop l.output-index (map output_of l.fn.outputs)
