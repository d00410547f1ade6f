use Rattle.std.proofs.Common.{◌≡◌, map, take}
use Rattle.nix_drv.specs.Parts.{output_of}
use Rattle.drv_graph.specs.private.Insertion.{inserted_outputs}
use Rattle.drv_graph.proofs.drafts.insertion.insert_into_outputs.Given as goal

abbrev pub invariant-loop-index : goal.invariant-loop-index
invariant-loop-index l = map output_of l.outputs
    ≡ inserted_outputs (map output_of l.fn.outputs) (take l.index l.paths)
