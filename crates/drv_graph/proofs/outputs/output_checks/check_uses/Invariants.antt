use Rattle.std.proofs.Common.{map, take}
use Rattle.std.specs.Prelude.{All}
use Rattle.nix_drv.specs.Parts.{input_of}
use Rattle.drv_graph.specs.Outputs.{IsKnownUse, uses}
use Rattle.drv_graph.specs.private.UsedInputs.{drvs_of_uses}
use Rattle.drv_graph.proofs.outputs.output_checks.check_uses.Given as goal

abbrev pub invariant-loop-index : goal.invariant-loop-index
invariant-loop-index l =
    All IsKnownUse (uses (take l.index (map input_of l.inputs))
    (take l.index (drvs_of_uses l.used)))
