use Rattle.std.proofs.Common.{map, take}
use Rattle.std.specs.Prelude.{All}
use Rattle.nix_drv.specs.Parts.{bytes_of}
use Rattle.drv_graph.specs.Outputs.{IsKnownUse}
use Rattle.drv_graph.specs.private.UsedInputs.{uses_of}
use Rattle.drv_graph.proofs.outputs.output_checks.check_used.Given as goal

abbrev pub invariant-loop-name : goal.invariant-loop-name
invariant-loop-name l =
    All IsKnownUse
    (take l.name-index (uses_of l.used.path.now l.used.drv.now (map bytes_of l.names)))
