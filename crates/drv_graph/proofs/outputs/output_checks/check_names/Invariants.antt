use Rattle.std.proofs.Common.{map, take}
use Rattle.std.specs.Prelude.{All}
use Rattle.nix_drv.specs.Parts.{output_of}
use Rattle.drv_graph.specs.Outputs.{IsWellNamed}
use Rattle.drv_graph.proofs.outputs.output_checks.check_names.Given as goal

abbrev pub invariant-loop-output : goal.invariant-loop-output
invariant-loop-output l = All (IsWellNamed l.name) (take l.output-index (map output_of l.outputs))
