use Rattle.std.proofs.Common.{map}
use Rattle.nix_drv.specs.Parts.{output_of}
use Rattle.drv_graph.specs.private.Checking.{FitBefore, PathFits}
use Rattle.drv_graph.proofs.outputs.values.check_paths.Given as goal

abbrev pub invariant-loop-index : goal.invariant-loop-index
invariant-loop-index l = FitBefore (PathFits l.in_draft) (map output_of l.outputs) l.paths l.index
