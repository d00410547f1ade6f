use Rattle.drv_graph.specs.private.Checking.{EntriesFit, FitBefore}
use Rattle.drv_graph.proofs.outputs.values.check_env.Given as goal

abbrev pub invariant-loop-index : goal.invariant-loop-index
invariant-loop-index l = FitBefore (EntriesFit l.in_draft l.drv.env) l.drv.outputs l.paths l.index
