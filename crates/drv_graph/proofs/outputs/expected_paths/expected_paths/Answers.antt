use Rattle.std.proofs.Common.{sym, subst}
use Rattle.std.specs.Prelude.{IfOk}
use Rattle.drv_graph.specs.private.Checking.{AreExpected}
use Rattle.drv_graph.specs.declared.kinds.Kind.{Kind}
use Rattle.drv_graph.proofs.Checks.{addressed_from}
use Rattle.drv_graph.proofs.outputs.expected_paths.expected_paths.Goals as goal

pub returns-in_ok-inner-in-Addressed : goal.returns-in_ok-inner-in-Addressed
returns-in_ok-inner-in-Addressed c =
    subst (λ (k : Kind). IfOk c.output_paths.result
    (λ paths. AreExpected c.args.dir.now c.args.name.now k c.args.drv.now c.args.hashes.now
    paths.items)) (sym c.in-Addressed.is)
    (addressed_from _ _ _ _
    _ _ _
    c.in_ok-inner-in-Addressed.ensures c.outputs.ensures c.output_paths.ensures.value)
