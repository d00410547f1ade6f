use Rattle.std.proofs.Common.{◌∙◌, Some, ap, sym}
use Rattle.run_report.proofs.Drawn.{edges_told}
use Rattle.run_report.proofs.forecast.edges.write_edges_of.Goals as goal

pub returns-then-awaits_inputs : goal.returns-then-awaits_inputs
returns-then-awaits_inputs c =
    rw (edges_told c.args.plan.now.nodes c.args.number c.text.result.now _ _
    c.args.state (c.path-user.ensures.value ∙ ap Some (sym c.text.ensures.value))
    c.drv-drv.ensures c.inputs.ensures (sym c.awaits_inputs.ensures ∙ c.if-awaits_inputs.true))
    at c.write_edges.ensures
