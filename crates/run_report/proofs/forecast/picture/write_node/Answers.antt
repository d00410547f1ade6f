use Rattle.run_report.proofs.Drawn.{node_told}
use Rattle.run_report.proofs.forecast.picture.write_node.Goals as goal

pub returns : goal.returns
returns c =
    rw (node_told c.args.plan.now.nodes c.args.number c.path-path.result.now
    c.args.state c.args.is_root c.path-path.ensures.value)
    at c.write_node_line.ensures
