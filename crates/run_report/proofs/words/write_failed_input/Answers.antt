use Rattle.std.proofs.Common.{◌∙◌, ap, arith, codes}
use Rattle.std.proofs.lemmas.List.{length-map}
use Rattle.std.proofs.lemmas.Option.{slice_get_past}
use Rattle.drv_graph.specs.Nodes.{Node, paths_of}
use Rattle.run_report.specs.Words.{with_value}
use Rattle.run_report.proofs.Wordings.{added_same, with_found, with_none}
use Rattle.run_report.proofs.words.write_failed_input.Goals as goal

pub returns-then-input-len : goal.returns-then-input-len
returns-then-input-len c =
    added_same _ _ _ _ _
    (ap (with_value (codes "InputNotRealised")) c.text.ensures.value
    ∙ with_found (codes "InputNotRealised") (paths_of c.args.plan.now.nodes) c.args.input _
    c.path.ensures.value)
    c.write_with_value.ensures

pub returns-else-input-len : goal.returns-else-input-len
returns-else-input-len c =
    let nodes = c.args.plan.now.nodes in
    let none = slice_get_past _ c.args.input
    (omega (
      arith,
      c.if-input-len.false,
      c.len.ensures.value,
      length-map nodes (λ (n : Node). n.path),
    )) in
    added_same c.write_with_number.result _ _ _ _
    (with_none (codes "InputNotRealised") (paths_of nodes) c.args.input none)
    c.write_with_number.ensures
