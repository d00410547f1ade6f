use Rattle.std.proofs.Common.{◌≡◌, [], drop, sym, ap, ◌∙◌, arith}
use Rattle.std.proofs.lemmas.List.{drop_all}
use Rattle.serde_json.specs.View.{members_view}
use Rattle.structured_attrs.specs.Graphs.{with_outputs}
use Rattle.structured_attrs.proofs.outputs.outputs_object.Goals as goal

pub returns : goal.returns
returns c =
    let l = c.outputs in
    let none : drop l.output-index c.args.outputs.now ≡ [] = drop_all l.output-index c.args.outputs.now (omega arith) in
    record { members = ap (λ left. with_outputs left (members_view l.object.entries)) (sym none) ∙ l.invariant }
