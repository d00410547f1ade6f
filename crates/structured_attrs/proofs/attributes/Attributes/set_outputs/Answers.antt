use Rattle.std.proofs.Common.{◌≡◌, ◌≤◌, codes, ap, ◌∙◌, arith}
use Rattle.serde_json.specs.Data.{no_members, object, depth}
use Rattle.serde_json.specs.View.{view}
use Rattle.serde_json.specs.declared.value.Value.{Object}
use Rattle.serde_json.proofs.Views.{view-Object}
use Rattle.structured_attrs.specs.Graphs.{outputs_data}
use Rattle.structured_attrs.proofs.Depths.{depth-outputs, keeps_depth}
use Rattle.structured_attrs.proofs.attributes.Attributes.set_outputs.Goals as goal

pub invariant_of-self : goal.invariant_of-self
invariant_of-self c =
    let m = c.in_ok-object.object in
    let is : view (Object m) ≡ outputs_data c.args.outputs.now = view-Object m ∙ ap object c.in_ok-object.ensures.members in
    let flat = depth-outputs c.args.outputs.now no_members 0 (omega arith) in
    let shallow : depth (view (Object m)) ≤ 126 = omega (arith, ap depth is, flat) in
    record { nests = keeps_depth c.put.result (codes "outputs") (view (Object m)) c.args.self.now.members.entries c.put.new.map.entries c.put.ensures.ok c.put.ensures.err shallow c.args.self.now.nests }
