use Rattle.std.proofs.Common.{◌≡◌, ◌≤◌, ap, ◌∙◌, arith}
use Rattle.serde_json.specs.Data.{array, depth}
use Rattle.serde_json.specs.View.{view}
use Rattle.serde_json.specs.declared.value.Value.{Array}
use Rattle.serde_json.proofs.Views.{view-Array}
use Rattle.structured_attrs.specs.Graphs.{graph_data}
use Rattle.structured_attrs.proofs.Depths.{depth-graph, keeps_depth}
use Rattle.structured_attrs.proofs.attributes.Attributes.set_graph.Goals as goal

pub invariant_of-self : goal.invariant_of-self
invariant_of-self c =
    let v = c.in_ok-records.records in
    let is : view (Array v) ≡ graph_data c.args.rows.now = view-Array v ∙ ap array c.in_ok-records.ensures in
    let shallow : depth (view (Array v)) ≤ 126 = omega (arith, ap depth is, depth-graph c.args.rows.now) in
    record { nests = keeps_depth c.put.result c.args.key.now (view (Array v)) c.args.self.now.members.entries c.put.new.map.entries c.put.ensures.ok c.put.ensures.err shallow c.args.self.now.nests }
