use Rattle.std.proofs.Common.{◌≡◌, drop}
use Rattle.serde_json.specs.Data.{no_members}
use Rattle.serde_json.specs.View.{members_view}
use Rattle.structured_attrs.specs.Graphs.{with_outputs}
use Rattle.structured_attrs.proofs.outputs.outputs_object.Given as goal

-- the object so far with the outputs that are left is the object of all
abbrev pub invariant-outputs : goal.invariant-outputs
invariant-outputs l = with_outputs (drop l.output-index l.outputs) (members_view l.object.entries) ≡ with_outputs l.outputs no_members
