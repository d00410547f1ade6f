use Rattle.std.proofs.Common.{◌≡◌, ◌∙◌, ap, length, subst, rules}
use Rattle.std.proofs.lemmas.List.{length-map}
use Rattle.std.proofs.lemmas.Result.{IfOk-weaker}
use Rattle.run_states.specs.StateTables.{StateTable}
use Rattle.run_states.specs.declared.node_states.NodeState.{NodeState}
use Rattle.run_states.proofs.state_table.StateTable.wanted_marks.Goals as goal

pub returns-clause-marks : goal.returns-clause-marks
returns-clause-marks c = search rules

pub returns-clause-count : goal.returns-clause-count
returns-clause-count c =
    IfOk-weaker c.wanted_in.result _ _
    (λ marks is. subst (λ (k : StateTable). length marks.items ≡ length k.graph.nodes) c.self.view_is
    (ap length is ∙ length-map c.deref.result.now (λ (t : NodeState). t.wanted)
    ∙ ap length c.deref.ensures.value ∙ c.self.invariant.0.count))
    c.wanted_in.ensures
