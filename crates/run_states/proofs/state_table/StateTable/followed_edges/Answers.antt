use Rattle.std.proofs.Common.{◌≡◌, subst}
use Rattle.run_states.specs.FollowedEdges.{table_followed}
use Rattle.run_states.proofs.MemoTables.{edges_followed}
use Rattle.run_states.proofs.state_table.StateTable.followed_edges.Goals as goal

pub returns : goal.returns
returns c = subst (λ k. c.self.inside.followed ≡ table_followed k) c.self.view_is
    (edges_followed _ _ _
    _ c.self.invariant.0 _ c.self.invariant.1)
