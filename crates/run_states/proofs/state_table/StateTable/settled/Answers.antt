use Rattle.std.proofs.Common.{◌↔◌, IsTrue, subst}
use Rattle.run_states.specs.StateTables.{IsSettled}
use Rattle.run_states.proofs.MemoTables.{settled_told}
use Rattle.run_states.proofs.state_table.StateTable.settled.Goals as goal

pub returns : goal.returns
returns c = subst (λ k. IsTrue c.is_settled.result ↔ IsSettled k) c.self.view_is
    (settled_told c.self.inside.plan _ c.self.inside.users
    c.self.inside.queues c.self.invariant.0 _ c.is_settled.ensures)
