use Rattle.std.proofs.Common.{◌≡◌, length, vec_capacity}
use Rattle.run_states.proofs.MemoTables.{AreOpened}
use Rattle.run_states.proofs.state_table.memos_of.Given as goal

abbrev pub invariant-loop-d : goal.invariant-loop-d
invariant-loop-d l = record {
  opened : AreOpened l.plan l.preconditions l.wanted l.twins l.d l.memos.items;
  room : vec_capacity l.memos ≡ length l.plan.nodes;
}
