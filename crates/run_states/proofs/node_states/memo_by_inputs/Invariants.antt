use Rattle.run_states.specs.StateLists.{kept}
use Rattle.run_states.specs.NodeStates.{news_in, states_in}
use Rattle.run_states.proofs.CountedNews.{AreCounted}
use Rattle.run_states.proofs.node_states.memo_by_inputs.Given as goal

abbrev pub invariant-loop-index : goal.invariant-loop-index
invariant-loop-index l = AreCounted (news_in (kept (states_in l.memos)) l.inputs) l.index l.waits
    l.first
