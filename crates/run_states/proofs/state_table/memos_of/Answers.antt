use Rattle.std.proofs.Common.{◌∙◌, ◌<◌, None, ap, length, arith, subst, sym}
use Rattle.std.specs.Prelude.{All}
use Rattle.std.specs.List.{slice_index_or}
use Rattle.run_states.specs.StateTables.{listed}
use Rattle.run_states.specs.StateLists.{kept}
use Rattle.run_states.specs.NodeStates.{Hears, states_in}
use Rattle.run_states.proofs.MemoTables.{opened_all, opened_more}
use Rattle.run_states.proofs.state_table.memos_of.Goals as goal

pub memo_of-memo-requires-clause-twin : goal.memo_of-memo-requires-clause-twin
memo_of-memo-requires-clause-twin c =
    subst (λ n. All (λ t. t < n) (listed (slice_index_or c.args.twins.now c.loop-d.d None)))
    (sym (ap length c.deref.ensures.value ∙ c.loop-d.invariant.opened.count))
    (c.requires.smaller c.loop-d.d)

pub loop-d-preserved : goal.loop-d-preserved
loop-d-preserved c =
    let low : c.loop-d.d < length c.args.plan.now.nodes =
    omega (arith, c.loop-d-test.true, c.len-d-end.ensures.value) in
    record {
      opened = opened_more c.args.plan.now c.args.preconditions.now c.args.wanted.now
          c.args.twins.now
          c.len-d-end.ensures.sound c.requires.smaller c.loop-d.d
          c.loop-d.memos.items c.push_reserved.new.self.items c.memo_of-memo.result
          c.inputs_of-inputs.result.now
          _ _ None (omega (arith, low, c.requires.preconditions))
          (omega (arith, low, c.requires.wanted)) (omega (arith, low, c.requires.twins))
          c.memo_of-memo.ensures.precondition
          c.memo_of-memo.ensures.wanted c.memo_of-memo.ensures.twin
          c.inputs_of-inputs.ensures.numbers
          (subst (λ l. Hears (record {
            inputs = c.inputs_of-inputs.result.now;
            twins = listed
                (slice_index_or c.args.twins.now c.loop-d.d None);
          })
          (kept (states_in l)) (λ index. 0)
          c.memo_of-memo.result) c.deref.ensures.value c.memo_of-memo.ensures.hears)
          c.memo_of-memo.ensures.idle c.push_reserved.ensures.items c.loop-d.invariant.opened;
      room = c.push_reserved.ensures.capacity ∙ c.loop-d.invariant.room;
    }

pub returns-clause-ok : goal.returns-clause-ok
returns-clause-ok c =
    opened_all c.args.plan.now c.args.preconditions.now c.args.wanted.now c.args.twins.now
    c.len-d-end.ensures.sound c.requires.smaller c.loop-d.d
    c.loop-d.memos.items
    (omega (arith, c.loop-d-test.false, c.loop-d.auto.d-end, c.len-d-end.ensures.value))
    c.requires.preconditions c.requires.wanted c.requires.twins c.loop-d.invariant.opened
