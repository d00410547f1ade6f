use Rattle.std.proofs.Common.{◌≡◌, false, arith, ap, refl, subst, sym, ◌∙◌, ◌==◌, ◌<◌, ◌++◌, ℕ, Option, Some, None, if◌then◌else◌, is_some, length, map}
use Rattle.std.specs.Prelude.{slice_get}
use Rattle.std.proofs.lemmas.List.{length-map}
use Rattle.run_states.specs.StateTables.{listed}
use Rattle.run_states.specs.StateLists.{kept}
use Rattle.run_states.specs.States.{by_first, by_hindrance, by_validity}
use Rattle.run_states.specs.Nearest.{Open, news_of}
use Rattle.run_states.specs.NodeStates.{IsMemo, is_held, news_in, states_in}
use Rattle.run_states.specs.declared.state.State.TheVariants.{Blocked}
use Rattle.run_states.proofs.CountedNews.{bad_counted, bad_read, good_counted, good_read, other_counted}
use Rattle.run_states.proofs.ToldStates.{counted_memo, read_at}
use Rattle.run_states.proofs.node_states.memo_by_inputs.Goals.{then-serves, else-serves+then-index-first+then-fails, else-serves+else-index-first, else-index-first-via-then-index-first+else-fails, else-index-first-via-else-index-first}
use Rattle.run_states.proofs.node_states.memo_by_inputs.Goals as goal

pub loop-index-preserved : goal.loop-index-preserved
loop-index-preserved c =
    let memos = c.args.memos.now in
    let inputs = c.args.inputs.now in
    let l = c.loop-index in
    let heard = news_in (kept (states_in memos)) inputs in
    let low : c.loop-index.index < length heard =
    omega (
      arith,
      c.loop-index-test.true,
      length-map inputs (λ i. news_of (kept (states_in memos) i)),
    ) in
    let below = c.requires l.index 0 c.loop-index-test.true in
    elim c.if-serves.branch [
      | then-serves w ↦
          rw (w.waits-is, w.first-is)
          (good_counted _ _ _ _ low l.invariant
          (good_read memos inputs l.index _ c.loop-index-test.true below _ _
          c.serves.ensures w.if-serves.true)).1
      | else-serves+then-index-first+then-fails w ↦
          rw (w.waits-is, w.first-is)
          (bad_counted _ _ _ _ low l.invariant
          (good_read memos inputs l.index _ c.loop-index-test.true below _ _
          c.serves.ensures w.if-serves.false)
          (bad_read memos inputs l.index _ c.loop-index-test.true below _ _
          w.fails.ensures w.if-fails.true) w.if-index-first.true)
      | else-serves+else-index-first w ↦
          rw (w.waits-is, w.first-is)
          (other_counted _ _ _ _ low l.invariant
          (good_read memos inputs l.index _ c.loop-index-test.true below _ _
          c.serves.ensures w.if-serves.false)
          (λ sooner. elim w.else-index-first.branch [
            | else-index-first-via-then-index-first+else-fails u ↦
                bad_read memos inputs l.index _ c.loop-index-test.true below u.fails.result false
                u.fails.ensures u.if-fails.false
            | else-index-first-via-else-index-first u ↦
                absurd (omega (arith, sooner, u.if-index-first.false))
          ]))
    ]

pub returns-clause-is : goal.returns-clause-is
returns-clause-is c =
    let inputs = c.args.inputs.now in
    let first = c.loop-index.first in
    let failed : c.copied-failed.result ≡ slice_get inputs first =
    c.copied-failed.ensures ∙ read_at _ _ _ c.get.ensures.lookup in
    subst (λ f. IsMemo (record { inputs = inputs; twins = listed c.args.twin })
    (news_in (kept (states_in c.args.memos.now)) inputs ++ map (λ t. Open) (listed c.args.twin))
    (record {
      precondition = c.args.precondition;
      wanted = c.args.wanted;
      twin = c.args.twin;
      state = c.opening_state-state.result;
      inputs = length inputs;
      waits = c.loop-index.waits;
      first = first;
      failed = f;
      held = c.is_some-held.result;
    })) (sym failed)
    (counted_memo _ _ _ _
    (kept (states_in c.args.memos.now)) _ c.loop-index.waits first
    c.opening_state-state.result c.is_some-held.result
    (omega (arith, c.loop-index-test.false)) (omega (arith, c.loop-index.auto.index-end))
    c.loop-index.invariant (c.is_some-held.ensures ∙ held_by c.args.twin)
    (c.opening_state-state.ensures
    ∙ ap (λ o. by_validity c.args.precondition (if c.is_some-held.result then Blocked
    else by_hindrance c.args.precondition (by_first o (c.loop-index.waits == 0)))) failed))
  where
    held_by : (twin : Option ℕ) → is_some twin ≡ is_held (map (λ t. Open) (listed twin))
    held_by None = refl
    held_by (Some t) = refl
