use Rattle.std.proofs.Common.{◌≡◌, ◌∙◌, ◌++◌, ◌∷◌, [], arith, inl, inr, sym, ap}
use Rattle.run_states.proofs.WorkQueues.{all_kept, few_unsettled, opening_done, opening_fresh, opening_open, opening_passed, opening_ready, room_for}
use Rattle.run_states.proofs.work_queues.WorkQueues.open.Goals as goal
use Rattle.run_states.proofs.work_queues.WorkQueues.open.Goals.{then-memo+then-is_open+then-is_ready, then-memo+then-is_open+else-is_ready, else-memo, else-memo-via-then-memo+else-is_open, else-memo-via-else-memo}

pub overflow_add-unsettled : goal.overflow_add-unsettled
overflow_add-unsettled c =
    let few = few_unsettled _ _ _ _ c.loop-d-test.true c.loop-d.invariant.is in
    omega (arith, few, c.loop-d-test.true)

pub loop-d-preserved : goal.loop-d-preserved
loop-d-preserved c = elim c.if-memo.branch [
  | then-memo+then-is_open+then-is_ready w ↦
      let fits = all_kept _ _
      (room_for _ _ _ _ _ c.loop-d-test.true c.loop-d.invariant.room c.loop-d.invariant.is) in
      let pushed : c.if-memo.ring.items ≡ c.loop-d.ring.items ++ c.loop-d.d ∷ [] =
      ap (λ b. b.items) (w.ring-is ∙ w.push_back.ensures.items) ∙ fits in
      let wide : c.if-memo.ring.capacity ≡ c.loop-d.ring.capacity =
      ap (λ b. b.capacity) (w.ring-is ∙ w.push_back.ensures.items) in
      record {
        room = wide ∙ c.loop-d.invariant.room;
        work = c.loop-d.invariant.work;
        space = c.loop-d.invariant.space;
        is = opening_ready _ _ _ _ _ _ _ c.loop-d-test.true w.if-memo.true
            (sym w.is_open.ensures ∙ w.if-is_open.true)
            (sym w.is_ready.ensures ∙ w.if-is_ready.true) pushed w.unsettled-is
            c.loop-d.invariant.is;
      }
  | then-memo+then-is_open+else-is_ready w ↦ record {
    room = ap (λ b. b.capacity) w.ring-is ∙ c.loop-d.invariant.room;
    work = c.loop-d.invariant.work;
    space = c.loop-d.invariant.space;
    is = opening_open _ _ _ _ _ _ _ c.loop-d-test.true w.if-memo.true
        (sym w.is_open.ensures ∙ w.if-is_open.true)
        (sym w.is_ready.ensures ∙ w.if-is_ready.false) (ap (λ b. b.items) w.ring-is)
        w.unsettled-is c.loop-d.invariant.is;
  }
  | else-memo w ↦ record {
    room = ap (λ b. b.capacity) w.ring-is ∙ c.loop-d.invariant.room;
    work = c.loop-d.invariant.work;
    space = c.loop-d.invariant.space;
    is = elim w.else-memo.branch [
      | else-memo-via-then-memo+else-is_open v ↦
          opening_passed _ _ _ _ _ _ _ c.loop-d-test.true
          (inr (sym v.is_open.ensures ∙ v.if-is_open.false)) (ap (λ b. b.items) w.ring-is)
          w.unsettled-is c.loop-d.invariant.is
      | else-memo-via-else-memo v ↦
          opening_passed _ _ _ _ _ _ _ c.loop-d-test.true
          (inl v.if-memo.false) (ap (λ b. b.items) w.ring-is)
          w.unsettled-is c.loop-d.invariant.is
    ];
  }
]

pub returns-clause-is : goal.returns-clause-is
returns-clause-is c =
    opening_done _ _ _ _
    _ _ _
    (omega (arith, c.loop-d-test.false)) (omega (arith, c.loop-d.auto.d-end))
    c.loop-d.invariant.room c.loop-d.invariant.space c.loop-d.invariant.work c.loop-d.invariant.is

pub returns-clause-fresh : goal.returns-clause-fresh
returns-clause-fresh c =
    opening_fresh _ _ _ _ c.loop-d.invariant.is
