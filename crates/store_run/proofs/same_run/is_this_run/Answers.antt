use Rattle.std.proofs.Common.{◌≡◌, ◌↔◌, ◌∙◌, IsTrue, sym, take, true≢false, rules}
use Rattle.std.specs.Cmp.Lexicographic.{pointwise_decides}
use Rattle.run_states.proofs.Platforms.{platforms_decide}
use Rattle.store_run.proofs.Openings.{opening_is_taken}
use Rattle.store_run.proofs.same_run.is_this_run.Goals as goal
use Rattle.store_run.proofs.same_run.is_this_run.Goals.{then-eq, else-eq}

-- src/same_run.rt:20:19
pub slice_bounds-opening-end : goal.slice_bounds-opening-end
slice_bounds-opening-end g c = search (rules, opening_is_taken)

-- src/same_run.rt:14:1
pub returns-then-eq-2-clause-over : goal.returns-then-eq-2-clause-over
returns-then-eq-2-clause-over g c =
    let book = c.args.book.now in
    let taken : take c.opening.result c.entries.result.now ≡ book.history.opening =
    rw (c.opening.ensures.count, c.entries.ensures.value, c.journal.ensures.entries)
    (opening_is_taken _ _ c.journal.ensures.legal) in
    let same_opening : IsTrue c.eq-then-eq-2.result
    ↔ (book.history.opening ≡ c.args.journal.now.entries) =
    rw (c.eq-then-eq-2.ensures, taken, c.entries-then-eq-2.ensures.value)
    (pointwise_decides c.equal_entries_are_same.ensures book.history.opening
    c.args.journal.now.entries) in
    elim c.if-eq.branch [
      | then-eq w ↦
          let plan : c.plan.result.now ≡ c.args.plan.now =
          (c.equal_plans_are_same.ensures c.plan.result.now c.args.plan.now).0
          (sym c.eq.ensures ∙ w.if-eq.true) in
          let system : w.system.result.now ≡ c.args.system.now =
          (platforms_decide w.system.result.now c.args.system.now).0
          (sym w.eq-then-eq.ensures ∙ (sym w.value-is ∙ c.if-eq-2.true)) in (
            λ same. record {
              plan_is = sym c.plan.ensures ∙ plan;
              system_is = sym w.system.ensures ∙ system;
              opening_is = same_opening.0 same;
            },
            λ over. same_opening.1 over.opening_is,
          )
      | else-eq w ↦
          absurd (true≢false (sym c.if-eq-2.true ∙ (w.value-is ∙ w.if-eq.false)))
    ]

pub returns-else-eq-2-clause-over : goal.returns-else-eq-2-clause-over
returns-else-eq-2-clause-over g c = (
  λ same. absurd (true≢false (sym same ∙ c.if-eq-2.false)),
  λ over. elim c.if-eq.branch [
    | then-eq w ↦
        w.value-is ∙ (w.eq-then-eq.ensures
        ∙ (platforms_decide w.system.result.now c.args.system.now).1
        (w.system.ensures ∙ over.system_is))
    | else-eq w ↦
        w.value-is ∙ (c.eq.ensures
        ∙ (c.equal_plans_are_same.ensures c.plan.result.now c.args.plan.now).1
        (c.plan.ensures ∙ over.plan_is))
  ],
)
