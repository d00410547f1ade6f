use Rattle.std.proofs.Common.{◌∙◌, ap, inr, subst, sym, true≢false}
use Rattle.store_run.specs.private.Ending.{IsUnfinished, fault_of_stop}
use Rattle.store_run.proofs.run.ending.Goals as goal

pub returns-then-settled-clause-end : goal.returns-then-settled-clause-end
returns-then-settled-clause-end g c = (
  c.into_parts-book.ensures.book,
  c.is_this_run.ensures.over.0 c.if-not-is_this_run.false,
  c.settled.ensures.0 c.if-settled.true,
)

pub returns-clause-end : goal.returns-clause-end
returns-clause-end g c =
    let plan = c.args.plan.now in
    let system = c.args.system.now in
    let opening = c.args.journal.now.entries in
    let unfinished : IsUnfinished plan system opening c.into_parts-book.result.0 = record {
      over = c.is_this_run.ensures.over.0 c.if-not-is_this_run.false;
      unsettled = λ is. true≢false (sym (c.settled.ensures.1 is) ∙ c.if-settled.false);
    } in (
      c.into_parts-book.ensures.book,
      inr (
        c.fault_by.ensures ∙ ap fault_of_stop c.into_parts-book.ensures.stop,
        subst (IsUnfinished plan system opening) c.into_parts-book.ensures.book unfinished,
      ),
    )
