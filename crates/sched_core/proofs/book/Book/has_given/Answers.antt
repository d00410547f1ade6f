use Rattle.std.proofs.Common.{◌∙◌, sym, true≢false}
use Rattle.sched_core.proofs.KeptStates.{begun_told}
use Rattle.sched_core.proofs.book.Book.has_given.Goals as goal

pub returns-then-is_building : goal.returns-then-is_building
returns-then-is_building g c =
    let told = begun_told _ _ _ _ _ c.self.invariant.kept _ _ in
    rw (← c.self.view_is) (
      λ yes. record {
        building = told.0 (c.is_building.ensures.0 c.if-is_building.true);
        is_job = rw c.plan.ensures at (c.is_job.ensures.0 yes);
      },
      λ lease. c.is_job.ensures.1 (rw c.plan.ensures lease.is_job),
    )

pub returns-else-is_building : goal.returns-else-is_building
returns-else-is_building g c =
    let told = begun_told _ _ _ _ _ c.self.invariant.kept _ _ in
    rw (← c.self.view_is) (
      λ no. absurd (true≢false (sym no ∙ c.if-is_building.false)),
      λ lease.
          absurd
          (true≢false (sym (c.is_building.ensures.1 (told.1 lease.building))
          ∙ c.if-is_building.false)),
    )
