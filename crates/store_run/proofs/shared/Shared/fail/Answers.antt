use Rattle.std.proofs.Common.{◌≡◌, ◌⊎◌, Err, subst, sym}
use Rattle.sched_core.specs.Books.{IsBooksLease}
use Rattle.build_outcome.specs.declared.reason.Reason.TheVariants.{OutOfMemory}
use Rattle.store_run.specs.Builders.{MayEndAs}
use Rattle.store_run.specs.private.Sharing.{Share}
use Rattle.store_run.proofs.Answered.{after_failing}
use Rattle.store_run.proofs.Bases.{over_failing}
use Rattle.store_run.proofs.shared.Shared.fail.Goals as goal

pub invariant_of-self : goal.invariant_of-self
invariant_of-self g c =
    let why = subst (λ (s : Share). (c.args.reason ≡ OutOfMemory)
    ⊎ (IsBooksLease s.book.run s.book.history c.args.lease.job c.args.lease.number
    → MayEndAs g.B.Build.may s.book.history.entries c.args.lease.job (Err c.args.reason)))
    (sym c.self.view_is) c.requires in (
      after_failing g.B.Build.may c.self.inside.book c.fail.new.book _ _ _ c.self.invariant.0 why
          c.in-Ok.ensures.ok,
      over_failing g.S.Basis.is_this_run c.self.inside.book c.fail.new.book _ _ _ c.self.invariant.1
          c.in-Ok.ensures.ok,
    )
