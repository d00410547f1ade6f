use Rattle.std.proofs.Common.{◌∙◌, Ok, subst, sym}
use Rattle.sched_core.specs.Books.{IsBooksLease, Leased, Ledger}
use Rattle.build_outcome.specs.declared.reason.Reason.TheVariants.{OutOfMemory}
use Rattle.store_run.specs.Builders.{MayEndAs}
use Rattle.store_run.specs.private.Sharing.{IsNoting, IsLeaseRegistering, IsWanting, Share}
use Rattle.store_run.proofs.Answered.{after_finishing, came_may_refer}
use Rattle.store_run.proofs.Bases.{over_finishing}
use Rattle.store_run.proofs.Wanting.{wanting_registers}
use Rattle.store_run.proofs.shared.Shared.register.Goals as goal

pub finish-requires-after_bounds : goal.finish-requires-after_bounds
finish-requires-after_bounds g c κs within = λ lease.
    let came = subst (λ (s : Share). IsBooksLease s.book.run s.book.history c.args.lease.job
    c.args.lease.number
    → MayEndAs g.B.Build.may s.book.history.entries c.args.lease.job (Ok c.args.checked))
    (sym c.self.view_is) c.requires in
    came_may_refer g.B.Build.may c.self.inside.book.history.entries _ _
    (came lease)

pub invariant_of-self : goal.invariant_of-self
invariant_of-self g c =
    let came = subst (λ (s : Share). IsBooksLease s.book.run s.book.history c.args.lease.job
    c.args.lease.number
    → MayEndAs g.B.Build.may s.book.history.entries c.args.lease.job (Ok c.args.checked))
    (sym c.self.view_is) c.requires in (
      after_finishing g.B.Build.may c.self.inside.book c.finish.new.book _ _ _ c.self.invariant.0
          came c.in-Ok.ensures.ok,
      over_finishing g.S.Basis.is_this_run c.self.inside.book c.finish.new.book _ _ _
          c.self.invariant.1 c.in-Ok.ensures.ok,
    )

pub returns-in-NoMemory : goal.returns-in-NoMemory
returns-in-NoMemory g c =
    let e = c.in-Err in
    let job = c.args.lease.job in
    let number = c.args.lease.number in
    let before : Share = record { book = c.self.inside.book; stop = c.self.inside.stop } in
    let wanting : IsWanting before job number c.args.checked =
    rw (sym c.fault.ensures ∙ c.in-NoMemory.is) at e.ensures.fault in
    let noted : IsNoting before c.fail.new.self job number OutOfMemory c.fail.result =
    subst (λ (b : Ledger). IsNoting (record { book = b; stop = c.self.inside.stop })
    c.fail.new.self job number OutOfMemory c.fail.result) e.ensures.same
    (subst (λ (l : Leased _). IsNoting
    (record { book = c.finish.new.book; stop = c.self.inside.stop }) c.fail.new.self l.job l.number
    OutOfMemory c.fail.result) e.ensures.back.0 c.fail.ensures) in
    subst (λ (s : Share). IsLeaseRegistering s c.fail.new.self job number c.args.checked
    c.fail.result)
    c.self.view_is
    (wanting_registers _ _ _ _ _ _ wanting noted)
