use Rattle.std.proofs.Common.{◌≡◌, ◌⊎◌, Err, List, Result, subst}
use Rattle.valid_table.specs.PathInfos.{PathInfo}
use Rattle.sched_core.specs.Books.{IsBooksLease}
use Rattle.build_outcome.specs.declared.reason.Reason.{Reason}
use Rattle.build_outcome.specs.declared.reason.Reason.TheVariants.{OutOfMemory}
use Rattle.store_run.specs.Builders.{MayEndAs}
use Rattle.store_run.proofs.Answered.{reason_comes, records_come}
use Rattle.store_run.proofs.shared.Shared.note.Goals as goal

pub register-requires-after_bounds : goal.register-requires-after_bounds
register-requires-after_bounds g c κs within =
    let book = c.args.self.now.book in
    records_come g.B.Build.may book.history.entries _ _
    (subst (λ (v : Result (List PathInfo) Reason). (v ≡ Err OutOfMemory)
    ⊎ (IsBooksLease book.run book.history c.args.lease.job c.args.lease.number
    → MayEndAs g.B.Build.may book.history.entries c.args.lease.job v)) c.in-Ok.is c.requires)

pub fail-requires-after_bounds : goal.fail-requires-after_bounds
fail-requires-after_bounds g c κs within =
    let book = c.args.self.now.book in
    reason_comes g.B.Build.may book.history.entries _ _
    (subst (λ (v : Result (List PathInfo) Reason). (v ≡ Err OutOfMemory)
    ⊎ (IsBooksLease book.run book.history c.args.lease.job c.args.lease.number
    → MayEndAs g.B.Build.may book.history.entries c.args.lease.job v)) c.in-Err.is c.requires)
