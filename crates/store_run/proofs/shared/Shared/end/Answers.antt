use Rattle.std.proofs.Common.{subst}
use Rattle.std.specs.Prelude.{OnOk, Result}
use Rattle.run_states.specs.declared.fault.BookFault.{BookFault}
use Rattle.store_run.specs.private.JobVerdicts.{HasCaughtUp, MayBeFound}
use Rattle.store_run.proofs.Answered.{examined_comes, unanswered_comes}
use Rattle.store_run.proofs.shared.Shared.end.Goals as goal

pub note-requires-after_bounds : goal.note-requires-after_bounds
note-requires-after_bounds g c κs within =
    let stays = subst (λ (up : Result (Unit {0}) BookFault). OnOk up
    (HasCaughtUp c.requires.0 c.args.self.now.book c.args.lease.job)) c.in-Ok.is c.requires.2 in
    examined_comes g.B.Build.may _ c.args.self.now.book.history.entries _ _
    (subst (MayBeFound g.B.Build.may c.requires.0 c.args.lease.job) c.in-Examined.is c.requires.1)
    (stays c.args.lease.number)

pub fail-requires-after_bounds : goal.fail-requires-after_bounds
fail-requires-after_bounds g c κs within =
    unanswered_comes _ _ c.args.self.now.book.history.entries _ _
    (subst (MayBeFound g.B.Build.may c.requires.0 c.args.lease.job) c.in-Unanswered.is c.requires.1)
