use Rattle.std.proofs.Common.{Err, ap, arith}
use Rattle.process_build.proofs.PastLimits.{handed, past_after}
use Rattle.process_build.proofs.Walking.{file_told}
use Rattle.process_build.proofs.walk.file_bytes.tell_file.Goals as goal

pub returns-clause-told : goal.returns-clause-told
returns-clause-told g c =
    file_told _ g.met.H.Hear.joins _ _ _ _ _ _ _ _ (omega arith) c.in_ok-tell_event.ensures.told
    c.in_ok-tell_bytes.ensures.told c.in_ok-tell_event-2.ensures.told

pub returns-in_err-tell_bytes-clause-past : goal.returns-in_err-tell_bytes-clause-past
returns-in_err-tell_bytes-clause-past g c = λ large.
    past_after _ g.met.H.Hear.joins _ _ _ _ _ c.in_ok-tell_event.ensures.told
    (c.in_err-tell_bytes.ensures.past
    (ap Err (handed _ _ c.from_residual-in_err-tell_bytes.ensures.1 large)))

pub returns-in_err-tell_event-2-clause-past : goal.returns-in_err-tell_event-2-clause-past
returns-in_err-tell_event-2-clause-past g c = λ large.
    past_after _ g.met.H.Hear.joins _ _ _ _ _ c.in_ok-tell_event.ensures.told
    (past_after _ g.met.H.Hear.joins _ _ _ _ _ c.in_ok-tell_bytes.ensures.told.told.hears
    (c.in_err-tell_event-2.ensures.past
    (ap Err (handed _ _ c.from_residual-in_err-tell_event-2.ensures.1 large))))
