use Rattle.std.proofs.Common.{◌∙◌, ◌≤◌, subst, sym, vec_len}
use Rattle.store_run.specs.Builders.{answered_opening}
use Rattle.store_run.specs.Workers.{AreWorkers}
use Rattle.store_run.proofs.RunEndings.{are_workers, at_err, at_ok}
use Rattle.store_run.proofs.run.realise.Given.{Over}
use Rattle.store_run.proofs.run.realise.Goals as goal

pub run_book-shared-requires-after_bounds : goal.run_book-shared-requires-after_bounds
run_book-shared-requires-after_bounds g c κs within =
    rw c.in-Ok.ensures.opened (answered_opening c.args.journal.now.entries)

-- there is a right number of workers
workers : (g : Over) (c : goal.After-hand_out g) → AreWorkers (vec_len c.args.builders)
workers g c =
    are_workers (vec_len c.args.builders) (sym c.is_empty.ensures ∙ c.if-is_empty.false)
    (subst (λ n. n ≤ 64) c.len.ensures c.if-len-gt-MOST_WORKERS.false)

pub returns-clause-ok : goal.returns-clause-ok
returns-clause-ok g c =
    at_ok g.B.Build.may c.args.plan.now c.args.system.now c.args.journal.now.entries
    (vec_len c.args.builders) (workers g c) c.run_book-shared.result c.ending.ensures.legal
    c.ending.ensures.answered c.ending.result c.hand_out.result c.ending.ensures.end
    c.hand_out.ensures

pub returns-clause-err : goal.returns-clause-err
returns-clause-err g c =
    at_err g.B.Build.may c.args.plan.now c.args.system.now c.args.journal.now.entries
    (vec_len c.args.builders) (workers g c) c.run_book-shared.result c.ending.ensures.legal
    c.ending.ensures.answered c.ending.result c.hand_out.result c.ending.ensures.end
    c.hand_out.ensures
