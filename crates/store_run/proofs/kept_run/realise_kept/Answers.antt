use Rattle.std.proofs.Common.{◌∙◌, ◌≤◌, subst, sym, vec_len}
use Rattle.store_run.specs.Builders.{answered_opening}
use Rattle.store_run.specs.Workers.{AreWorkers}
use Rattle.store_run.proofs.KeptTexts.{kept_of_run, version_of_book}
use Rattle.store_run.proofs.RunEndings.{are_workers, at_err, at_ok, shown_at_end}
use Rattle.store_run.proofs.kept_run.realise_kept.Given.{Over}
use Rattle.store_run.proofs.kept_run.realise_kept.Goals as goal

pub run_kept-shared-requires-clause-answered : goal.run_kept-shared-requires-clause-answered
run_kept-shared-requires-clause-answered g c κs within =
    rw c.in-Ok.ensures.opened (answered_opening c.args.journal.now.entries)

pub run_kept-shared-requires-clause-version : goal.run_kept-shared-requires-clause-version
run_kept-shared-requires-clause-version g c κs within = λ run opening is.
    version_of_book run c.in-Ok.opened.0.run opening c.in-Ok.opened.0.history.opening
    c.args.journal.now.entries is c.in-Ok.ensures.over.opening_is

pub run_kept-shared-requires-clause-each : goal.run_kept-shared-requires-clause-each
run_kept-shared-requires-clause-each g c κs within = λ run opening shown bytes is kept.
    c.requires.each shown bytes
    (kept_of_run g.B.Build.may (g.J.Showing.shown g.J.ListId.book) _ _ _ c.in-Ok.opened.0 run
    opening shown bytes c.in-Ok.ensures.over is kept)

-- there is a right number of workers
workers : (g : Over) (c : goal.After-hand_out g) → AreWorkers (vec_len c.args.builders)
workers g c =
    are_workers (vec_len c.args.builders) (sym c.is_empty.ensures ∙ c.if-is_empty.false)
    (subst (λ n. n ≤ 64) c.len.ensures c.if-len-gt-MOST_WORKERS.false)

pub returns-clause-ok : goal.returns-clause-ok
returns-clause-ok g c =
    at_ok g.B.Build.may c.args.plan.now c.args.system.now c.args.journal.now.entries
    (vec_len c.args.builders) (workers g c) c.run_kept-shared.result c.ending.ensures.legal
    c.ending.ensures.answered c.ending.result c.hand_out.result c.ending.ensures.end
    c.hand_out.ensures

pub returns-clause-err : goal.returns-clause-err
returns-clause-err g c =
    at_err g.B.Build.may c.args.plan.now c.args.system.now c.args.journal.now.entries
    (vec_len c.args.builders) (workers g c) c.run_kept-shared.result c.ending.ensures.legal
    c.ending.ensures.answered c.ending.result c.hand_out.result c.ending.ensures.end
    c.hand_out.ensures

pub returns-clause-shown : goal.returns-clause-shown
returns-clause-shown g c =
    shown_at_end (g.J.Showing.shown g.J.ListId.book) c.args.plan.now c.args.system.now
    c.args.journal.now.entries c.run_kept-shared.result c.ending.result c.hand_out.result
    c.shows.ensures c.ending.ensures.end c.hand_out.ensures
