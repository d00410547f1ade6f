use Rattle.store_run.proofs.RunJournals.{journals_of_runs_are_read, kept_texts_are_read, left_journals_are_read}
use Rattle.store_run.proofs.laws.journals_of_runs_are_read.Goals as goal

pub returns-clause-histories : goal.returns-clause-histories
returns-clause-histories g c = journals_of_runs_are_read g.B.Build.may g.S.DrvSource.gives

pub returns-clause-kept : goal.returns-clause-kept
returns-clause-kept g c =
    kept_texts_are_read g.B.Build.may g.S.DrvSource.gives
    (g.J.Showing.shown g.J.ListId.book)

pub returns-clause-left : goal.returns-clause-left
returns-clause-left g c = left_journals_are_read g.B.Build.may g.S.DrvSource.gives
