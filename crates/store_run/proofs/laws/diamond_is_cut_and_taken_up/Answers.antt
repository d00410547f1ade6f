use Rattle.store_run.proofs.DiamondRuns.{base_reused, is_taken_up, left_reused, right_broken, right_built, top_built}
use Rattle.store_run.proofs.laws.diamond_is_cut_and_taken_up.Goals as goal

pub returns-clause-taken_up : goal.returns-clause-taken_up
returns-clause-taken_up c = is_taken_up

pub returns-clause-failed : goal.returns-clause-failed
returns-clause-failed c = right_broken

pub returns-clause-base : goal.returns-clause-base
returns-clause-base c = base_reused

pub returns-clause-left : goal.returns-clause-left
returns-clause-left c = left_reused

pub returns-clause-right : goal.returns-clause-right
returns-clause-right c = right_built

pub returns-clause-top : goal.returns-clause-top
returns-clause-top c = top_built
