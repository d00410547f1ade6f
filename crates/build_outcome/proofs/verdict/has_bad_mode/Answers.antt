use Rattle.std.proofs.lemmas.Bool.{false≢true}
use Rattle.build_outcome.proofs.Judgings.{mode_known, mode_missing}
use Rattle.build_outcome.proofs.verdict.has_bad_mode.Goals as goal

pub returns-in-Ok : goal.returns-in-Ok
returns-in-Ok c permitted answer is below =
    mode_known c.args.job.now permitted answer c.args.outputs.now is c.args.n _ _ below
    c.in-Nix.is c.in-Ok.ensures.there (c.others_may_write.ensures c.args.job.now permitted)

pub returns-in-Err : goal.returns-in-Err
returns-in-Err c permitted answer is below = (
  λ no. absurd (false≢true no),
  λ bad. absurd (mode_missing c.args.job.now permitted answer c.args.outputs.now is c.args.n _
      below c.in-Err.ensures.missing bad),
)
