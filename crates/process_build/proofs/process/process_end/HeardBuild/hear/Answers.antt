use Rattle.std.proofs.Common.{◌≡◌, false, true}
use Rattle.process_build.proofs.HeardOutputs.{all_heard, none_heard}
use Rattle.process_build.proofs.process.process_end.HeardBuild.hear.Goals as goal

pub returns-then-is_good-clause-good : goal.returns-then-is_good-clause-good
returns-then-is_good-clause-good g c =
    all_heard _ _ _ (c.is_good.ensures.0 c.if-is_good.true) c.in_ok-outputs.ensures.heard

pub returns-clause-good : goal.returns-clause-good
returns-clause-good g c =
    none_heard _ _ _ (λ zero. let e = c.is_good.ensures.1 zero in
    let f = c.if-is_good.false in absurd cc) c.new-outputs.ensures.items
