use Rattle.std.proofs.Common.{◌∙◌, sym}
use Rattle.process_build.proofs.HeardOutputs.{end_examined}
use Rattle.process_build.proofs.process.process_end.HeardBuild.examined.Goals as goal

pub returns : goal.returns
returns c =
    let heard = c.requires.heard in
    end_examined _ _ _ _ _ (c.examine_heard.ensures heard.lefts heard.heard)
    (λ zero. heard.of_good (sym c.code.ensures ∙ zero))
    (λ other. heard.of_bad (λ zero. other (c.code.ensures ∙ zero)))
