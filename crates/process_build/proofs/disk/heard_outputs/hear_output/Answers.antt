use Rattle.std.proofs.Common.{◌≡◌, None, Some, All, subst}
use Rattle.nix_archive.specs.Tokens.{tokens_of}
use Rattle.process_build.specs.Walks.{IsToldUnder}
use Rattle.build_outcome.specs.declared.reason.Reason.TheVariants.{TooLarge}
use Rattle.process_build.proofs.HeardOutputs.{limited_kept, not_kept}
use Rattle.process_build.proofs.disk.heard_outputs.hear_output.Goals as goal

pub returns-in_default-clause-heard : goal.returns-in_default-clause-heard
returns-in_default-clause-heard g c = record { left = None; of_profile = tt; heard = tt }

pub returns-in-Ok-clause-heard : goal.returns-in-Ok-clause-heard
returns-in-Ok-clause-heard g c =
    let told = c.in_ok-tell.ensures.told in
    record {
      left = Some (record {
        tree = told.tree;
        others_may_write = c.others_may_write_at-others_may_write.result;
      });
      of_profile = record {
        archivable = told.archivable;
        may_be_told = subst (λ p. All (IsToldUnder p) (tokens_of told.tree))
            c.new-walk.ensures.profile told.hears.1;
      };
      heard = c.in-Ok.ensures.kept _ _ _ told.tree c.in_ok-hearer.ensures told.hears.0
          told.archivable;
    }

pub returns-in-Err-clause-bad : goal.returns-in-Err-clause-bad
returns-in-Err-clause-bad g c =
    let told = c.in_ok-tell.ensures.told in
    not_kept c.args.job.now told.tree _
    (c.in-Err.ensures.err _ _ _ told.tree c.in_ok-hearer.ensures told.hears.0)

pub returns-in-Err-clause-limited : goal.returns-in-Err-clause-limited
returns-in-Err-clause-limited g c = λ large.
    let told = c.in_ok-tell.ensures.told in
    let is : c.in-Err.why ≡ TooLarge = cc in
    limited_kept c.args.job.now told.tree _
    (c.in-Err.ensures.err _ _ _ told.tree c.in_ok-hearer.ensures told.hears.0) is
