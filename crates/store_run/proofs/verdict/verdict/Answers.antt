use Rattle.std.proofs.Common.{◌∙◌, List, Ok, Result, ap, inr, subst}
use Rattle.valid_table.specs.PathInfos.{PathInfo}
use Rattle.build_outcome.specs.Heard.{IsRunExamined}
use Rattle.build_outcome.specs.declared.reason.Reason.{Reason}
use Rattle.store_run.proofs.OutputClosures.{examined_well}
use Rattle.store_run.proofs.verdict.verdict.Goals as goal

pub tested-requires-clause-verdict : goal.tested-requires-clause-verdict
tested-requires-clause-verdict g c =
    let job = c.args.job.now in
    let permitted = c.args.permitted.now in
    let run = subst (IsRunExamined g.B.Build.may job permitted)
    (c.in-Ok-Ok.is ∙ ap Ok c.in-Ok-Ok.field-0-is) c.requires.examined in
    (run.0, examined_well job permitted run.0 c.in-Ok-Ok.checked run.2)

pub returns-in-Ok-Ok-clause-found : goal.returns-in-Ok-Ok-clause-found
returns-in-Ok-Ok-clause-found g c =
    let job = c.args.job.now in
    let permitted = c.args.permitted.now in
    let run = subst (IsRunExamined g.B.Build.may job permitted)
    (c.in-Ok-Ok.is ∙ ap Ok c.in-Ok-Ok.field-0-is) c.requires.examined in
    record {
      outcome = Ok run.0;
      given = inr run.1;
      by = c.tested.ensures run.0 (examined_well job permitted run.0 c.in-Ok-Ok.checked run.2);
    }
