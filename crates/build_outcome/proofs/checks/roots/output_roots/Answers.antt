use Rattle.std.proofs.Common.{◌∙◌}
use Rattle.build_outcome.proofs.RootPaths.{roots_of_job}
use Rattle.build_outcome.proofs.checks.roots.output_roots.Goals as goal

pub returns : goal.returns
returns c = roots_of_job c.args.job.now c.deref-2.result.now c.records.result.now
    c.args.checked.now c.args.n c.roots_among.result
    (c.deref-2.ensures.value ∙ rw c.deref.ensures.value at c.in_ok-outputs.ensures.paths) c.records.ensures c.roots_among.ensures
