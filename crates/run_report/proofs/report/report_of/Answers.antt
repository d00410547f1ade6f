use Rattle.std.proofs.Common.{◌∙◌}
use Rattle.run_report.proofs.report.report_of.Goals as goal

pub returns : goal.returns
returns c = rw (c.deref.ensures.value ∙ c.in_ok-wanted.ensures.marks) at c.told.ensures
