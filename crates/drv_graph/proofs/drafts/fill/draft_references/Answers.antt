use Rattle.std.proofs.Common.{rules}
use Rattle.drv_graph.proofs.FillAnswers.{stray_draft}
use Rattle.drv_graph.proofs.drafts.fill.draft_references.Goals as goal

pub returns-in-Err : goal.returns-in-Err
returns-in-Err c = search (rules, stray_draft)
