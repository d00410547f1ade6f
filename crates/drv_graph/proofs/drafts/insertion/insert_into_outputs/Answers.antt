use Rattle.std.proofs.Common.{rules}
use Rattle.std.proofs.lemmas.Option.{slice_get_read}
use Rattle.drv_graph.proofs.InsertedPaths.{inserted_more}
use Rattle.drv_graph.proofs.drafts.insertion.insert_into_outputs.Goals as goal

pub loop-index-preserved : goal.loop-index-preserved
loop-index-preserved c = search (rules, inserted_more, slice_get_read)
