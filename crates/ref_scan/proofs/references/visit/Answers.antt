use Rattle.std.proofs.Common.{◌∙◌, ap, sym}
use Rattle.ref_scan.specs.Trees.{entry_count, pieces}
use Rattle.ref_scan.specs.private.Walk.{count_below, pieces_below}
use Rattle.ref_scan.proofs.Folders.{count_dir, pieces_dir}
use Rattle.ref_scan.proofs.Walking.{folder_visited}
use Rattle.ref_scan.proofs.references.visit.Goals as goal

pub returns-in_ok-push-in-Dir-clause-folders : goal.returns-in_ok-push-in-Dir-clause-folders
returns-in_ok-push-in-Dir-clause-folders c =
    folder_visited _ _ _ _ c.as_slice.result c.in_ok-push-in-Dir.ensures.items
    (ap pieces c.in-Dir.is ∙ pieces_dir c.in-Dir.members
    ∙ ap pieces_below (sym c.as_slice.ensures.value))
    (ap entry_count c.in-Dir.is ∙ count_dir c.in-Dir.members
    ∙ ap count_below (sym c.as_slice.ensures.value))
