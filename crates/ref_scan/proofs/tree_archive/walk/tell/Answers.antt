use Rattle.std.proofs.Common.{◌∙◌, ap, arith}
use Rattle.ref_scan.specs.private.Telling.{folders_of}
use Rattle.ref_scan.proofs.Orders.{folders_last, no_folders}
use Rattle.ref_scan.proofs.Tellings.{walk_ended, walk_on, walk_refused}
use Rattle.ref_scan.proofs.tree_archive.walk.tell.Goals as goal

pub steps-preserved : goal.steps-preserved
steps-preserved g c =
    walk_on g.H.Hear.heard g.met.H.Hear.joins _ c.steps.hearer _ c.args.tree.now
    (folders_of c.steps.folders.items) _ _
    (ap folders_of c.in-Some.ensures.items ∙ folders_last c.pop.new.self.items c.in-Some.order)
    c.steps.invariant (rw c.in-Whole-2.is at c.in_ok-step.ensures)

pub returns-in-NoArchive-2 : goal.returns-in-NoArchive-2
returns-in-NoArchive-2 g c =
    walk_refused g.H.Hear.heard _ c.steps.hearer c.step.new.hearer c.args.tree.now
    (folders_of c.steps.folders.items) _ (folders_of c.step.new.folders.items)
    (ap folders_of c.in-Some.ensures.items ∙ folders_last c.pop.new.self.items c.in-Some.order)
    c.steps.invariant (rw c.in-NoArchive-2.is at c.in_ok-step.ensures)

pub returns : goal.returns
returns g c =
    walk_ended g.H.Hear.heard _ _ c.args.tree.now (folders_of c.steps.folders.items)
    (no_folders c.steps.folders.items (omega (arith, c.in_default.ensures.cases))) c.steps.invariant
