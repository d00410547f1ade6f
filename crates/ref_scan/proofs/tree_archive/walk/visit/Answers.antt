use Rattle.std.proofs.Common.{◌∙◌, ap, subst}
use Rattle.ref_scan.specs.private.Telling.{entry_end, folders_of}
use Rattle.ref_scan.proofs.Orders.{folders_last}
use Rattle.ref_scan.proofs.Tellings.{visit_begun, visit_heard}
use Rattle.ref_scan.proofs.tree_archive.walk.visit.Goals as goal

pub returns-in_ok-end_entry-in-Heard : goal.returns-in_ok-end_entry-in-Heard
returns-in_ok-end_entry-in-Heard g c =
    visit_heard g.H.Hear.heard g.met.H.Hear.joins _ c.tell_node.new.hearer _ c.args.tree.now
    (folders_of c.args.folders.now.items) (rw c.in-Heard.is at c.in_ok-tell_node.ensures)
    (subst
    (λ l. g.H.Hear.heard c.tell_node.new.hearer (entry_end (folders_of l)) c.end_entry.new.hearer)
    c.deref.ensures.value c.in_ok-end_entry-in-Heard.ensures)

pub returns-in_ok-push-in-Begun : goal.returns-in_ok-push-in-Begun
returns-in_ok-push-in-Begun g c =
    visit_begun g.H.Hear.heard _ _ c.args.tree.now (folders_of c.args.folders.now.items) _
    c.in-Begun.order
    (ap folders_of c.in_ok-push-in-Begun.ensures.items
    ∙ folders_last c.args.folders.now.items c.in-Begun.order)
    (rw c.in-Begun.is at c.in_ok-tell_node.ensures)
