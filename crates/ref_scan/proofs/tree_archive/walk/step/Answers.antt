use Rattle.std.proofs.Common.{◌∙◌, ap, arith, subst}
use Rattle.ref_scan.specs.private.Telling.{entry_end, folders_of}
use Rattle.ref_scan.proofs.Orders.{folders_last}
use Rattle.ref_scan.proofs.Tellings.{step_end, step_member}
use Rattle.ref_scan.proofs.tree_archive.walk.step.Goals as goal

pub returns-in_default : goal.returns-in_default
returns-in_default g c =
    step_end g.H.Hear.heard g.met.H.Hear.joins _ c.hear.new.self _ c.args.order.items
    (folders_of c.args.folders.now.items) (omega (arith, c.in_default.ensures.cases))
    c.in_ok-hear.ensures
    (subst (λ l. g.H.Hear.heard c.hear.new.self (entry_end (folders_of l)) c.end_entry.new.hearer)
    c.deref.ensures.value c.in_ok-end_entry.ensures)

pub returns : goal.returns
returns g c =
    step_member g.H.Hear.heard g.met.H.Hear.joins _ c.hear-2.new.self _ c.args.order.items
    c.pop.new.self.items c.in-Some.member c.deref-2.result.now
    (folders_of c.args.folders.now.items) (folders_of c.push.new.self.items)
    (folders_of c.visit.new.folders.items) c.in_ok-told.told c.in-Some.ensures.items
    (ap folders_of c.in_ok-push.ensures.items ∙ folders_last c.args.folders.now.items c.pop.new.self)
    c.deref-2.ensures.value c.in_ok-hear-2.ensures c.in_ok-told.ensures
