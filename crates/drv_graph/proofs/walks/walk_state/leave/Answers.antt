use Rattle.std.proofs.Common.{◌∙◌, refl, subst, sym, rules}
use Rattle.std.specs.Prelude.{All}
use Rattle.nix_names.specs.StorePaths.{IsPathOf}
use Rattle.nix_drv.proofs.Indices.{outputs_rise}
use Rattle.drv_graph.specs.PlanNodes.{AreKept}
use Rattle.drv_graph.specs.private.Owners.{owned}
use Rattle.drv_graph.proofs.InStore.{outputs_in_store}
use Rattle.drv_graph.proofs.Leaving.{checking_right, leaving_clash, leaving_kept, outputs_are, parts_outputs, parts_sources}
use Rattle.drv_graph.proofs.OwnOutputs.{own_outputs}
use Rattle.drv_graph.proofs.Ends.{err_is}
use Rattle.drv_graph.proofs.walks.walk_state.leave.Goals as goal

pub check_visit-requires-clause-kept : goal.check_visit-requires-clause-kept
check_visit-requires-clause-kept c =
    subst AreKept (sym c.deref.ensures.value) c.requires.found.kept

pub known_paths-requires : goal.known_paths-requires
known_paths-requires c =
    let lent = parts_outputs c.parts-parts.result.now _ _
    c.parts-parts.ensures.parts c.deref-2.ensures.value in
    subst (All (IsPathOf _))
    (sym (outputs_are _ c.args.visit.drv
    _ lent refl))
    (outputs_in_store _ _
    _ _
    (checking_right _ _ _ c.args.visit
    _ _ c.deref.ensures.value c.in_ok-kind.ensures).0)

pub known_paths-requires-2 : goal.known_paths-requires-2
known_paths-requires-2 c = search (rules, parts_sources)

pub own-requires-clause-kept : goal.own-requires-clause-kept
own-requires-clause-kept c =
    subst AreKept (sym c.deref-4.ensures.value) c.requires.found.kept

pub own-requires-clause-distinct : goal.own-requires-clause-distinct
own-requires-clause-distinct c =
    search (rules, outputs_are, parts_outputs, own_outputs, checking_right, outputs_rise)

pub returns-in_err-first : goal.returns-in_err-first
returns-in_err-first c = rw (err_is _ _ c.from_residual-in_err-first.ensures.1)
    (leaving_clash _ _ _ c.args.visit
    _ (owned c.own.new.owners) _ _
    (checking_right _ _ _ c.args.visit
    _ _ c.deref.ensures.value c.in_ok-kind.ensures).0
    c.deref-4.ensures.value
    (c.deref-5.ensures.value
    ∙ outputs_are _ c.args.visit.drv _
    (parts_outputs c.parts-parts.result.now _ _
    c.parts-parts.ensures.parts c.deref-2.ensures.value) c.in_ok-outputs.ensures.ok)
    c.in_err-first.ensures)

pub returns : goal.returns
returns c =
    let lent = parts_outputs c.parts-parts.result.now _ _
    c.parts-parts.ensures.parts c.deref-2.ensures.value in
    leaving_kept _ _ _ c.args.visit
    _ _ c.in_ok-outputs.outputs c.in_ok-sources.sources _ _ _ (owned c.own.new.owners)
    c.requires.found c.requires.visit c.requires.walked c.requires.is_new
    (checking_right _ _ _ c.args.visit
    _ _ c.deref.ensures.value c.in_ok-kind.ensures)
    (outputs_are _ c.args.visit.drv
    _ lent c.in_ok-outputs.ensures.ok)
    (search (rules, parts_sources))
    c.deref-4.ensures.value c.deref-5.ensures.value
    (search (rules, outputs_rise)) c.in_ok-first.ensures
    c.in_ok-add_node.ensures.nodes (search rules)
    c.in_ok-add_node.ensures.marks c.in_ok-add_node.ensures.count
