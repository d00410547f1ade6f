use Rattle.std.proofs.Common.{subst, rules}
use Rattle.std.specs.List.{AllZip}
use Rattle.drv_graph.specs.private.Walks.{IsUsed}
use Rattle.drv_graph.proofs.UsedNodes.{check_right, check_wrong, kept_within, used_paths}
use Rattle.drv_graph.proofs.walks.walk_state.check_visit.Goals as goal

pub used_inputs-requires : goal.used_inputs-requires
used_inputs-requires c = search (rules, kept_within)

pub check_outputs-requires : goal.check_outputs-requires
check_outputs-requires c = search (rules, used_paths)

pub modulo_hash-requires-clause-paths : goal.modulo_hash-requires-clause-paths
modulo_hash-requires-clause-paths c = search (rules, used_paths)

pub returns-in-Ok : goal.returns-in-Ok
returns-in-Ok c =
    let zip = subst (λ ns. AllZip (IsUsed c.args.kept.now) ns c.in_ok-used.used.items)
    c.deref.ensures.value c.in_ok-used.ensures.ok in
    check_right _ _ c.args.visit.now _
    _ _ _ _
    _ c.requires.kept c.requires.numbers zip c.drv_name-name.ensures
    c.deref-2.ensures.value c.in-Ok.ensures c.deref-in-Ok.ensures.value
    c.in_ok-hash-in-Ok.ensures

pub returns : goal.returns
returns c = search (rules, check_wrong)
