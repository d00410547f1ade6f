use Rattle.std.proofs.Common.{rules}
use Rattle.nix_names.specs.Names.{is_name}
use Rattle.drv_graph.proofs.Counting.{fill_counted, target_counted, text_counted}
use Rattle.drv_graph.proofs.InStore.{inputs_in_store}
use Rattle.drv_graph.proofs.FillAnswers.{fill_refused, filling_right, load_refused, text_refused}
use Rattle.drv_graph.proofs.Ends.{err_is}
use Rattle.drv_graph.proofs.drafts.fill.fill_outputs_as.Goals as goal

pub load_inputs-requires : goal.load_inputs-requires
load_inputs-requires g c = search (rules, inputs_in_store)

pub own_path-requires-clause-named : goal.own_path-requires-clause-named
own_path-requires-clause-named g c = search (rules, is_name)

pub returns-in_err-target-clause-device : goal.returns-in_err-target-clause-device
returns-in_err-target-clause-device g c = search (rules, err_is, target_counted)

pub returns-in_err-filled-clause-device : goal.returns-in_err-filled-clause-device
returns-in_err-filled-clause-device g c = search (rules, err_is, fill_counted)

pub returns-in_err-path-clause-device : goal.returns-in_err-path-clause-device
returns-in_err-path-clause-device g c = search (rules, err_is, text_counted)

pub returns-in_err-plan-clause-filling : goal.returns-in_err-plan-clause-filling
returns-in_err-plan-clause-filling g c = rw (err_is _ _ c.from_residual-in_err-plan.ensures.1)
    (load_refused _ (g.S.DrvSource.gives _) _
    _ _ c.in_ok-target.ensures.ok _ _
    c.in_err-plan.ensures.loading)

pub returns-in_err-filled-clause-filling : goal.returns-in_err-filled-clause-filling
returns-in_err-filled-clause-filling g c = rw (err_is _ _ c.from_residual-in_err-filled.ensures.1)
    (fill_refused _ (g.S.DrvSource.gives _) _
    _ _ c.in_ok-target.ensures.ok _
    c.in_ok-plan.ensures.loading
    _ c.in_err-filled.ensures.err)

pub returns-in_err-path-clause-filling : goal.returns-in_err-path-clause-filling
returns-in_err-path-clause-filling g c = rw (err_is _ _ c.from_residual-in_err-path.ensures.1)
    (text_refused _ (g.S.DrvSource.gives _) _
    _ _ c.in_ok-target.ensures.ok _
    c.in_ok-plan.ensures.loading
    _ c.in_ok-filled.ensures.ok _
    c.in_err-path.ensures.err)

pub returns-clause-filling : goal.returns-clause-filling
returns-clause-filling g c =
    filling_right _ (g.S.DrvSource.gives _) _
    _ _ c.in_ok-target.ensures.ok _
    c.in_ok-plan.ensures.loading
    _ c.in_ok-filled.ensures.ok _ c.in_ok-path.ensures.ok
