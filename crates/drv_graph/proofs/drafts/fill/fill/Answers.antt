use Rattle.std.proofs.Common.{◌≡◌, ℕ, List, subst, inr, rules}
use Rattle.std.specs.List.{AllZip}
use Rattle.nix_drv.specs.Derivation.{Drv}
use Rattle.drv_graph.specs.Nodes.{Node, inputs_of}
use Rattle.drv_graph.specs.private.FillSteps.{AreOutputsRefused, AreUsed, IsFilledAfter}
use Rattle.drv_graph.specs.Plans.{AreNumbers}
use Rattle.drv_graph.specs.PlanNodes.{AreKept, nodes_of}
use Rattle.drv_graph.specs.private.UsedInputs.{drvs_of_uses, hashes_of}
use Rattle.drv_graph.specs.private.Walks.{IsUsed}
use Rattle.drv_graph.specs.declared.plans.node.PlanNode.{PlanNode}
use Rattle.drv_graph.specs.declared.outputs.output_checks.UsedInput.{UsedInput}
use Rattle.drv_graph.specs.declared.profile.Profile.{Profile}
use Rattle.drv_graph.proofs.Ends.{err_is}
use Rattle.drv_graph.proofs.FillAnswers.{are_used, filled_after, paths_long}
use Rattle.drv_graph.proofs.UsedNodes.{kept_within, used_paths}
use Rattle.drv_graph.proofs.drafts.fill.fill.Goals as goal

are_numbers : (kept : List PlanNode) (nodes : List Node) (numbers roots : List ℕ)
    (paths : List (List ℕ)) → nodes_of kept ≡ nodes → numbers ≡ roots
    → AreNumbers nodes roots paths → AreNumbers (nodes_of kept) numbers paths
are_numbers kept nodes numbers roots paths view same are = search rules

basis : (kept : List PlanNode) (nodes : List Node) (numbers roots : List ℕ)
    (used given : List UsedInput) (draft : Drv) → nodes_of kept ≡ nodes → numbers ≡ roots
    → AreNumbers nodes roots (inputs_of draft) → AreKept kept → AllZip (IsUsed kept) numbers used
    → given ≡ used → AreUsed nodes draft (drvs_of_uses given) (hashes_of given)
basis kept nodes numbers roots used given draft view same are right zip lent =
    subst (λ (ns : List Node). AreUsed ns draft (drvs_of_uses given) (hashes_of given)) view
    (are_used _ _ _ _ _ right
    (are_numbers _ _ _ _ _ view same are) zip lent)

pub used_inputs-requires : goal.used_inputs-requires
used_inputs-requires c = search (rules, kept_within, are_numbers)

pub draft_paths-requires : goal.draft_paths-requires
draft_paths-requires c = search (rules, used_paths, are_numbers)

pub returns-in_err-paths-clause-err : goal.returns-in_err-paths-clause-err
returns-in_err-paths-clause-err c =
    rw (err_is _ _ c.from_residual-in_err-paths.ensures.1)
    (inr (
      drvs_of_uses c.deref.result.now,
      hashes_of c.deref.result.now,
      basis _ _ _ _
          _ _ _ c.nodes.ensures.nodes
          c.roots.ensures c.requires c.nodes.ensures.kept c.in_ok-used.ensures.ok
          c.deref.ensures.value,
      subst
          (λ (p : Profile). AreOutputsRefused p c.args.dir.now c.args.name.now c.args.draft.now
          (drvs_of_uses c.deref.result.now) (hashes_of c.deref.result.now)
          c.in_err-paths.field-0.0) c.profile.ensures
          c.in_err-paths.ensures.err,
    ))

pub insert_paths-requires : goal.insert_paths-requires
insert_paths-requires c = paths_long _ _ _ _ _ _ _ c.in_ok-paths.ensures.ok c.deref-2.ensures.value

pub returns-clause-ok : goal.returns-clause-ok
returns-clause-ok c =
    subst
    (λ (p : Profile). IsFilledAfter p c.args.dir.now c.args.name.now c.args.plan.now.nodes
    c.args.draft.now c.in_ok-insert_paths.field-0) c.profile.ensures
    (filled_after _ _ _ _
    _ _ _
    _ _
    (basis _ _ _ _
    _ _ _ c.nodes.ensures.nodes
    c.roots.ensures c.requires c.nodes.ensures.kept c.in_ok-used.ensures.ok
    c.deref.ensures.value) c.in_ok-paths.ensures.ok c.deref-2.ensures.value
    c.in_ok-insert_paths.ensures)
