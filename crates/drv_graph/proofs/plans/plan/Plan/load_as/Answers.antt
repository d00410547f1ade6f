use Rattle.std.proofs.Common.{◌≡◌, ◌∙◌, refl, subst, sym}
use Rattle.drv_graph.specs.Plans.{IsPlan}
use Rattle.drv_graph.specs.PlanNodes.{AreKept, nodes_of}
use Rattle.drv_graph.specs.SoundGraphs.{IsSound}
use Rattle.drv_graph.proofs.Loaded.{plan_found, sound_found}
use Rattle.drv_graph.proofs.plans.plan.Plan.load_as.Goals as goal

pub invariant_of-result : goal.invariant_of-result
invariant_of-result g c =
    let same : c.in_ok-roots.roots.items ≡ c.in_ok-found.field-0.roots.keys =
    c.in_ok-roots.ensures.items ∙ c.as_slice.ensures.keys in
    subst (λ numbers. AreKept c.in_ok-found.field-0.found.nodes.items
    × IsSound
    (record {
      profile = c.args.profile;
      nodes = nodes_of c.in_ok-found.field-0.found.nodes.items;
      roots = numbers;
    }))
    (sym same)
    (sound_found _ (g.S.DrvSource.gives _) _
    _ _ c.in_ok-found.ensures.walking)

pub returns-clause-loading : goal.returns-clause-loading
returns-clause-loading g c = (
  let same : c.in_ok-roots.roots.items ≡ c.in_ok-found.field-0.roots.keys =
      c.in_ok-roots.ensures.items ∙ c.as_slice.ensures.keys in
      subst
      (λ numbers. IsPlan c.args.dir.now (g.S.DrvSource.gives c.args.source.now) c.args.roots.now
      (record {
        profile = c.args.profile;
        nodes = nodes_of c.in_ok-found.field-0.found.nodes.items;
        roots = numbers;
      }))
      (sym same)
      (plan_found _ (g.S.DrvSource.gives _) _
      _ _ c.in_ok-found.ensures.walking),
  refl,
)
