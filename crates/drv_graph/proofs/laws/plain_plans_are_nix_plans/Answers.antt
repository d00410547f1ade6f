use Rattle.drv_graph.proofs.Profiles as profiles
use Rattle.drv_graph.proofs.laws.plain_plans_are_nix_plans.Goals as goal

pub returns : goal.returns
returns g c = profiles.plain_plans_are_nix_plans (g.S.DrvSource.gives c.args.source.now)
