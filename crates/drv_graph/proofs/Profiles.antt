-- Plans under different profiles.
use Rattle.std.proofs.Common.{◌≡◌, ℕ, List, subst}
use Rattle.nix_drv.specs.Sources.{Answer}
use Rattle.drv_graph.specs.Nodes.{Node}
use Rattle.drv_graph.specs.Plans.{IsLawful}
use Rattle.drv_graph.specs.ProfileLaws.{PlainPlansAreNixPlans}
use Rattle.drv_graph.specs.declared.profile.Profile.{Profile}
use Rattle.drv_graph.specs.declared.profile.Profile.TheVariants.{Plain, Nix}

-- what is lawful under `plain` is lawful under `nix`, which takes each kind
lawful_by_nix : (dir : List ℕ) (before : List Node) (node : Node) → IsLawful Plain dir before node
    → IsLawful Nix dir before node
lawful_by_nix dir before node lawful =
    let check = lawful.right.check in
    record {
      kind = lawful.kind;
      right = record {
        used = lawful.right.used;
        hashes = lawful.right.hashes;
        are_used = lawful.right.are_used;
        are_hashes = lawful.right.are_hashes;
        check = (
          record {
            has_kind = check.0.has_kind;
            taken = tt;
            named = check.0.named;
            known = check.0.known;
          },
          check.1,
          check.2,
        );
      };
      apart = lawful.apart;
    }

pub plain_plans_are_nix_plans : (gives : List ℕ → Answer → Type 0) → PlainPlansAreNixPlans gives
plain_plans_are_nix_plans gives dir roots graph plan plain = record {
  given = plan.given;
  in_order = plan.in_order;
  reached = plan.reached;
  whole = plan.whole;
  lawful = λ before after node parts.
      lawful_by_nix dir before node
      (subst (λ (p : Profile). IsLawful p dir before node) plain
      (plan.lawful before after node parts));
  few = plan.few;
  is_roots = plan.is_roots;
}
