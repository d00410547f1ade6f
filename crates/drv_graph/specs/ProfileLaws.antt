-- What holds of plans under different profiles.
use Rattle.std.specs.Prelude.{◌≡◌, List}
use Rattle.nix_names.specs.Bytes.{Dir, Path}
use Rattle.nix_drv.specs.Sources.{Answer}
use Rattle.drv_graph.specs.Plans.{Graph, IsPlan}
use Rattle.drv_graph.specs.declared.profile.Profile.TheVariants.{Plain, Nix}

-- by the answers of one source, a plan under `plain` is one under `nix`
abbrev pub PlainPlansAreNixPlans : (gives : Path → Answer → Type 0) → Type 0
PlainPlansAreNixPlans gives = (dir : Dir) (roots : List Path) (graph : Graph)
    → IsPlan dir gives roots graph → graph.profile ≡ Plain
    → IsPlan dir gives roots (record graph { profile = Nix })
