use Rattle.std.proofs.Common.{◌≡◌, Some}
use Rattle.std.specs.Prelude.{slice_get}
use Rattle.nix_drv.specs.Derivation.{Input}
use Rattle.sched_core.specs.private.Following.{IsRest}
use Rattle.sched_core.proofs.SeedParts.{first_named}
use Rattle.sched_core.proofs.has_seeds.rest_after_used.Given as goal

abbrev pub invariant-loop-n : goal.invariant-loop-n
invariant-loop-n l = (input : Input) → slice_get l.drv.inputs l.index ≡ Some input
    → IsRest l.seeds (first_named input.names l.used.outputs l.n) l.left
