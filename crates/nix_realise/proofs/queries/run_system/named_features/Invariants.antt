use Rattle.std.proofs.Common.{◌≡◌, map}
use Rattle.nix_drv.specs.Parts.{bytes_of}
use Rattle.nix_realise.proofs.queries.run_system.named_features.Given as goal

-- the features so far
abbrev pub invariant-loop-word : goal.invariant-loop-word
invariant-loop-word l = map bytes_of l.features.items ≡ map (λ w. w.now) l.yielded
