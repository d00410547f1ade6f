use Rattle.std.proofs.Common.{◌≡◌, ◌<◌, ℕ}
use Rattle.drv_graph.specs.Twins.{first_twin_of}
use Rattle.nix_realise.proofs.words.twins_line.has_twins.Given as goal

-- each derivation so far is the first with its outputs
abbrev pub invariant-numbers : goal.invariant-numbers
invariant-numbers l = (d : ℕ) → d < l.number → first_twin_of l.plan.nodes d ≡ d
