use Rattle.std.proofs.Common.{◌≡◌, length}
use Rattle.std.specs.Prelude.{All}
use Rattle.nix_realise.proofs.runs.builders.make_all.Given as goal

-- a builder for each round, in the options
abbrev pub invariant-loop : goal.invariant-loop
invariant-loop g l =
    (length l.builders.items ≡ l.counter)
    × All (λ b. g.M.Builders.builds_in b l.options) l.builders.items
