use Rattle.std.proofs.Common.{◌≡◌, ℕ, List, drop, map}
use Rattle.std.specs.List.{list_any}
use Rattle.nix_names.specs.Names.{same_bytes}
use Rattle.builder_start.specs.private.Shown.{shown_pair}
use Rattle.builder_start.proofs.pairs.is_named.Given as goal

-- the pairs that are left have the answer of all
abbrev pub invariant-pairs : goal.invariant-pairs
invariant-pairs l =
    list_any (λ (other : List ℕ × List ℕ). same_bytes other.0 l.name) (map shown_pair (drop l.pair-index l.pairs))
    ≡ list_any (λ (other : List ℕ × List ℕ). same_bytes other.0 l.name) (map shown_pair l.pairs)
