-- The first references were added.
use Rattle.std.proofs.Common.{◌≡◌, ◌∷◌, ◌++◌, flat_map, take}
use Rattle.builder_start.proofs.addresses.kind_with.Given as goal

abbrev pub invariant-references : goal.invariant-references
invariant-references l =
    l.text.items ≡ l.kind ++ flat_map (λ path. 58 ∷ path) (take l.path-index l.references)
