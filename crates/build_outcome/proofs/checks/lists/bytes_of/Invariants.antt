-- The bytes of the strings so far.
use Rattle.std.proofs.Common.{◌≡◌, map, take}
use Rattle.std.specs.Prelude.{string_bytes}
use Rattle.build_outcome.proofs.checks.lists.bytes_of.Given as goal

abbrev pub invariant-loop-string : goal.invariant-loop-string
invariant-loop-string l = map (λ t. t.now) l.found.items
    ≡ map (λ s. string_bytes s) (take l.string-index l.string-items)
