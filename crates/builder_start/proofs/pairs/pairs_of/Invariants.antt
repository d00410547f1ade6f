use Rattle.std.proofs.Common.{◌≡◌, length, map}
use Rattle.structured_attrs.proofs.Gathered.{gathered}
use Rattle.builder_start.specs.Entries.{pairs_of}
use Rattle.builder_start.specs.private.Shown.{shown_pair}
use Rattle.builder_start.proofs.pairs.pairs_of.Given as goal

-- the pairs so far and those of the tokens that are left are the pairs of all
abbrev pub invariant-pairs : goal.invariant-pairs
invariant-pairs l = gathered (map shown_pair l.pairs.items) (pairs_of (map (λ t. t.now) l.rest))
    ≡ pairs_of (map (λ t. t.now) l.tokens)

abbrev pub decreases-pairs : goal.decreases-pairs
decreases-pairs l = length l.rest
