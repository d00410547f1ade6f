-- What the specifiers so far name stands there.
use Rattle.std.proofs.Common.{map, take}
use Rattle.build_outcome.specs.private.Listing.{AreListedSoFar}
use Rattle.build_outcome.proofs.checks.specifiers.paths_listed.Given as goal

abbrev pub invariant-loop-specifier : goal.invariant-loop-specifier
invariant-loop-specifier l = AreListedSoFar l.job l.own
    (map (λ t. t.now) (take l.specifier-index l.list)) l.named.items
