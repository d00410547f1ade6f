use Rattle.std.proofs.Common.{◌≡◌, ◌++◌, map}
use Rattle.sha2.specs.Sha256.{sha256}
use Rattle.digest_lanes.proofs.texts.digests.Given as goal

abbrev pub invariant-loop-group : goal.invariant-loop-group
invariant-loop-group g l =
    l.out.items ++ map (λ text. sha256 (g.T.AsSlice.items text)) l.group-iterator.rest.now
    ≡ map (λ text. sha256 (g.T.AsSlice.items text)) l.texts
