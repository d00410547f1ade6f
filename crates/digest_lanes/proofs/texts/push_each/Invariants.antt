use Rattle.std.proofs.Common.{◌≡◌, ◌++◌, map, take}
use Rattle.sha2.specs.Sha256.{sha256}
use Rattle.digest_lanes.proofs.texts.push_each.Given as goal

abbrev pub invariant-loop-text : goal.invariant-loop-text
invariant-loop-text g l =
    l.out.items ≡ l.fn.out.items ++ map (λ text. sha256 (g.T.AsSlice.items text)) (take l.text-index l.texts)
