use Rattle.std.proofs.Common.{◌≡◌, ◌*◌, length, take}
use Rattle.sha2.specs.Sha256.{digest_bytes}
use Rattle.digest_lanes.specs.private.Lanes.{lane}
use Rattle.digest_lanes.proofs.texts.lane_bytes.Given as goal

abbrev pub invariant-words : goal.invariant-words
invariant-words l = (length l.out ≡ 32) × (take (4 * l.i) l.out ≡ digest_bytes (lane l.j l.state) l.i)
