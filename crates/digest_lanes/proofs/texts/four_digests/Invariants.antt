use Rattle.std.proofs.Common.{◌≡◌, ℕ, [], ◌<◌, length, slice_index_or}
use Rattle.digest_lanes.specs.private.Lanes.{lane, one_of}
use Rattle.digest_lanes.proofs.Reached.{HasReached}
use Rattle.digest_lanes.proofs.texts.four_digests.Given as goal

abbrev pub invariant-turns : goal.invariant-turns
invariant-turns l = (length l.out ≡ 4) × ((j : ℕ) → j < 4
    → HasReached (one_of l.a l.b l.c l.d j) (lane j l.state) (slice_index_or l.out j []) l.i)
