use Rattle.std.proofs.Common.{◌≡◌, ℕ, [], ◌<◌, ◌*◌, length, slice_index, slice_index_or}
use Rattle.sha2.specs.Sha256.{IsRoundsAt, word_at}
use Rattle.digest_lanes.specs.private.Lanes.{lane, one_of}
use Rattle.digest_lanes.proofs.rounds.compress.Given as goal

abbrev pub invariant-load : goal.invariant-load
invariant-load l = (length l.w ≡ 16) × ((j k : ℕ) → j < 4 → k < l.i
    → slice_index (slice_index_or l.w k []) j ≡ word_at (one_of l.a l.b l.c l.d j) (4 * k))

abbrev pub invariant-schedule : goal.invariant-schedule
invariant-schedule l = (j : ℕ) → j < 4
    → IsRoundsAt (one_of l.a l.b l.c l.d j) (lane j l.state) (lane j l.w) (lane j l.v) (16 * l.turn)
