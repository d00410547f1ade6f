use Rattle.std.proofs.Common.{arith, slice_index}
use Rattle.digest_lanes.proofs.LaneLemmas.{lane_fits}
use Rattle.digest_lanes.proofs.Rotations.{rotated_three}
use Rattle.digest_lanes.proofs.functions.big_sigma1.Goals as goal

pub returns : goal.returns
returns c j h =
    rw (
      c.rotate_right-3.ensures j h,
      c.xor.ensures j h,
      c.rotate_right-2.ensures j h,
      c.xor-inner.ensures j h,
      c.rotate_right.ensures j h,
    )
    (rotated_three 32 (slice_index c.args.x j) 6 5 14 (omega arith) (lane_fits c.args.x j c.fits-x.0 c.fits-x.1 h))
