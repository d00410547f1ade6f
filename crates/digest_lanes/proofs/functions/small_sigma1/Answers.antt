use Rattle.std.proofs.Common.{◌/◌, ◌^◌, ap, arith, bit_xor, slice_index}
use Rattle.digest_lanes.proofs.LaneLemmas.{lane_fits}
use Rattle.digest_lanes.proofs.Rotations.{rotated_two}
use Rattle.digest_lanes.proofs.functions.small_sigma1.Goals as goal

pub returns : goal.returns
returns c j h =
    let x = slice_index c.args.x j in
    rw (
      c.xor-2.ensures j h,
      c.shift_right.ensures j h,
      c.rotate_right-2.ensures j h,
      c.xor.ensures j h,
      c.rotate_right.ensures j h,
    )
    (ap (λ y. bit_xor y (x / 2 ^ 10)) (rotated_two 32 x 17 2 (omega arith) (lane_fits c.args.x j c.fits-x.0 c.fits-x.1 h)))
