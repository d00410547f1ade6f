use Rattle.std.proofs.Common.{arith, refl}
use Rattle.digest_lanes.proofs.LaneLemmas.{lane_eight, lane_of_same}
use Rattle.digest_lanes.proofs.rounds.round.Goals as goal

pub returns : goal.returns
returns c j h =
    rw (
      lane_eight c.args.v j (omega arith),
      c.add-3.ensures j h,
      c.add-4.ensures j h,
      c.add-temp1.ensures j h,
      c.add-temp2.ensures j h,
      c.add-2.ensures j h,
      c.add-sum.ensures j h,
      c.add.ensures j h,
      c.ch.ensures j h,
      c.maj.ensures j h,
      c.big_sigma0.ensures j h,
      c.big_sigma1.ensures j h,
      lane_of_same c.args.k j h,
    ) refl
