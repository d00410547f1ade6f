use Rattle.std.proofs.Common.{arith, refl}
use Rattle.digest_lanes.proofs.LaneLemmas.{lane_eight}
use Rattle.digest_lanes.proofs.rounds.sums.Goals as goal

pub returns : goal.returns
returns c j h =
    rw (
      lane_eight c.args.state.now j (omega arith),
      lane_eight c.args.v j (omega arith),
      c.add.ensures j h,
      c.add-2.ensures j h,
      c.add-3.ensures j h,
      c.add-4.ensures j h,
      c.add-5.ensures j h,
      c.add-6.ensures j h,
      c.add-7.ensures j h,
      c.add-8.ensures j h,
    ) refl
