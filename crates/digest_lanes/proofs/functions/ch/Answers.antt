use Rattle.std.proofs.Common.{w32, slice_index}
use Rattle.digest_lanes.proofs.ChMaj.{ch_short}
use Rattle.digest_lanes.proofs.LaneLemmas.{lane_fits}
use Rattle.digest_lanes.proofs.functions.ch.Goals as goal

pub returns : goal.returns
returns c j h =
    rw (c.xor-2.ensures j h, c.and.ensures j h, c.xor.ensures j h)
    (ch_short w32 (slice_index c.args.x j) (slice_index c.args.y j) (slice_index c.args.z j)
    (lane_fits c.args.x j c.fits-x.0 c.fits-x.1 h) (lane_fits c.args.y j c.fits-y.0 c.fits-y.1 h)
    (lane_fits c.args.z j c.fits-z.0 c.fits-z.1 h))
