use Rattle.std.proofs.Common.{◌/◌, ◌^◌}
use Rattle.digest_lanes.proofs.LaneLemmas.{lane_with}
use Rattle.digest_lanes.proofs.functions.shift_right.Goals as goal

pub returns : goal.returns
returns c j h = lane_with (λ a n. a / 2 ^ n) c.args.x c.args.k j c.fits-x.0 h
