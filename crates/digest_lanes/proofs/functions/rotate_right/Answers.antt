use Rattle.digest_lanes.proofs.LaneLemmas.{shifts_rotate}
use Rattle.digest_lanes.proofs.functions.rotate_right.Goals as goal

pub returns : goal.returns
returns c j h = shifts_rotate c.args.x c.args.k j c.fits-x.0 c.requires.0 c.requires.1 h
