use Rattle.std.proofs.Common.{refl}
use Rattle.digest_lanes.proofs.BlockLemmas.{opened_is}
use Rattle.digest_lanes.proofs.blocks.opened.Goals as goal

pub returns : goal.returns
returns c = opened_is c.args.rest.now _ _ c.copy_from_slice.ensures.after refl c.requires
