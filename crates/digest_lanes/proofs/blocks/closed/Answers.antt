use Rattle.std.proofs.Common.{◌∙◌, arith}
use Rattle.digest_lanes.proofs.BlockLemmas.{closed_is}
use Rattle.digest_lanes.proofs.blocks.closed.Goals as goal

pub returns : goal.returns
returns c = closed_is c.args.block _ _ (omega arith) (c.copy_from_slice.ensures.after ∙ c.to_be_bytes.ensures)
