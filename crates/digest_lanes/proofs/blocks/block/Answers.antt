use Rattle.std.proofs.Common.{arith, refl}
use Rattle.digest_lanes.proofs.BlockLemmas.{whole_is}
use Rattle.digest_lanes.proofs.blocks.block.Goals as goal

pub returns-then-i-text-clause-bytes : goal.returns-then-i-text-clause-bytes
returns-then-i-text-clause-bytes c = λ low.
    whole_is c.args.text.now _ c.args.i _ _ (omega arith) (omega arith) (omega arith) refl
