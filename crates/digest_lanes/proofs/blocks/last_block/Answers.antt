use Rattle.std.proofs.Common.{◌∙◌, arith, refl}
use Rattle.std.proofs.lemmas.List.{take_rest}
use Rattle.digest_lanes.proofs.BlockLemmas.{last_is, long_is, short_is}
use Rattle.digest_lanes.proofs.blocks.last_block.Goals as goal

pub returns-then-i-whole : goal.returns-then-i-whole
returns-then-i-whole c = λ high.
    c.closed.ensures ∙ last_is c.args.text.now _ c.args.i (omega arith) high refl

pub returns-then-rest-lt56 : goal.returns-then-rest-lt56
returns-then-rest-lt56 c = λ high.
    c.closed-then-rest-lt56.ensures
    ∙ rw c.opened-block.ensures (short_is c.args.text.now _ _ c.args.i _ (take_rest c.args.text.now _) (omega arith) (omega arith) (omega arith) refl)

pub returns : goal.returns
returns c = λ high.
    c.opened-block.ensures ∙ long_is c.args.text.now _ c.args.i _ (take_rest c.args.text.now _) (omega arith) (omega arith) (omega arith)
