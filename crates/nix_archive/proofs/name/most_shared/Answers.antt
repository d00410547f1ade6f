use Rattle.std.proofs.Common.{arith, ◌-◌}
use Rattle.nix_archive.proofs.Bytes.{high_bar, share_all, share_low}
use Rattle.nix_archive.proofs.name.most_shared.Goals as goal

pub returns-then-before-size : goal.returns-then-before-size
returns-then-before-size c =
    share_all c.args.before.now c.args.size c.requires c.if-before-size.true

pub returns-then-before-most : goal.returns-then-before-most
returns-then-before-most c =
    share_low c.args.before.now (c.most.most - 1) c.args.size c.requires c.if-before-size.false
    (omega (arith, c.most.invariant.within, c.most-test.true))
    (omega (arith, c.requires (c.most.most - 1), c.if-before-most.true))
    (λ i lt_i below. c.most.invariant.high i (omega arith) below)

pub returns : goal.returns
returns c = high_bar c.args.before.now c.args.size (omega arith)
    (λ i lt. c.most.invariant.high i (omega arith) lt)
