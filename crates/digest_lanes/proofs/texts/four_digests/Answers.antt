use Rattle.std.proofs.Common.{arith, refl}
use Rattle.digest_lanes.proofs.LaneLemmas.{below_four}
use Rattle.digest_lanes.proofs.Reached.{four_are, reached_next, reached_none}
use Rattle.digest_lanes.proofs.texts.four_digests.Goals as goal

pub turns-init : goal.turns-init
turns-init c = (refl, λ j h. reached_none _ _ _ (c.initial-state.ensures j h))

pub turns-preserved : goal.turns-preserved
turns-preserved c =
    let held = c.turns.invariant.1 in
    let step = c.compress.ensures in (
      refl,
      below_four _
          (reached_next _ _ _ _ _ _ c.turns.i _ (held 0 (omega arith)) c.block_count.ensures c.block-block_a.ensures.bytes (step 0 (omega arith))
          c.digest_at_end-first.ensures.ends c.digest_at_end-first.ensures.goes_on)
          (reached_next _ _ _ _ _ _ c.turns.i _ (held 1 (omega arith)) c.block_count-2.ensures c.block-block_b.ensures.bytes (step 1 (omega arith))
          c.digest_at_end-second.ensures.ends c.digest_at_end-second.ensures.goes_on)
          (reached_next _ _ _ _ _ _ c.turns.i _ (held 2 (omega arith)) c.block_count-3.ensures c.block-block_c.ensures.bytes (step 2 (omega arith))
          c.digest_at_end-third.ensures.ends c.digest_at_end-third.ensures.goes_on)
          (reached_next _ _ _ _ _ _ c.turns.i _ (held 3 (omega arith)) c.block_count-4.ensures c.block-block_d.ensures.bytes (step 3 (omega arith))
          c.digest_at_end-fourth.ensures.ends c.digest_at_end-fourth.ensures.goes_on),
    )

pub returns : goal.returns
returns c =
    four_are c.turns.out c.args.a.now c.args.b.now c.args.c.now c.args.d.now c.turns.invariant.0
    (below_four _ ((c.turns.invariant.1 0 (omega arith)).1 (omega arith)) ((c.turns.invariant.1 1 (omega arith)).1 (omega arith))
    ((c.turns.invariant.1 2 (omega arith)).1 (omega arith)) ((c.turns.invariant.1 3 (omega arith)).1 (omega arith)))
