use Rattle.std.proofs.Common.{refl, ◌∙◌, Err, ap, arith}
use Rattle.process_build.proofs.PastLimits.{handed, past_after}
use Rattle.process_build.proofs.Walking.{all_told, none_told, piece_told}
use Rattle.process_build.proofs.walk.file_bytes.tell_bytes.Goals as goal

pub pieces-init : goal.pieces-init
pieces-init g c = record {
  room = refl;
  within = omega arith;
  told = none_told _ g.met.H.Hear.joins _ _ _ (g.met.H.Hear.silence _) (omega arith);
}

pub pieces-preserved : goal.pieces-preserved
pieces-preserved g c = record {
  room = c.in_ok-count.ensures.same ∙ c.pieces.invariant.room;
  within = omega (arith, c.in_ok-left.ensures.left, c.pieces.invariant.within);
  told =
      piece_told _ g.met.H.Hear.joins _ _ _ _ _ _ _ _ _ _ c.pieces.invariant.told
      c.in_ok-left.ensures.bytes c.in_ok-left.ensures.told c.in_ok-count.ensures.bytes.0
      c.pieces.invariant.within c.in_ok-left.ensures.left;
}

pub returns-clause-told : goal.returns-clause-told
returns-clause-told g c =
    all_told _ g.met.H.Hear.joins _ _ _ _ _ _ _ _ _ c.pieces.invariant.told c.if-left-ne0.false
    c.if-count-eq0.true c.in_ok-count.ensures.bytes.0
    (c.in_ok-count.ensures.bytes.1 c.if-count-eq0.true
    (omega (arith, c.in_ok-count.ensures.same, c.pieces.invariant.room, c.requires)))

pub returns-in_err-left-clause-past : goal.returns-in_err-left-clause-past
returns-in_err-left-clause-past g c = λ large.
    past_after _ g.met.H.Hear.joins _ _ _ _ _ c.pieces.invariant.told.hears
    (c.in_err-left.ensures.past (ap Err (handed _ _ c.from_residual-in_err-left.ensures.1 large)))
