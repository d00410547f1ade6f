use Rattle.std.proofs.Common.{◌∙◌, ap, sym}
use Rattle.ref_scan.specs.private.Kept.{last_bytes}
use Rattle.ref_scan.proofs.Seams.{kept_of_short, kept_of_long}
use Rattle.ref_scan.proofs.seam.tail_after.Goals as goal

pub returns-then-piece-lt-KEPT : goal.returns-then-piece-lt-KEPT
returns-then-piece-lt-KEPT c = λ bytes is. c.tail_of.ensures ∙ ap last_bytes is
    ∙ sym (kept_of_short bytes c.args.piece.now c.if-piece-lt-KEPT.true)

pub returns-else-piece-lt-KEPT : goal.returns-else-piece-lt-KEPT
returns-else-piece-lt-KEPT c = λ bytes is. c.tail_of-else-piece-lt-KEPT.ensures
    ∙ sym (kept_of_long bytes c.args.piece.now c.if-piece-lt-KEPT.false)
