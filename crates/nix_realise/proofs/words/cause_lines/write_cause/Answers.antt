use Rattle.std.proofs.Common.{codes}
use Rattle.std.proofs.lemmas.Result.{on_ok_weaker}
use Rattle.nix_realise.proofs.CauseLines.{grown_on_ok, line_written}
use Rattle.nix_realise.specs.CauseLines.{hint_of}
use Rattle.nix_realise.proofs.words.cause_lines.write_cause.Goals as goal

pub returns : goal.returns
returns c =
    on_ok_weaker c.extend_from_slice-3.result
    (λ last. line_written c.args.out.now.items (codes "nix_realise: ") c.args.drv.now
    (codes ": Unsupported: ") c.args.cause.now (hint_of c.args.profile) (codes "\n") _ _ _ _
    c.in_ok-write_front.ensures c.in_ok-extend_from_slice.ensures.items
    (rw c.hint_of.ensures at c.in_ok-extend_from_slice-2.ensures.items) last)
    (grown_on_ok c.extend_from_slice-3.result _ _ _ c.extend_from_slice-3.ensures.items)
