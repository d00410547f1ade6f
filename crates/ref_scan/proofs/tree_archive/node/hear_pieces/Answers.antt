use Rattle.std.proofs.Common.{◌∙◌, ◌++◌, ap, arith, map, subst, sym, take}
use Rattle.std.proofs.lemmas.List.{map-append}
use Rattle.nix_archive.specs.Tokens.{FileByte}
use Rattle.nix_archive.specs.Trees.{AreBytes}
use Rattle.ref_scan.specs.Trees.{joined}
use Rattle.ref_scan.proofs.Joined.{both_bytes, joined_more}
use Rattle.ref_scan.proofs.tree_archive.node.hear_pieces.Goals as goal

pub pieces-preserved : goal.pieces-preserved
pieces-preserved g c =
    let done = joined (take c.pieces.piece-index c.args.pieces.now) in
    let piece = c.piece-item.result.items in
    let more = joined_more c.args.pieces.now c.pieces.piece-index c.piece-item.result
    (omega arith) c.piece-item.is in
    record {
      heard = subst (λ l. g.H.Hear.heard c.args.hearer.now l c.hear_piece.new.hearer)
          (ap (λ l. map FileByte done ++ map FileByte l) c.deref.ensures.value
          ∙ sym (map-append FileByte done piece) ∙ ap (map FileByte) (sym more))
          (g.met.H.Hear.joins _ _ _ _ _ c.pieces.invariant.heard c.in_ok-hear_piece.ensures.heard);
      are_bytes = subst AreBytes (sym more) (both_bytes done piece c.pieces.invariant.are_bytes
          (subst AreBytes c.deref.ensures.value c.hear_piece.ensures.are_bytes));
    }
