use Rattle.std.proofs.Common.{[], ◌∷◌, ◌++◌, arith, map, subst}
use Rattle.nix_archive.specs.Tokens.{FileBegun, FileByte, FileEnded}
use Rattle.ref_scan.specs.Trees.{joined}
use Rattle.ref_scan.proofs.tree_archive.node.tell_pieces.Goals as goal

pub returns : goal.returns
returns g c =
    let joins = g.met.H.Hear.joins in
    let bytes = joined c.args.pieces.now in (
      record {
        sized = omega (arith, c.in-Some.ensures.0, c.in-Some.ensures.1);
        are_bytes = c.in_ok-hear_pieces.ensures.are_bytes;
      },
      subst
          (λ n. g.H.Hear.heard c.args.hearer.now
          (FileBegun c.args.executable n ∷ (map FileByte bytes ++ FileEnded n ∷ []))
          c.hear-2.new.self)
          c.in-Some.ensures.0
          (joins _ _ _ _ _ c.in_ok-hear.ensures
          (joins _ _ _ _ _ c.in_ok-hear_pieces.ensures.heard c.in_ok-hear-2.ensures)),
    )
