use Rattle.std.proofs.Common.{◌∙◌, sym}
use Rattle.ref_scan.proofs.Hearings.{piece_fed, piece_short}
use Rattle.ref_scan.proofs.hearers.tree_scanner.TreeScannerHear.hear.Goals as goal

pub returns-in-Piece : goal.returns-in-Piece
returns-in-Piece c =
    rw c.in-Piece.is record {
      fed = c.feed.ensures ∙ sym (piece_fed c.args.self.now.scanner c.in-Piece.bytes.now);
      short = piece_short c.in-Piece.bytes.now;
    }
