use Rattle.std.proofs.Common.{map, take}
use Rattle.nix_archive.specs.Tokens.{FileByte}
use Rattle.nix_archive.specs.Trees.{AreBytes}
use Rattle.ref_scan.specs.Trees.{joined}
use Rattle.ref_scan.proofs.tree_archive.node.hear_pieces.Given as goal

abbrev pub invariant-pieces : goal.invariant-pieces
invariant-pieces g l = record {
  heard : g.H.Hear.heard l.fn.hearer (map FileByte (joined (take l.piece-index l.pieces))) l.hearer;
  are_bytes : AreBytes (joined (take l.piece-index l.pieces));
}
