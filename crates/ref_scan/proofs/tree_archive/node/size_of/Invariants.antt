use Rattle.std.proofs.Common.{◌≡◌, ◌+◌, ◌<◌, ◌^◌, length, drop}
use Rattle.ref_scan.specs.Trees.{joined}
use Rattle.ref_scan.proofs.tree_archive.node.size_of.Given as goal

abbrev pub invariant-loop-piece : goal.invariant-loop-piece
invariant-loop-piece l = record {
  sum : l.size + length (joined (drop l.piece-index l.pieces)) ≡ length (joined l.pieces);
  fits : l.size < 2 ^ 64;
}
