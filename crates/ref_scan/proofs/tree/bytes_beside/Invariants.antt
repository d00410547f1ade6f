use Rattle.std.proofs.Common.{◌≡◌, ◌+◌, length, drop}
use Rattle.ref_scan.specs.Trees.{joined}
use Rattle.ref_scan.proofs.tree.bytes_beside.Given as goal

abbrev pub invariant-loop-piece : goal.invariant-loop-piece
invariant-loop-piece l = l.left + length (joined l.pieces) ≡ l.bytes
    + length (joined (drop l.piece-index l.pieces))
