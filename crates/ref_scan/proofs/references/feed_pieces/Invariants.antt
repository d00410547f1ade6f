use Rattle.std.proofs.Common.{◌≡◌, ◌++◌, drop}
use Rattle.ref_scan.specs.Trees.{joined}
use Rattle.ref_scan.proofs.references.feed_pieces.Given as goal

abbrev pub invariant-loop-piece : goal.invariant-loop-piece
invariant-loop-piece l = record {
  permitted : l.marks.permitted ≡ l.initial.marks.permitted;
  parts : l.marks.parts ≡ l.initial.marks.parts;
  in_order : l.marks.in_order ≡ l.initial.marks.in_order;
  ended : l.marks.ended ≡ l.initial.marks.ended;
  present : l.marks.present ++ joined (drop l.piece-index l.pieces) ≡ l.initial.marks.present
      ++ joined l.pieces;
}
