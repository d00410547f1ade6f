use Rattle.std.proofs.Common.{◌≡◌, ◌++◌, []}
use Rattle.ref_scan.specs.Trees.{pieces}
use Rattle.ref_scan.specs.private.Walk.{pieces_ahead, steps_ahead}
use Rattle.ref_scan.proofs.references.feed_tree.Given as goal

abbrev pub invariant-loop-members : goal.invariant-loop-members
invariant-loop-members l = record {
  permitted : l.marks.permitted ≡ l.fn.marks.permitted;
  parts : l.marks.parts ≡ l.fn.marks.parts;
  in_order : l.marks.in_order ≡ l.fn.marks.in_order;
  ended : l.marks.ended ++ pieces_ahead l.folders.items ≡ l.fn.marks.ended ++ pieces l.fn.tree;
  present : l.marks.present ≡ [];
}

abbrev pub decreases-loop-members : goal.decreases-loop-members
decreases-loop-members l = steps_ahead l.folders.items
