use Rattle.std.proofs.Common.{◌↔◌, [], drop, map}
use Rattle.ref_scan.specs.private.Telling.{AreNames}
use Rattle.ref_scan.proofs.Orders.{of_ref}
use Rattle.ref_scan.proofs.tree_archive.names.are_names.Given as goal

abbrev pub invariant-loop-member : goal.invariant-loop-member
invariant-loop-member l =
    AreNames [] (map of_ref l.order) ↔ AreNames l.before (map of_ref (drop l.member-index l.order))
