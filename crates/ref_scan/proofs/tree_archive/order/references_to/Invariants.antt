use Rattle.std.proofs.Common.{◌≡◌, length, map, take, vec_capacity}
use Rattle.ref_scan.proofs.Orders.{of_ref}
use Rattle.ref_scan.proofs.tree_archive.order.references_to.Given as goal

abbrev pub invariant-loop-member : goal.invariant-loop-member
invariant-loop-member l = record {
  value : map of_ref l.refs.items ≡ take l.member-index l.members;
  count : length l.refs.items ≡ l.member-index;
  room : vec_capacity l.refs ≡ length l.members;
}
