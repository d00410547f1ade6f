use Rattle.std.proofs.Common.{◌≡◌, ◌++◌, length, map, drop, vec_capacity, vec_len}
use Rattle.nix_drv.proofs.element.copy_list.Given as goal

-- the copies and the elements that are left are the list
abbrev pub invariant-items : goal.invariant-items
invariant-items g l = record {
  value : map g.T.Element.value l.copies.items
      ++ map g.T.Element.value (drop l.item-index l.items) ≡ map g.T.Element.value l.items;
  count : vec_len l.copies ≡ l.item-index;
  room : vec_capacity l.copies ≡ length l.items;
}
