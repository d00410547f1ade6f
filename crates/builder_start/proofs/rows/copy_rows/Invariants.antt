-- The records that were copied are the first ones.
use Rattle.std.proofs.Common.{◌≡◌, length, take, vec_capacity}
use Rattle.builder_start.proofs.rows.copy_rows.Given as goal

abbrev pub invariant-rows : goal.invariant-rows
invariant-rows l = record {
  items : l.copied.items ≡ take l.row-index l.rows;
  room : vec_capacity l.copied ≡ length l.rows;
}
