-- The first inputs are used.
use Rattle.std.proofs.Common.{take, ◌≡◌, length, vec_capacity, vec_len}
use Rattle.std.specs.List.{AllZip}
use Rattle.drv_graph.specs.private.Walks.{IsUsed}
use Rattle.drv_graph.proofs.walks.walk_state.used_inputs.Given as goal

abbrev pub invariant-loop-number : goal.invariant-loop-number
invariant-loop-number l = record {
  first : AllZip (IsUsed l.kept) (take l.number-index l.numbers) l.used.items;
  count : vec_len l.used ≡ l.number-index;
  room : vec_capacity l.used ≡ length l.numbers;
}
