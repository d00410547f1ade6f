-- Those of the rows so far that were found are added.
use Rattle.std.proofs.Common.{◌≡◌, ◌++◌, nat_eq, take, ℕ}
use Rattle.std.specs.List.{filter, list_any}
use Rattle.valid_table.proofs.path_table.sort_paths.push_found.Given as goal

abbrev pub invariant-loop-item : goal.invariant-loop-item
invariant-loop-item l = l.keyed.items ≡ l.fn.keyed.items
    ++ filter (λ (k : ℕ × ℕ). list_any (nat_eq k.1) l.found.rows) (take l.item-index l.ordered)
