-- The paths so far are those of the first rows.
use Rattle.std.proofs.Common.{◌≡◌, length, map, take, vec_capacity, ℕ}
use Rattle.valid_table.specs.private.Closing.{paths_at}
use Rattle.valid_table.specs.Tables.{registrations_of}
use Rattle.valid_table.proofs.path_table.sort_paths.copy_paths.Given as goal

abbrev pub invariant-loop-row : goal.invariant-loop-row
invariant-loop-row l = record {
  paths : l.paths.items ≡ paths_at (registrations_of l.rows.entries)
      (take l.row-index (map (λ (k : ℕ × ℕ). k.1) l.keyed));
  count : length l.paths.items ≡ l.row-index;
  room : vec_capacity l.paths ≡ length l.keyed;
}
