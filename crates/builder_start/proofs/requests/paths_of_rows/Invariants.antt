-- The paths of the first records were copied.
use Rattle.std.proofs.Common.{◌≡◌, take}
use Rattle.valid_table.specs.Entries.{paths_registered}
use Rattle.builder_start.proofs.requests.paths_of_rows.Given as goal

abbrev pub invariant-rows : goal.invariant-rows
invariant-rows l = l.paths.items ≡ paths_registered (take l.row-index l.rows)
