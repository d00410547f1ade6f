-- The rows of the first records were made.
use Rattle.std.proofs.Common.{◌≡◌, All, map, take}
use Rattle.valid_table.specs.Entries.{paths_registered}
use Rattle.structured_attrs.specs.declared.graph.GraphRow.{GraphRow}
use Rattle.builder_start.specs.Structured.{IsRow}
use Rattle.builder_start.proofs.graphs.rows_of.Given as goal

abbrev pub invariant-rows : goal.invariant-rows
invariant-rows l = record {
  paths : map (λ (r : GraphRow). r.registration.path) l.found.items
      ≡ paths_registered (take l.row-index l.graph);
  each : All (IsRow l.rows) l.found.items;
}
