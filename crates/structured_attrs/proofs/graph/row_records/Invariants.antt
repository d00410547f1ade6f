use Rattle.std.proofs.Common.{◌≡◌, drop}
use Rattle.structured_attrs.specs.Graphs.{row_items}
use Rattle.structured_attrs.proofs.ReadSteps.{items_before}
use Rattle.structured_attrs.proofs.graph.row_records.Given as goal

-- the records so far and those of the rows that are left are the records of all
abbrev pub invariant-rows : goal.invariant-rows
invariant-rows l = items_before l.records.items (row_items (drop l.row-index l.rows)) ≡ row_items l.rows
