-- The rows are what the first entries register.
use Rattle.std.proofs.Common.{◌≡◌, take}
use Rattle.valid_table.specs.Entries.{registered}
use Rattle.valid_table.specs.Tables.{registrations_of}
use Rattle.valid_table.proofs.path_table.table.Table.of_entries.Given as goal

abbrev pub invariant-loop-entry : goal.invariant-loop-entry
invariant-loop-entry l = registrations_of l.rows.entries ≡ registered (take l.entry-index l.entries)
