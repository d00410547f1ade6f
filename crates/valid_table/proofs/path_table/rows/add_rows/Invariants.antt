-- The rows after those that were there are the first registrations.
use Rattle.std.proofs.Common.{◌≡◌, ◌++◌, take}
use Rattle.valid_table.specs.Tables.{registrations_of}
use Rattle.valid_table.proofs.path_table.rows.add_rows.Given as goal

abbrev pub invariant-loop-registration : goal.invariant-loop-registration
invariant-loop-registration l =
    registrations_of l.rows.entries ≡ registrations_of l.fn.rows.entries
    ++ take l.registration-index l.registrations
