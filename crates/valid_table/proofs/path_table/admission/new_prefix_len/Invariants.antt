-- The first paths have no row.
use Rattle.std.proofs.Common.{take}
use Rattle.valid_table.specs.private.Entering.{AreUnknown}
use Rattle.valid_table.specs.Entries.{paths_registered}
use Rattle.valid_table.specs.Tables.{registrations_of}
use Rattle.valid_table.proofs.path_table.admission.new_prefix_len.Given as goal

abbrev pub invariant-loop-count : goal.invariant-loop-count
invariant-loop-count l = AreUnknown (paths_registered (registrations_of l.rows.entries))
    (take l.count (paths_registered l.registrations))
