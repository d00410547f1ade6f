-- After the rows that were there stand the first registrations, whose paths had none.
use Rattle.std.proofs.Common.{◌≡◌, ◌++◌, take}
use Rattle.valid_table.specs.private.Entering.{AreUnknown}
use Rattle.valid_table.specs.Entries.{paths_registered}
use Rattle.valid_table.specs.Tables.{registrations_of}
use Rattle.valid_table.proofs.path_table.rows.add_new.Given as goal

abbrev pub invariant-loop-count : goal.invariant-loop-count
invariant-loop-count l = record {
  rows : registrations_of l.rows.entries ≡ registrations_of l.fn.rows.entries
      ++ take l.count l.registrations;
  new : AreUnknown (paths_registered (registrations_of l.fn.rows.entries))
      (take l.count (paths_registered l.registrations));
}
