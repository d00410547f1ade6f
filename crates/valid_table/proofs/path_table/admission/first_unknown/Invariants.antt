-- The first paths are valid.
use Rattle.std.proofs.Common.{◌++◌, take}
use Rattle.std.specs.Prelude.{All}
use Rattle.valid_table.specs.Tables.{registrations_of}
use Rattle.valid_table.specs.Valid.{IsValid}
use Rattle.valid_table.proofs.path_table.admission.first_unknown.Given as goal

abbrev pub invariant-loop-index : goal.invariant-loop-index
invariant-loop-index l = All (IsValid (registrations_of l.rows.entries ++ l.registrations))
    (take l.index l.paths)
