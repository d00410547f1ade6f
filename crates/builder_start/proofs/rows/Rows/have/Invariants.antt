-- The first paths have records.
use Rattle.std.proofs.Common.{All, take}
use Rattle.valid_table.specs.Valid.{IsValid}
use Rattle.builder_start.proofs.rows.Rows.have.Given as goal

abbrev pub invariant-paths : goal.invariant-paths
invariant-paths l = All (IsValid l.self) (take l.path-index l.paths)
