-- The records of the first paths were found, and there is room for all.
use Rattle.std.proofs.Common.{◌≡◌, All, Contains, length, take, vec_capacity}
use Rattle.valid_table.specs.Entries.{paths_registered}
use Rattle.valid_table.proofs.path_table.table.Table.records.Given as goal

abbrev pub invariant-paths : goal.invariant-paths
invariant-paths l = record {
  paths : paths_registered l.found.items ≡ take l.path-index l.paths;
  known : All (Contains l.self.registrations) l.found.items;
  room : vec_capacity l.found ≡ length l.paths;
}
