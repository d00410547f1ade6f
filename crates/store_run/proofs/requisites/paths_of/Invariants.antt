-- The paths of the registrations so far, and there is room for all.
use Rattle.std.proofs.Common.{◌≡◌, length, take, vec_capacity}
use Rattle.valid_table.specs.Entries.{paths_registered}
use Rattle.store_run.proofs.requisites.paths_of.Given as goal

abbrev pub invariant-loop-record : goal.invariant-loop-record
invariant-loop-record l = record {
  count : length l.paths.items ≡ l.record-index;
  paths : l.paths.items ≡ paths_registered (take l.record-index l.records);
  room : vec_capacity l.paths ≡ length l.records;
}
