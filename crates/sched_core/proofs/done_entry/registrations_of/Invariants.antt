-- The first n paths stand there with their records, and there is room for all.
use Rattle.std.proofs.Common.{◌≡◌, length, take, vec_capacity}
use Rattle.valid_table.specs.Entries.{paths_registered}
use Rattle.sched_core.specs.private.Dones.{infos_of}
use Rattle.sched_core.proofs.done_entry.registrations_of.Given as goal

abbrev pub invariant-loop-n : goal.invariant-loop-n
invariant-loop-n l = record {
  count : length l.registrations.items ≡ l.n;
  paths : paths_registered l.registrations.items ≡ take l.n l.paths;
  infos : infos_of l.registrations.items ≡ take l.n l.records;
  room : vec_capacity l.registrations ≡ length l.paths;
}
