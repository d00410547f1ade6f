-- The registrations that were copied are the first ones.
use Rattle.std.proofs.Common.{◌≡◌, length, take, vec_capacity}
use Rattle.valid_table.proofs.entry.copy_registrations.Given as goal

abbrev pub invariant-loop-registration : goal.invariant-loop-registration
invariant-loop-registration l = record {
  items : l.copied.items ≡ take l.registration-index l.registrations;
  room : vec_capacity l.copied ≡ length l.registrations;
}
