use Rattle.std.proofs.Common.{◌≡◌, ◌++◌, length, map, drop, vec_capacity, vec_len}
use Rattle.nix_drv.specs.Parts.{bytes_of}
use Rattle.run_states.proofs.system.copies_of.Given as goal

-- the copies and the texts that are left are the list
abbrev pub invariant-texts : goal.invariant-texts
invariant-texts l = record {
  value : map bytes_of l.copies.items ++ map bytes_of (drop l.text-index l.texts)
      ≡ map bytes_of l.texts;
  count : vec_len l.copies ≡ l.text-index;
  room : vec_capacity l.copies ≡ length l.texts;
}
