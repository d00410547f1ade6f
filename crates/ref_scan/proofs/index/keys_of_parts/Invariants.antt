use Rattle.std.proofs.Common.{◌≡◌, length, map, take, vec_capacity}
use Rattle.ref_scan.specs.private.Parts.{key_of_part}
use Rattle.ref_scan.proofs.index.keys_of_parts.Given as goal

abbrev pub invariant-loop-part : goal.invariant-loop-part
invariant-loop-part l = record {
  items : l.keys.items ≡ map key_of_part (take l.part-index l.parts);
  capacity : vec_capacity l.keys ≡ length l.parts;
}
