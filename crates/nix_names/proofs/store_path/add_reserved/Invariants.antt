use Rattle.std.proofs.Common.{◌≡◌, ◌+◌, ◌++◌, take, vec_capacity, vec_len}
use Rattle.nix_names.proofs.store_path.add_reserved.Given as goal

abbrev pub invariant-loop-byte : goal.invariant-loop-byte
invariant-loop-byte l = record {
  items : l.text.items ≡ l.initial.text.items ++ take l.byte-index l.bytes;
  count : vec_len l.text ≡ vec_len l.initial.text + l.byte-index;
  room : vec_capacity l.text ≡ vec_capacity l.initial.text;
}
