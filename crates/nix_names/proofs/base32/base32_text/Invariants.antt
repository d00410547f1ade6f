use Rattle.std.proofs.Common.{◌≡◌, take, vec_capacity, vec_len}
use Rattle.nix_names.specs.Base32.{base32}
use Rattle.nix_names.proofs.base32.base32_text.Given as goal

abbrev pub invariant-loop-i : goal.invariant-loop-i
invariant-loop-i l = record {
  first : l.text.items ≡ take l.i (base32 l.bytes);
  count : vec_len l.text ≡ l.i;
  room : vec_capacity l.text ≡ l.len;
}
