use Rattle.std.proofs.Common.{◌≡◌, take, vec_capacity, vec_len}
use Rattle.nix_names.specs.Base32.{digits_of, text_number}
use Rattle.nix_names.proofs.base32.bytes_of.Given as goal

abbrev pub invariant-loop-at : goal.invariant-loop-at
invariant-loop-at l = record {
  first : l.bytes.items ≡ take l.at (digits_of 256 l.n (text_number l.text));
  count : vec_len l.bytes ≡ l.at;
  room : vec_capacity l.bytes ≡ l.n;
}
