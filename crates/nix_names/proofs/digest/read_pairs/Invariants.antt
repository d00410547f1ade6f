use Rattle.std.proofs.Common.{◌≡◌, length}
use Rattle.nix_names.proofs.DigestPairs.{ReadUpTo}
use Rattle.nix_names.proofs.digest.read_pairs.Given as goal

abbrev pub invariant-loop-at : goal.invariant-loop-at
invariant-loop-at g l = record {
  long : length l.bytes ≡ g.row.N;
  each : ReadUpTo l.at l.digits l.bytes;
}
