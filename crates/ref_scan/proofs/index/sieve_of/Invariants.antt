use Rattle.std.proofs.Common.{◌≡◌, length, take}
use Rattle.std.specs.Prelude.{All}
use Rattle.ref_scan.proofs.Indexing.{Sieves}
use Rattle.ref_scan.proofs.index.sieve_of.Given as goal

abbrev pub invariant-loop-key : goal.invariant-loop-key
invariant-loop-key l = record {
  slots : length l.sieve.items ≡ l.slots;
  each : All (Sieves l.slots l.sieve.items) (take l.key-index l.keys);
}
