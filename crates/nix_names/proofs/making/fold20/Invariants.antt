use Rattle.std.proofs.Common.{◌≡◌, ◌<◌, ℕ, length, drop, get_or, bit_xor}
use Rattle.nix_names.specs.StorePaths.{folded_at}
use Rattle.nix_names.proofs.making.fold20.Given as goal

abbrev pub invariant-loop-i : goal.invariant-loop-i
invariant-loop-i l = record {
  long : length l.folded ≡ 20;
  each : (j : ℕ) → j < 20 → bit_xor (get_or l.folded j 0) (folded_at j l.i (drop l.i l.digest))
      ≡ folded_at j 0 l.digest;
}
