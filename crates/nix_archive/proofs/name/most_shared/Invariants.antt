use Rattle.std.proofs.Common.{◌≡◌, ◌<◌, ◌≤◌, ℕ}
use Rattle.std.specs.Prelude.{slice_index}
use Rattle.nix_archive.proofs.name.most_shared.Given as goal

abbrev pub invariant-most : goal.invariant-most
invariant-most l = record {
  within : l.most ≤ l.size;
  high : (i : ℕ) → l.most ≤ i → i < l.size → slice_index l.before i ≡ 255;
}

abbrev pub decreases-most : goal.decreases-most
decreases-most l = l.most
