-- None of the paths so far is barred.
use Rattle.std.proofs.Common.{◌≡◌, ◌<◌, ℕ, List, Some}
use Rattle.std.specs.List.{slice_get}
use Rattle.build_outcome.specs.private.Testing.{IsBarred, shown_path}
use Rattle.build_outcome.proofs.checks.used_paths.first_barred.Given as goal

abbrev pub invariant-loop-path : goal.invariant-loop-path
invariant-loop-path l = (k : ℕ) (other : List ℕ) → k < l.path-index
    → slice_get l.used k ≡ Some other → IsBarred l.named l.check (shown_path l.left_out) other → ⊥
