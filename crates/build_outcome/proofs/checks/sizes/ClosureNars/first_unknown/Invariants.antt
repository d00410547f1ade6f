-- The archives of the paths so far are known.
use Rattle.std.proofs.Common.{◌≡◌, ◌<◌, ◌++◌, ℕ, List, None, Some}
use Rattle.std.specs.List.{slice_get}
use Rattle.valid_table.specs.declared.entry.Registration.{Registration}
use Rattle.build_outcome.specs.Checks.{nar_at}
use Rattle.build_outcome.specs.private.Sizing.{AreNars, kept_nar}
use Rattle.build_outcome.proofs.checks.sizes.ClosureNars.first_unknown.Given as goal

abbrev pub invariant-loop-path : goal.invariant-loop-path
invariant-loop-path l = (known : List Registration) → AreNars (kept_nar l.self.own) known
    → (k : ℕ) (other : List ℕ) → k < l.path-index → slice_get l.paths k ≡ Some other
    → nar_at (known ++ l.self.others.now) other ≡ None → ⊥
