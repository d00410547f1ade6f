-- What is left of the limit after the paths so far.
use Rattle.std.proofs.Common.{◌≡◌, ◌+◌, ◌++◌, List, take}
use Rattle.valid_table.specs.declared.entry.Registration.{Registration}
use Rattle.build_outcome.specs.Checks.{size_of_all}
use Rattle.build_outcome.specs.private.Sizing.{AreNars, kept_nar}
use Rattle.build_outcome.proofs.checks.sizes.ClosureNars.are_past.Given as goal

abbrev pub invariant-loop-path : goal.invariant-loop-path
invariant-loop-path l = (known : List Registration) → AreNars (kept_nar l.self.own) known
    → l.left + size_of_all (known ++ l.self.others.now) (take l.path-index l.paths) ≡ l.limit
