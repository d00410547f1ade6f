-- The list has the first entries.
use Rattle.std.proofs.Common.{◌≡◌, take}
use Rattle.valid_view.proofs.opening.fill.Given as goal

abbrev pub invariant-loop-entry : goal.invariant-loop-entry
invariant-loop-entry g l = l.prefix ≡ take l.entry-index l.entries
