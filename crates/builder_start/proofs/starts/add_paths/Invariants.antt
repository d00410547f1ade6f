-- The first paths were added.
use Rattle.std.proofs.Common.{◌≡◌, ◌++◌, take}
use Rattle.builder_start.proofs.starts.add_paths.Given as goal

abbrev pub invariant-added : goal.invariant-added
invariant-added l = l.paths.items ≡ l.initial.paths.items ++ take l.path-index l.added
