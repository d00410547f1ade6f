use Rattle.std.proofs.Common.{◌≡◌, drop}
use Rattle.structured_attrs.specs.Graphs.{path_items}
use Rattle.structured_attrs.proofs.ReadSteps.{items_before}
use Rattle.structured_attrs.proofs.graph.path_strings.Given as goal

-- the strings so far and those of the paths that are left are the strings of all
abbrev pub invariant-paths : goal.invariant-paths
invariant-paths l = items_before l.items.items (path_items (drop l.path-index l.paths)) ≡ path_items l.paths
