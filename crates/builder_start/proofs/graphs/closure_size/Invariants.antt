-- The lengths of the first archives together.
use Rattle.std.proofs.Common.{◌≡◌, take}
use Rattle.builder_start.specs.Structured.{closure_size}
use Rattle.builder_start.proofs.graphs.closure_size.Given as goal

abbrev pub invariant-rows : goal.invariant-rows
invariant-rows l = l.size ≡ closure_size (take l.row-index l.graph)
