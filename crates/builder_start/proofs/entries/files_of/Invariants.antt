-- The first pairs are good, and those of them that are kept have these files.
use Rattle.builder_start.proofs.Files.{FilesSoFar}
use Rattle.builder_start.proofs.entries.files_of.Given as goal

abbrev pub invariant-loop-i : goal.invariant-loop-i
invariant-loop-i l = FilesSoFar l.rows l.whole l.pairs l.i l.files.items
