-- The hasher holds the pieces so far.
use Rattle.std.proofs.Common.{take}
use Rattle.md5.specs.Md5.{Holds}
use Rattle.ref_scan.specs.Trees.{joined}
use Rattle.build_outcome.proofs.digest.md5_of_pieces.Given as goal

abbrev pub invariant-parts : goal.invariant-parts
invariant-parts l = Holds l.hasher (joined (take l.part-index l.parts))
