-- The hasher holds the pieces so far.
use Rattle.std.proofs.Common.{take}
use Rattle.ref_scan.specs.Trees.{joined}
use Rattle.build_outcome.proofs.digest.sha2_of_pieces.Given as goal

abbrev pub invariant-parts : goal.invariant-parts
invariant-parts g l = g.H.Digest.holds l.hasher (joined (take l.part-index l.parts))
