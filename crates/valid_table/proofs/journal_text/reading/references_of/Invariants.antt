use Rattle.std.proofs.Common.{length}
use Rattle.valid_table.specs.private.Readers.{SoFarReferences}
use Rattle.valid_table.proofs.journal_text.reading.references_of.Given as goal

-- the references so far, and what is after their lines
abbrev pub invariant-references : goal.invariant-references
invariant-references l = SoFarReferences l.fn.dir l.bytes l.references.items l.rest

abbrev pub decreases-references : goal.decreases-references
decreases-references l = length l.rest
