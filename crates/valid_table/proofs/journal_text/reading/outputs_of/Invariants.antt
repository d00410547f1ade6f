use Rattle.std.proofs.Common.{length}
use Rattle.valid_table.specs.private.Readers.{SoFarOutputs}
use Rattle.valid_table.proofs.journal_text.reading.outputs_of.Given as goal

-- the outputs so far, and what is after their lines
abbrev pub invariant-outputs : goal.invariant-outputs
invariant-outputs l = SoFarOutputs l.version l.fn.dir l.bytes l.outputs.items l.rest

abbrev pub decreases-outputs : goal.decreases-outputs
decreases-outputs l = length l.rest
