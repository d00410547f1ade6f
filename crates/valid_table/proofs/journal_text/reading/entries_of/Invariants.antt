use Rattle.std.proofs.Common.{length}
use Rattle.valid_table.specs.private.Readers.{SoFarEntries}
use Rattle.valid_table.proofs.journal_text.reading.entries_of.Given as goal

-- the entries so far, and what is after their lines
abbrev pub invariant-entries : goal.invariant-entries
invariant-entries l = SoFarEntries l.version l.fn.dir l.bytes l.entries.items l.rest

abbrev pub decreases-entries : goal.decreases-entries
decreases-entries l = length l.rest
