-- None of the paths so far is valid.
use Rattle.std.proofs.Common.{take}
use Rattle.std.specs.Prelude.{All}
use Rattle.valid_table.specs.Entries.{registered}
use Rattle.valid_table.specs.Valid.{IsNotValid}
use Rattle.sched_core.proofs.done_entry.are_new.Given as goal

abbrev pub invariant-loop-path : goal.invariant-loop-path
invariant-loop-path l = All (IsNotValid (registered l.journal.entries)) (take l.path-index l.paths)
