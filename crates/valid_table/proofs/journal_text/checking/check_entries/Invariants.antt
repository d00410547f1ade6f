-- The lines of the first entries are right, and what they register has its rows.
use Rattle.std.proofs.Common.{◌≡◌, ◌+◌, [], length, take}
use Rattle.valid_table.specs.Entries.{registered}
use Rattle.valid_table.specs.Tables.{registrations_of}
use Rattle.valid_table.specs.Texts.{lines}
use Rattle.valid_table.specs.Valid.{IsOnce}
use Rattle.valid_table.proofs.CheckedJournal.{AreRight}
use Rattle.valid_table.proofs.journal_text.checking.check_entries.Given as goal

abbrev pub invariant-loop-entry : goal.invariant-loop-entry
invariant-loop-entry l = record {
  right : AreRight [] (take l.entry-index l.entries);
  rows : registrations_of l.rows.entries ≡ registered (take l.entry-index l.entries);
  number : l.line ≡ length (lines (take l.entry-index l.entries)) + 1;
  once : IsOnce (registrations_of l.rows.entries);
}
