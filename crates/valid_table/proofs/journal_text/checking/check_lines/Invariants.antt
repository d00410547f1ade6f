-- The lines of the first registrations are right.
use Rattle.std.proofs.Common.{◌≡◌, ◌+◌, ◌≤◌, ◌++◌, flat_map, length, take}
use Rattle.std.specs.Prelude.{All}
use Rattle.valid_table.specs.Tables.{registrations_of}
use Rattle.valid_table.specs.Texts.{output_lines}
use Rattle.valid_table.specs.Valid.{IsValid, references_of}
use Rattle.valid_table.proofs.journal_text.checking.check_lines.Given as goal

abbrev pub invariant-loop-index : goal.invariant-loop-index
invariant-loop-index l = record {
  new : l.index ≤ l.new;
  closed : All (IsValid (registrations_of l.rows.entries ++ l.registrations))
      (references_of (take l.index l.registrations));
  number : l.line ≡ l.fn.line + length (flat_map output_lines (take l.index l.registrations));
}
