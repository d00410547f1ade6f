use Rattle.std.proofs.Common.{◌≡◌, ◌++◌, drop}
use Rattle.std.specs.List.{flat_map}
use Rattle.valid_table.specs.private.LineTexts.{lines_text}
use Rattle.valid_table.specs.Texts.{entry_lines}
use Rattle.valid_table.proofs.journal_text.writing.add_lines.Given as goal

-- what is written, and the lines of the entries that are left
abbrev pub invariant-entries : goal.invariant-entries
invariant-entries l =
    l.out.items ++ lines_text l.version (flat_map entry_lines (drop l.entry-index l.entries))
    ≡ l.initial.out.items ++ lines_text l.version (flat_map entry_lines l.entries)
