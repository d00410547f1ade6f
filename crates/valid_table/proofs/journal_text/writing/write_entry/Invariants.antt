use Rattle.std.proofs.Common.{◌≡◌, ◌++◌, drop}
use Rattle.std.specs.List.{flat_map}
use Rattle.valid_table.specs.private.LineTexts.{lines_text}
use Rattle.valid_table.specs.Texts.{output_lines}
use Rattle.valid_table.proofs.journal_text.writing.write_entry.Given as goal

-- what is written, and the lines of the outputs that are left
abbrev pub invariant-outputs : goal.invariant-outputs
invariant-outputs l =
    l.out.items ++ lines_text l.version (flat_map output_lines (drop l.output-index l.output-items))
    ≡ l.initial.out.items ++ lines_text l.version (flat_map output_lines l.output-items)
