use Rattle.std.proofs.Common.{◌≡◌, ◌++◌, drop, map}
use Rattle.valid_table.specs.private.LineTexts.{lines_text}
use Rattle.valid_table.specs.Texts.{Reference}
use Rattle.valid_table.proofs.journal_text.writing.write_registration.Given as goal

-- what is written, and the lines of the references that are left
abbrev pub invariant-references : goal.invariant-references
invariant-references l =
    l.out.items ++ lines_text l.fn.version (map Reference
    (drop l.reference-index l.reference-items)) ≡
    l.initial.out.items
    ++ lines_text l.fn.version (map Reference l.reference-items)
