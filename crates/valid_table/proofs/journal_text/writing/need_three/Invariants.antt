use Rattle.std.proofs.Common.{◌≡◌, drop}
use Rattle.std.specs.List.{list_any}
use Rattle.valid_table.specs.Written.{entry_needs_three}
use Rattle.valid_table.proofs.journal_text.writing.need_three.Given as goal

-- the entries that are left have the answer of all
abbrev pub invariant-entries : goal.invariant-entries
invariant-entries l =
    list_any entry_needs_three (drop l.entry-index l.entries)
    ≡ list_any entry_needs_three l.entries
