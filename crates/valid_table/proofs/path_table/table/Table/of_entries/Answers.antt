use Rattle.std.proofs.Common.{◌≡◌, ◌∙◌, ap, arith, rules}
use Rattle.std.proofs.lemmas.List.{take_all}
use Rattle.valid_table.specs.Entries.{registered}
use Rattle.valid_table.specs.Tables.{registrations_of}
use Rattle.valid_table.proofs.JournalLists.{closed_references_valid, once_so_far}
use Rattle.valid_table.proofs.path_table.table.Table.of_entries.Goals as goal

pub add_rows-requires : goal.add_rows-requires
add_rows-requires c = search (rules, once_so_far)

pub of_rows-requires-clause-closed : goal.of_rows-requires-clause-closed
of_rows-requires-clause-closed c =
    let all : registrations_of c.loop-entry.rows.entries ≡ registered c.args.entries.now =
    c.loop-entry.invariant
    ∙ ap registered (take_all c.loop-entry.entry-index c.args.entries.now (omega arith)) in
    rw all (closed_references_valid _ c.requires.closed)
