use Rattle.std.proofs.Common.{◌≡◌, ◌∙◌, ap, arith, take, rules}
use Rattle.std.specs.Prelude.{Ok}
use Rattle.std.proofs.lemmas.List.{take_all}
use Rattle.std.proofs.lemmas.Result.{err_from_is_err_and}
use Rattle.valid_table.specs.Entries.{registered}
use Rattle.valid_table.specs.Tables.{registrations_of}
use Rattle.valid_table.proofs.CheckedJournal.{check_after, closed_after, first_fault, known_more, lines_fit, lines_more, right_more}
use Rattle.valid_table.proofs.JournalLists.{closed_references_valid}
use Rattle.valid_table.proofs.journal_text.checking.check_entries.Goals as goal

pub check_entry-requires : goal.check_entry-requires
check_entry-requires c = search (rules, lines_fit)

pub returns-in_err-line-clause-err : goal.returns-in_err-line-clause-err
returns-in_err-line-clause-err c = search (rules, check_after, err_from_is_err_and, first_fault)

pub loop-entry-preserved : goal.loop-entry-preserved
loop-entry-preserved c =
    let entries = c.args.entries.now in
    let i = c.loop-entry.entry-index in
    let entry = c.entry-item.result in
    let lt = c.loop-entry-test.true in
    let is = c.entry-item.is in
    let check = check_after (take i entries) entry (registrations_of c.loop-entry.rows.entries)
    c.loop-entry.line (Ok c.in_ok-line.line) c.loop-entry.invariant.rows
    c.in_ok-line.ensures.checked in
    record {
      right = right_more entries i entry lt is c.loop-entry.invariant.right check.0;
      rows = known_more entries i entry lt is (registrations_of c.loop-entry.rows.entries) _
          c.loop-entry.invariant.rows c.in_ok-line.ensures.added;
      number = omega (
        arith,
        lines_more entries i entry lt is,
        c.loop-entry.invariant.number,
        check.1,
      );
      once = c.in_ok-line.ensures.unique;
    }

pub of_rows-requires-clause-closed : goal.of_rows-requires-clause-closed
of_rows-requires-clause-closed c =
    let entries = c.args.entries.now in
    let all : registrations_of c.loop-entry.rows.entries ≡ registered entries =
    c.loop-entry.invariant.rows ∙ ap registered
    (take_all c.loop-entry.entry-index entries c.loop-entry-test.false) in
    rw all (closed_references_valid _
    (closed_after _ _ c.loop-entry-test.false
    c.loop-entry.invariant.right))

pub returns-clause-closed : goal.returns-clause-closed
returns-clause-closed c = search (rules, closed_after)
