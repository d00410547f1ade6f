use Rattle.std.proofs.Common.{subst, sym, rules}
use Rattle.valid_table.specs.Tables.{registrations_of}
use Rattle.valid_table.specs.Valid.{IsOnce}
use Rattle.valid_table.proofs.CheckedEntries.{own_checked}
use Rattle.valid_table.proofs.EnteredPaths.{all_new}
use Rattle.valid_table.proofs.EnteredRows.{check_before, where_right}
use Rattle.valid_table.proofs.TakenIn.{once_more}
use Rattle.valid_table.proofs.journal_text.checking.check_entry.Goals as goal

pub returns-clause-checked : goal.returns-clause-checked
returns-clause-checked c = search (rules, own_checked, check_before)

pub returns-clause-added : goal.returns-clause-added
returns-clause-added c = search (rules, where_right)

pub returns-clause-unique : goal.returns-clause-unique
returns-clause-unique c =
    let known = registrations_of c.args.rows.now.entries in
    let rs = c.registrations-registrations.result.now in
    where_right _ _ _ _ _ c.check_lines.ensures
    (λ long. subst IsOnce (sym (c.in_ok-new.ensures.whole long))
    (once_more _ _ c.requires.once c.registrations-registrations.ensures.rising
    (all_new _ _ _ c.in_ok-new.ensures.prefix long)))
