use Rattle.std.proofs.Common.{subst, rules}
use Rattle.std.proofs.lemmas.List.{take_all}
use Rattle.valid_table.specs.private.Closing.{AddsRows, paths_at}
use Rattle.valid_table.specs.Tables.{registrations_of}
use Rattle.valid_table.proofs.AddedRows.{adds_this_row}
use Rattle.valid_table.proofs.reachability.closure.add_numbers.Goals as goal

pub loop-number-preserved : goal.loop-number-preserved
loop-number-preserved c = search (rules, adds_this_row)

pub returns-clause-adds : goal.returns-clause-adds
returns-clause-adds c =
    let registrations = registrations_of c.args.rows.now.entries in
    subst (λ numbers. AddsRows registrations c.args.found.now.rows (paths_at registrations numbers)
    c.loop-number.found.rows)
    (take_all c.loop-number.number-index c.args.numbers.now c.loop-number-test.false)
    c.loop-number.invariant.adds
