use Rattle.std.proofs.lemmas.Result.{err_from_is_err_and}
use Rattle.sched_core.proofs.DoneEntries.{entry_new}
use Rattle.sched_core.proofs.prepared_entry.PreparedEntry.new.Goals as goal

pub returns-in_err-copy-clause-err : goal.returns-in_err-copy-clause-err
returns-in_err-copy-clause-err c =
    let p = err_from_is_err_and c.from_residual-in_err-copy.result
    c.from_residual-in_err-copy.ensures.1 in
    rw p.1 (entry_new c.args.plan.now c.args.d c.args.journal.now.entries c.args.checked.now
    c.in_ok-entry.entry p.0 c.in_ok-entry.ensures.ok p.2)

pub returns-in_err-shown-clause-err : goal.returns-in_err-shown-clause-err
returns-in_err-shown-clause-err c =
    let p = err_from_is_err_and c.from_residual-in_err-shown.result
    c.from_residual-in_err-shown.ensures.1 in
    rw p.1 (entry_new c.args.plan.now c.args.d c.args.journal.now.entries c.args.checked.now
    c.in_ok-entry.entry p.0 c.in_ok-entry.ensures.ok p.2)

pub returns-in_err-reserve-clause-err : goal.returns-in_err-reserve-clause-err
returns-in_err-reserve-clause-err c =
    let p = err_from_is_err_and c.from_residual-in_err-reserve.result
    c.from_residual-in_err-reserve.ensures.1 in
    rw p.1 (entry_new c.args.plan.now c.args.d c.args.journal.now.entries c.args.checked.now
    c.in_ok-entry.entry p.0 c.in_ok-entry.ensures.ok p.2)
