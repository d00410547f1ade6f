use Rattle.std.proofs.Common.{◌∙◌, sym}
use Rattle.std.proofs.lemmas.Bool.{false≢true}
use Rattle.std.proofs.lemmas.Result.{err_from_is_err_and}
use Rattle.sched_core.proofs.DoneEntries.{can_be_sorted, cycle_not_allowed, done_is, fitting_new, not_fitting}
use Rattle.sched_core.proofs.done_entry.done_entry.Goals as goal

pub returns-then-not-are_fitting-clause-err : goal.returns-then-not-are_fitting-clause-err
returns-then-not-are_fitting-clause-err c =
    let told = rw c.records-records.ensures at c.are_fitting.ensures in
    not_fitting c.args.plan.now c.args.d c.args.journal.now.entries _ _ c.args.checked.now
    (record { has_kind = c.kind.ensures; outputs = c.output_paths-paths.ensures.value })
    (λ fitting. false≢true (sym c.if-not-are_fitting.true ∙ told.1 fitting))

pub returns-in_err-is_cyclic-clause-err : goal.returns-in_err-is_cyclic-clause-err
returns-in_err-is_cyclic-clause-err c =
    let told = rw c.records-records.ensures at c.are_fitting.ensures in
    let p = err_from_is_err_and c.from_residual.result c.from_residual.ensures.1 in
    rw (p.1, p.2)
    (fitting_new c.args.plan.now c.args.d c.args.journal.now.entries _ _ c.args.checked.now
    (record { has_kind = c.kind.ensures; outputs = c.output_paths-paths.ensures.value })
    (told.0 c.if-not-are_fitting.false))

pub returns-then-branch-clause-err : goal.returns-then-branch-clause-err
returns-then-branch-clause-err c =
    let cyclic = rw c.records-records.ensures at c.in_ok-is_cyclic.ensures in
    cycle_not_allowed c.args.plan.now c.args.d c.args.journal.now.entries c.kind.result
    c.output_paths-paths.result.now c.args.checked.now
    (record { has_kind = c.kind.ensures; outputs = c.output_paths-paths.ensures.value })
    (cyclic.0 c.if-branch.true)

pub returns-in_err-registrations-clause-err : goal.returns-in_err-registrations-clause-err
returns-in_err-registrations-clause-err c =
    let told = rw c.records-records.ensures at c.are_fitting.ensures in
    let p = err_from_is_err_and c.from_residual-in_err-registrations.result
    c.from_residual-in_err-registrations.ensures.1 in
    rw (p.1, p.2)
    (fitting_new c.args.plan.now c.args.d c.args.journal.now.entries _ _ c.args.checked.now
    (record { has_kind = c.kind.ensures; outputs = c.output_paths-paths.ensures.value })
    (told.0 c.if-not-are_fitting.false))

pub returns-in_err-copy-clause-err : goal.returns-in_err-copy-clause-err
returns-in_err-copy-clause-err c =
    let told = rw c.records-records.ensures at c.are_fitting.ensures in
    let p = err_from_is_err_and c.from_residual-in_err-copy.result
    c.from_residual-in_err-copy.ensures.1 in
    rw (p.1, p.2)
    (fitting_new c.args.plan.now c.args.d c.args.journal.now.entries _ _ c.args.checked.now
    (record { has_kind = c.kind.ensures; outputs = c.output_paths-paths.ensures.value })
    (told.0 c.if-not-are_fitting.false))

pub unreachable-requires : goal.unreachable-requires
unreachable-requires c =
    c.in_default.ensures
    (can_be_sorted c.args.plan.now c.args.d c.kind.result c.output_paths-paths.result.now
    c.in_ok-registrations.registrations.items c.requires c.output_paths-paths.ensures.distinct
    (record { has_kind = c.kind.ensures; outputs = c.output_paths-paths.ensures.value })
    c.in_ok-registrations.ensures.paths)

pub returns-clause-ok : goal.returns-clause-ok
returns-clause-ok c =
    let told = rw c.records-records.ensures at c.are_fitting.ensures in
    let cyclic = rw c.records-records.ensures at c.in_ok-is_cyclic.ensures in
    done_is c.args.plan.now c.args.d c.args.journal.now.entries _ _ c.args.checked.now
    c.in_ok-registrations.registrations.items c.in-Some.outputs
    c.in_ok-copy.field-0
    (record { has_kind = c.kind.ensures; outputs = c.output_paths-paths.ensures.value })
    (rw c.in_ok-copy.ensures.same c.path.ensures.value) (told.0 c.if-not-are_fitting.false)
    (λ round. false≢true (sym c.if-branch.false ∙ cyclic.1 round))
    c.in_ok-registrations.ensures.paths (c.in_ok-registrations.ensures.infos
    ∙ c.records-records.ensures) c.in-Some.ensures
