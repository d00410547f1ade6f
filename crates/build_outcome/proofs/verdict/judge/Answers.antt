use Rattle.std.proofs.Common.{inr}
use Rattle.std.proofs.lemmas.Result.{err_from_is_err_and}
use Rattle.build_outcome.proofs.Judgings.{acyclic_found, taken_of}
use Rattle.build_outcome.proofs.Verdicts.{cycle_found, refused}
use Rattle.build_outcome.proofs.verdict.judge.Goals as goal

pub returns-in_err-check_there : goal.returns-in_err-check_there
returns-in_err-check_there c =
    let p = err_from_is_err_and c.from_residual.result c.from_residual.ensures.1 in
    rw (p.1, p.2) (λ answer is. inr (c.in_err-check_there.ensures.err c.args.permitted.now answer is))

pub returns-in_err-check_modes : goal.returns-in_err-check_modes
returns-in_err-check_modes c =
    let p = err_from_is_err_and c.from_residual-in_err-check_modes.result
    c.from_residual-in_err-check_modes.ensures.1 in
    rw (p.1, p.2) (λ answer is.
    let there = c.in_ok-check_there.ensures.there c.args.permitted.now answer is in
    inr (c.in_err-check_modes.ensures.err c.args.permitted.now answer is there))

pub returns-in_err-check_trees : goal.returns-in_err-check_trees
returns-in_err-check_trees c =
    let p = err_from_is_err_and c.from_residual-in_err-check_trees.result
    c.from_residual-in_err-check_trees.ensures.1 in
    rw (p.1, p.2) (λ answer is.
    let there = c.in_ok-check_there.ensures.there c.args.permitted.now answer is in
    let good = c.in_ok-check_modes.ensures.good c.args.permitted.now answer is in
    inr (c.in_err-check_trees.ensures.err c.args.permitted.now answer is there good))

pub returns-in_err-records : goal.returns-in_err-records
returns-in_err-records c =
    let p = err_from_is_err_and c.from_residual-in_err-records.result
    c.from_residual-in_err-records.ensures.1 in
    rw (p.1, p.2) (λ answer is.
    let taken = taken_of _ _ answer _ is c.in_ok-check_there.ensures.there
    c.in_ok-check_modes.ensures.good c.in_ok-check_trees.ensures.taken in
    refused _ _ _ _ taken (c.in_err-records.ensures.err answer is taken))

pub returns-in_err-refer_in_cycle : goal.returns-in_err-refer_in_cycle
returns-in_err-refer_in_cycle c =
    let p = err_from_is_err_and c.from_residual-in_err-refer_in_cycle.result
    c.from_residual-in_err-refer_in_cycle.ensures.1 in
    rw p.1 (λ answer is.
    let taken = taken_of _ _ answer _ is c.in_ok-check_there.ensures.there
    c.in_ok-check_modes.ensures.good c.in_ok-check_trees.ensures.taken in
    refused _ _ _ _ taken p.2)

pub returns-then-branch : goal.returns-then-branch
returns-then-branch c answer is =
    let taken = taken_of _ _ answer _ is c.in_ok-check_there.ensures.there
    c.in_ok-check_modes.ensures.good c.in_ok-check_trees.ensures.taken in
    let told = rw c.deref.ensures.value at c.in_ok-refer_in_cycle.ensures in
    cycle_found _ _ _ _ taken (c.in_ok-records.ensures.records answer is taken)
    (told.0 c.if-branch.true)

pub returns : goal.returns
returns c answer is =
    let taken = taken_of _ _ answer _ is c.in_ok-check_there.ensures.there
    c.in_ok-check_modes.ensures.good c.in_ok-check_trees.ensures.taken in
    let told = rw c.deref.ensures.value at c.in_ok-refer_in_cycle.ensures in
    acyclic_found _ _ _ _ _ _ taken (c.in_ok-records.ensures.records answer is taken)
    c.new.ensures told c.if-branch.false
