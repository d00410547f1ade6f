use Rattle.std.proofs.Common.{rules}
use Rattle.build_outcome.proofs.FixedDigests.{nothing_wrong}
use Rattle.build_outcome.proofs.Knowns.{addressed_taken, fault_mismatch, fault_not_flat, past}
use Rattle.build_outcome.proofs.acceptance.check_known.Goals as goal

pub returns-then-not-may_be_taken-clause-err : goal.returns-then-not-may_be_taken-clause-err
returns-then-not-may_be_taken-clause-err c permitted output known =
    past _ _ (c.may_be_taken.ensures permitted output known) c.if-not-may_be_taken.true

pub returns-in_default-clause-taken : goal.returns-in_default-clause-taken
returns-in_default-clause-taken c permitted output known =
    addressed_taken c.args.job.now.profile c.args.job.now.kind output.tree c.in_default.is
    ((c.may_be_taken.ensures permitted output known).0 c.if-not-may_be_taken.false)

pub returns-in-None-clause-err : goal.returns-in-None-clause-err
returns-in-None-clause-err c permitted output known =
    fault_not_flat c.args.job.now.profile c.args.job.now.kind output.tree _ _ c.in-Fixed.is
    ((c.may_be_taken.ensures permitted output known).0 c.if-not-may_be_taken.false)
    (c.in-None.ensures permitted output known c.in-Fixed.is)

pub returns-in-Some-clause-err : goal.returns-in-Some-clause-err
returns-in-Some-clause-err c permitted output known =
    fault_mismatch c.args.job.now.profile c.args.job.now.kind output.tree _ _ _ c.in-Fixed.is
    ((c.may_be_taken.ensures permitted output known).0 c.if-not-may_be_taken.false)
    (c.in-Some.ensures permitted output known c.in-Fixed.is) (search rules)

pub returns-in-Some-2-clause-taken : goal.returns-in-Some-2-clause-taken
returns-in-Some-2-clause-taken c permitted output known =
    let told = c.in-Some-2.ensures permitted output known c.in-Fixed.is in
    nothing_wrong c.args.job.now.profile c.args.job.now.kind output.tree _ _ _ c.in-Fixed.is
    ((c.may_be_taken.ensures permitted output known).0 c.if-not-may_be_taken.false)
    told.0 told.1 (search rules)
