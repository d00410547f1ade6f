use Rattle.build_outcome.proofs.Specifiers.{adds_path, named_told}
use Rattle.build_outcome.proofs.checks.specifiers.add_specified.Goals as goal

pub returns-in_ok-push-in-Some : goal.returns-in_ok-push-in-Some
returns-in_ok-push-in-Some c =
    let told = rw c.in-Some.is at c.in_ok-path.ensures in
    λ own home. adds_path c.args.job.now c.args.dir.now own c.args.specifier.now
    _ _ _ told c.in_ok-push-in-Some.ensures.items home

pub returns-in-None : goal.returns-in-None
returns-in-None c =
    let told = rw c.in-None.is at c.in_ok-path.ensures in
    named_told c.args.job.now c.args.dir.now c.args.specifier.now _ _ _
    told (rw c.deref.ensures.value at c.add_named.ensures)
