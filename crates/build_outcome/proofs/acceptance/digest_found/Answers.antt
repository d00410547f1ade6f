use Rattle.build_outcome.proofs.Knowns.{asked_flat, flat_found, not_flat, recursive_found, recursive_needs}
use Rattle.build_outcome.proofs.acceptance.digest_found.Goals as goal

pub returns-then-is_flat_file : goal.returns-then-is_flat_file
returns-then-is_flat_file c permitted output known kind =
    flat_found c.args.job.now.profile c.args.method output.tree c.args.declared.now
    c.algorithm.result c.file_digest.result c.in-Flat.is
    ((c.is_flat_file.ensures permitted output known).0 c.if-is_flat_file.true)
    c.algorithm.ensures
    (c.file_digest.ensures c.args.job.now permitted output known
    (asked_flat c.args.job.now.profile c.args.job.now.kind c.args.method c.args.declared.now
    c.algorithm.result kind c.in-Flat.is c.algorithm.ensures))

pub returns-else-is_flat_file : goal.returns-else-is_flat_file
returns-else-is_flat_file c permitted output known kind =
    not_flat c.args.job.now.profile c.args.method output.tree c.is_flat_file.result c.in-Flat.is
    (c.is_flat_file.ensures permitted output known) c.if-is_flat_file.false

pub returns-in-Some : goal.returns-in-Some
returns-in-Some c permitted output known kind =
    recursive_found c.args.job.now output.tree c.args.method c.args.declared.now
    c.in-Some.sum.now c.in-Recursive.is kind
    (c.in-Some.ensures c.args.job.now permitted output known)

pub returns-in-None : goal.returns-in-None
returns-in-None c permitted output known kind form =
    c.in-None.ensures c.args.job.now permitted output known
    (recursive_needs c.args.job.now.profile c.args.job.now.kind c.args.method
    c.args.declared.now kind c.in-Recursive.is)
