use Rattle.std.proofs.Common.{subst}
use Rattle.command_line.proofs.Rows.{met, none_met}
use Rattle.command_line.specs.private.Found.{IsFound}
use Rattle.command_line.proofs.words.found_request.Goals as goal

pub subcommand_request-requires-clause-name : goal.subcommand_request-requires-clause-name
subcommand_request-requires-clause-name c =
    let is = met c.args.matches.now _ _ c.in-Some.ensures.name c.in-Some.ensures.rows in
    (subst IsFound is c.requires).0

pub subcommand_request-requires-clause-jobs : goal.subcommand_request-requires-clause-jobs
subcommand_request-requires-clause-jobs c =
    let is = met c.args.matches.now _ _ c.in-Some.ensures.name c.in-Some.ensures.rows in
    (subst IsFound is c.requires).1

pub subcommand_request-requires-clause-cores : goal.subcommand_request-requires-clause-cores
subcommand_request-requires-clause-cores c =
    let is = met c.args.matches.now _ _ c.in-Some.ensures.name c.in-Some.ensures.rows in
    (subst IsFound is c.requires).2

pub returns-clause-ok : goal.returns-clause-ok
returns-clause-ok c =
    let is = met c.args.matches.now _ _ c.in-Some.ensures.name c.in-Some.ensures.rows in
    rw is c.subcommand_request.ensures.ok

pub returns-clause-err : goal.returns-clause-err
returns-clause-err c =
    let is = met c.args.matches.now _ _ c.in-Some.ensures.name c.in-Some.ensures.rows in
    rw is c.subcommand_request.ensures.err

pub unreachable-requires : goal.unreachable-requires
unreachable-requires c =
    subst IsFound (none_met c.args.matches.now c.in-None.ensures.name) c.requires
