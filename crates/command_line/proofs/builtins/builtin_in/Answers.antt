use Rattle.std.proofs.Common.{rules}
use Rattle.command_line.proofs.BuiltinWords.{parted, unparted}
use Rattle.command_line.proofs.builtins.builtin_in.Goals as goal

pub returns-in_err-name : goal.returns-in_err-name
returns-in_err-name c =
    let none = unparted c.args.word.now c.split_once.result c.split_once.ensures.cases
    c.in_err-name.was in
    rw c.from_residual.ensures none

pub returns : goal.returns
returns c =
    let parts = parted c.args.word.now c.split_once.result c.split_once.ensures.cases
    (c.in_ok-name.name, c.in_ok-name.program) c.in_ok-name.was in
    (parts.has_program, parts.name_is, parts.program_is)
