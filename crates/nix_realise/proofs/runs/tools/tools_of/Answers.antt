use Rattle.std.proofs.Common.{inr, map}
use Rattle.std.proofs.lemmas.Result.{err_from_is_err_and}
use Rattle.command_line.specs.declared.options.Builtin.{Builtin}
use Rattle.command_line.specs.declared.options.RealiseRequest.{RealiseRequest}
use Rattle.nix_realise.specs.Tools.{IsNoProgram, IsNoTool}
use Rattle.nix_realise.specs.declared.cli.run_error.RunError.{RunError}
use Rattle.nix_realise.specs.declared.cli.run_error.RunError.TheVariants.{NoMemory, NoRunner}
use Rattle.nix_realise.proofs.runs.tools.tools_of.Goals as goal

-- a program that can't be started is one that the words name
no_tool : (request : RealiseRequest) (stop : RunError)
    → IsNoProgram (map (λ (b : Builtin). b.program.now) request.run.builtins.items) stop
    → IsNoTool request stop
no_tool request (NoRunner blamed) h = inr h
no_tool request NoMemory h = h
no_tool request stop h = absurd h

pub returns-in_err-builtins-clause-err : goal.returns-in_err-builtins-clause-err
returns-in_err-builtins-clause-err g c =
    let step = c.from_residual-in_err-builtins in
    let e = err_from_is_err_and step.result step.ensures.1 in
    rw (e.1, e.2)
    (no_tool c.args.request.now c.in_err-builtins.field-0.0
    (rw c.deref.ensures.value at c.in_err-builtins.ensures.err))
