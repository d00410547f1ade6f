use Rattle.std.proofs.Common.{subst}
use Rattle.std.specs.Prelude.{IfOk, string_bytes}
use Rattle.process_build.specs.private.BuilderCalls.{Runs}
use Rattle.process_build.proofs.process.processes.ProcessBuild.command.Goals as goal

pub returns : goal.returns
returns g c =
    subst (λ runner. IfOk c.command.result
    (Runs runner c.args.setup.now (string_bytes c.args.folder.now.path))) c.runner-runner.ensures
    c.command.ensures
