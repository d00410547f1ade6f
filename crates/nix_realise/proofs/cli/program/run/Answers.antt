use Rattle.std.proofs.Common.{inl, inr}
use Rattle.clap.specs.Words.{kind_of}
use Rattle.nix_realise.proofs.cli.program.run.Goals as goal

pub returns-in-Ok : goal.returns-in-Ok
returns-in-Ok g c =
    inl (
      c.in-Ok.request,
      c.in-Ok.ensures.ok,
      (c.run_subcommand.result, c.run_subcommand.ensures, c.end.ensures),
    )

pub returns-in-Err : goal.returns-in-Err
returns-in-Err g c = inr (kind_of c.in-Err.fault, c.in-Err.ensures.err, c.print_usage.ensures)
