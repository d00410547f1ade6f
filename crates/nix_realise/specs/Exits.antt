-- The exit statuses of the process.
use Rattle.std.specs.Prelude.{ℕ}
use Rattle.nix_realise.specs.declared.cli.exit.Exit.{Exit}
use Rattle.nix_realise.specs.declared.cli.exit.Exit.TheVariants as ending
use Rattle.nix_realise.specs.declared.cli.exit.Status.{Status}
use Rattle.nix_realise.specs.declared.cli.exit.Status.TheVariants.{Done, Unrealised, Refused}
use Rattle.nix_realise.specs.declared.cli.exit.Status.TheVariants.{CutShort}

-- the process's exit status for a run's status
abbrev pub code_of : Status → ℕ
code_of Done = 0
code_of Unrealised = 1
code_of Refused = 2
code_of CutShort = 3

-- the status of a run that ended so
abbrev pub ending_status : Exit → Status
ending_status (ending.Printed status) = status
ending_status ending.NoMemory = CutShort
ending_status ending.Unprinted = CutShort
