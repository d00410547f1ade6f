-- How a subcommand ends: its status and its last lines, or what stopped it.
use Rattle.std.specs.Prelude.{◌≡◌, ℕ, [], Option, Some, None, Result, Ok, Err}
use Rattle.std.specs.Global.{Vec}
use Rattle.nix_names.specs.Bytes.{Bytes}
use Rattle.nix_realise.specs.declared.io.all_written.AllWritten.{AllWritten}
use Rattle.nix_realise.specs.declared.cli.exit.Outcome.{Outcome}
use Rattle.nix_realise.specs.declared.cli.exit.Status.{Status}
use Rattle.nix_realise.specs.declared.cli.run_error.RunError.{RunError}

-- the end of a subcommand that tells standard error nothing
abbrev pub quietly : Result Status RunError → Result Outcome RunError
quietly (Ok status) = Ok (record { status = status; lines = None })
quietly (Err stop) = Err stop

-- a subcommand that ends so tells standard error nothing
abbrev pub EndsQuietly : (Result Status RunError → Type 0) → Result Outcome RunError → Type 0
EndsQuietly ends outcome = (ended : Result Status RunError) × (outcome ≡ quietly ended) × ends ended

-- the end of a subcommand whose files were written, and that tells standard error nothing
abbrev pub quietly_written : Result AllWritten RunError → Result Outcome RunError
quietly_written (Ok written) = Ok (record { status = written.status; lines = None })
quietly_written (Err stop) = Err stop

abbrev pub EndsWritten : (Result AllWritten RunError → Type 0) → Result Outcome RunError → Type 0
EndsWritten ends outcome =
    (ended : Result AllWritten RunError) × (outcome ≡ quietly_written ended) × ends ended

-- lines as one text
abbrev pub text_of : Option (Vec ℕ) → Bytes
text_of (Some lines) = lines.items
text_of None = []

-- what standard error gets at the end
abbrev pub last_text : Outcome → Bytes
last_text finish = text_of finish.lines
