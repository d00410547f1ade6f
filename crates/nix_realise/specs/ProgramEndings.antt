-- How a run of the program ends, by the words of its command line: what was printed, and the
-- status.
use Rattle.std.specs.Prelude.{◌≡◌, ◌⊎◌, ℕ, List, Option, Some, None, Result, Ok, Err, map, string_bytes}
use Rattle.std.specs.Global.{Vec}
use Rattle.std.specs.Io.KnownBytes.{Appends}
use Rattle.clap.specs.declared.error.kind.ErrorKind.{ErrorKind}
use Rattle.clap.specs.declared.error.kind.ErrorKind.TheVariants.{DisplayHelp, DisplayVersion}
use Rattle.clap.specs.declared.error.kind.ErrorKind.TheVariants.{OutOfMemory}
use Rattle.nix_names.specs.Bytes.{Bytes}
use Rattle.command_line.specs.Usage.{IsAsked, IsUsageFault}
use Rattle.command_line.specs.declared.faults.FaultTable.{FaultTable}
use Rattle.command_line.specs.declared.options.CheckRequest.{CheckRequest}
use Rattle.command_line.specs.declared.options.Request.{Request}
use Rattle.command_line.specs.declared.options.Request.TheVariants.{Check, AddText, AddDrv, Plan}
use Rattle.command_line.specs.declared.options.Request.TheVariants.{Realise, Dump, Restore, Hash}
use Rattle.command_line.specs.declared.options.Request.TheVariants.{Verify, Faults}
use Rattle.nix_realise.specs.ArchiveEndings.{DumpEnds, HashEnds, RestoreEnds}
use Rattle.nix_realise.specs.CheckLines.{IsCheckReport}
use Rattle.nix_realise.specs.DrvEndings.{DrvEnds}
use Rattle.nix_realise.specs.Endings.{Ends}
use Rattle.nix_realise.specs.Outcomes.{EndsQuietly, EndsWritten}
use Rattle.nix_realise.specs.Folders.{may_give}
use Rattle.nix_realise.specs.Planning.{PlanEnds}
use Rattle.nix_realise.specs.Realising.{May, RealiseEnds}
use Rattle.nix_realise.specs.RunErrors.{IsStopOf, IsTold}
use Rattle.nix_realise.specs.Tracing.{EndsTold}
use Rattle.nix_realise.specs.Verifying.{VerifyEnds}
use Rattle.nix_realise.specs.declared.cli.exit.Outcome.{Outcome}
use Rattle.nix_realise.specs.declared.cli.exit.Exit.{Exit}
use Rattle.nix_realise.specs.declared.cli.exit.Exit.TheVariants.{Printed, Unprinted}
use Rattle.nix_realise.specs.declared.cli.exit.Status.{Status}
use Rattle.nix_realise.specs.declared.cli.exit.Status.TheVariants.{Done, Refused}
use Rattle.nix_realise.specs.declared.cli.run_error.RunError.{RunError}
use Rattle.nix_realise.specs.declared.cli.run_error.RunError.TheVariants.{NoMemory, Unwritable}

-- what standard output, or standard error, held before the run, and holds after it
abbrev pub Stream : Type 0
Stream = Option Bytes × Option Bytes

-- nothing was written
abbrev pub IsUntouched : Stream → Type 0
IsUntouched stream = stream.1 ≡ stream.0

-- How `check` ends: with its lines; or with the reason why it has no lines, and nothing printed,
-- unless standard output refused the lines.
abbrev pub CheckEnds : CheckRequest → Stream → Result Status RunError → Type 0
CheckEnds request out (Ok status) =
    (text : Bytes)
    × IsCheckReport (λ _ answer. may_give answer) request.store_dir.now
    (map (λ w. w.now) request.drvs.items) text status
    × Appends out.0 out.1 text
CheckEnds request out (Err stop) =
    IsStopOf request.store_dir.now stop × (IsUntouched out ⊎ (stop ≡ Unwritable))

-- How `help faults` ends: the table is printed; or memory is refused, and nothing is printed; or
-- standard output refuses the text.
abbrev pub FaultsEnd : Stream → Result Status RunError → Type 0
FaultsEnd out (Ok status) =
    (status ≡ Done) × ((table : FaultTable) × Appends out.0 out.1 (string_bytes table.text))
FaultsEnd out (Err NoMemory) = IsUntouched out
FaultsEnd out (Err Unwritable) = Unit {0}
FaultsEnd out (Err stop) = ⊥

-- How the subcommand of a request ends.
abbrev pub SubcommandEnds : May → Request → Stream → Result Outcome RunError → Type 0
SubcommandEnds may (Check request) out outcome = EndsQuietly (CheckEnds request out) outcome
SubcommandEnds may (AddText request) out outcome =
    EndsWritten (Ends request out.0 out.1) outcome
SubcommandEnds may (AddDrv request) out outcome =
    EndsWritten (DrvEnds request out.0 out.1) outcome
SubcommandEnds may (Plan request) out outcome = PlanEnds request out.0 out.1 outcome
SubcommandEnds may (Realise request) out outcome =
    EndsTold (RealiseEnds may request out.0 out.1) outcome
SubcommandEnds may (Dump request) out outcome = EndsQuietly (DumpEnds request out.0 out.1) outcome
SubcommandEnds may (Restore request) out outcome =
    IsUntouched out × EndsQuietly (RestoreEnds request) outcome
SubcommandEnds may (Hash request) out outcome = EndsQuietly (HashEnds request out.0 out.1) outcome
SubcommandEnds may (Verify request) out outcome =
    EndsQuietly (VerifyEnds request out.0 out.1) outcome
SubcommandEnds may Faults out outcome = EndsQuietly (FaultsEnd out) outcome

-- A subcommand that wasn't stopped ends with its status. Standard error gets its last lines, or
-- refuses them.
abbrev pub IsToldWith : Status → Option (Vec ℕ) → Stream → Exit → Type 0
IsToldWith status None err end = (end ≡ Printed status) × IsUntouched err
IsToldWith status (Some lines) err end =
    ((end ≡ Printed status) × Appends err.0 err.1 lines.items) ⊎ (end ≡ Unprinted)

-- What standard error gets: the last lines of a subcommand that wasn't stopped, else the line of
-- what stopped it.
abbrev pub IsToldEnd : Result Outcome RunError → Stream → Exit → Type 0
IsToldEnd (Ok finish) err end = IsToldWith finish.status finish.lines err end
IsToldEnd (Err stop) err end = IsTold err.0 err.1 stop end

-- How a run ends on a request.
abbrev pub RequestEnds : May → Request → (out err : Stream) → Exit → Type 0
RequestEnds may request out err end =
    (outcome : Result Outcome RunError) × SubcommandEnds may request out outcome
    × IsToldEnd outcome err end

-- How a run ends that shows the help or the version: the text is printed, or standard output
-- refuses it.
abbrev pub ShownEnds : (err : Stream) → Exit → Type 0
ShownEnds err end =
    ((end ≡ Printed Done) × IsUntouched err) ⊎ IsTold err.0 err.1 Unwritable end

-- How a run ends whose words are not taken. A mistake in them is printed on standard error alone,
-- unless that refuses the text. Want of memory is told as ever.
abbrev pub UsageEnds : ErrorKind → (out err : Stream) → Exit → Type 0
UsageEnds DisplayHelp out err end = ShownEnds err end
UsageEnds DisplayVersion out err end = ShownEnds err end
UsageEnds OutOfMemory out err end = IsUntouched out × IsTold err.0 err.1 NoMemory end
UsageEnds kind out err end = IsUntouched out × ((end ≡ Printed Refused) ⊎ (end ≡ Unprinted))

-- How a run ends: by what the words ask for, or by what is wrong with them.
abbrev pub ProgramEnds : May → (words : List Bytes) → (out err : Stream) → Exit → Type 0
ProgramEnds may words out err end =
    ((request : Request) × IsAsked words request × RequestEnds may request out err end)
    ⊎ ((kind : ErrorKind) × IsUsageFault words kind × UsageEnds kind out err end)
