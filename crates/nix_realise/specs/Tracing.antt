-- How a run ends whose trace may be asked for.
use Rattle.std.specs.Prelude.{◌≡◌, [], Option, Some, None, Result, Ok, Err}
use Rattle.std.specs.Borrow.{Bor}
use Rattle.nix_names.specs.Bytes.{Bytes}
use Rattle.process_build.specs.Traces.{trace_of}
use Rattle.process_build.specs.declared.failures.Failure.{Failure}
use Rattle.process_build.specs.declared.failures.Failure.TheVariants as failure
use Rattle.sched_core.specs.Books.{Ledger}
use Rattle.nix_realise.specs.RunTraces.{IsRunTrace}
use Rattle.nix_realise.specs.declared.cli.exit.Outcome.{Outcome}
use Rattle.nix_realise.specs.declared.cli.run_error.RunError.{RunError}
use Rattle.nix_realise.specs.declared.cli.run_error.RunError.TheVariants as stop
use Rattle.nix_realise.specs.declared.io.trace_file.TraceTried.{TraceTried}
use Rattle.nix_realise.specs.declared.io.trace_file.TraceTried.TheVariants.{Written, Unwritten, NoText}
use Rattle.nix_realise.specs.declared.io.trace_file.TracedRun.{TracedRun}

-- The text is the trace of a run that left this book: of what its history tells. Where the run left
-- none, the trace has no lease.
abbrev pub IsTraceOf : Option Ledger → (text : Bytes) → Type 0
IsTraceOf (Some book) text = IsRunTrace book.run book.history text
IsTraceOf None text = text ≡ trace_of []

-- what came of writing the trace of a run that left this book, or none, to a file
abbrev pub IsTriedAt : (file : Bor Bytes) → Option Ledger → TraceTried → Type 0
IsTriedAt file left (Written written) = (written.path ≡ file) × IsTraceOf left written.bytes.items
IsTriedAt file left (Unwritten blamed why) = blamed ≡ file
IsTriedAt file left (NoText refused) = Unit {0}

-- what came of writing the trace to the file that was to get it, if one was asked for
abbrev pub IsTraceTried : Option (Bor Bytes) → Option Ledger → Option TraceTried → Type 0
IsTraceTried (Some file) left (Some tried) = IsTriedAt file left tried
IsTraceTried None left None = Unit {0}
IsTraceTried file left tried = ⊥

-- what ends a run whose trace file is not written for this reason
abbrev pub trace_stop : (file : Bor Bytes) → Failure → RunError
trace_stop file failure.NoMemory = stop.NoMemory
trace_stop file why = stop.NoTrace file

-- what is told of a run that was not stopped, by what came of writing its trace
abbrev pub told_with : TraceTried → Outcome → Result Outcome RunError
told_with (Written written) finish = Ok finish
told_with (Unwritten file why) finish = Err (trace_stop file why.failure)
told_with (NoText refused) finish = Err stop.NoMemory

-- what is told of a run: what stopped it, if anything did; else why there is no trace
abbrev pub told_by : Option TraceTried → (ended : Result Outcome RunError)
    → Result Outcome RunError
told_by (Some tried) (Ok finish) = told_with tried finish
told_by trace ended = ended

-- what is told of a run that may have been stopped before its workers were made
abbrev pub told_of : Result TracedRun RunError → Result Outcome RunError
told_of (Ok run) = told_by run.trace run.ended
told_of (Err stopped) = Err stopped

-- how a run that ends so is told
abbrev pub EndsTold : (Result TracedRun RunError → Type 0) → Result Outcome RunError → Type 0
EndsTold ends outcome = (ended : Result TracedRun RunError) × (outcome ≡ told_of ended) × ends ended
