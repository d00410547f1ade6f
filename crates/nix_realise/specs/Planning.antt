-- How a run of `plan` ends: its status, what was printed, and its last line.
use Rattle.std.specs.Prelude.{◌≡◌, ◌≢◌, ◌⊎◌, ◌<◌, ◌++◌, ℕ, Bool, true, false, List, [], Option, Result, Ok, Err, codes, if◌then◌else◌, length}
use Rattle.std.specs.Io.KnownBytes.{Appends}
use Rattle.nix_names.specs.Bytes.{Bytes}
use Rattle.drv_graph.specs.Nodes.{Node}
use Rattle.drv_graph.specs.Twins.{first_twin_of}
use Rattle.valid_table.specs.declared.entry.Entry.{Entry}
use Rattle.run_states.specs.Runs.{Run as RunOver}
use Rattle.run_states.specs.Systems.{Platform}
use Rattle.run_report.specs.Forecasts.{IsForecast, is_whole}
use Rattle.run_report.specs.Pictures.{IsPicture}
use Rattle.command_line.specs.declared.options.PlanRequest.{PlanRequest}
use Rattle.nix_realise.specs.Files.{FileBytes}
use Rattle.nix_realise.specs.Folders.{may_give}
use Rattle.nix_realise.specs.Outcomes.{last_text}
use Rattle.nix_realise.specs.RunSystems.{IsSystemOf}
use Rattle.nix_realise.specs.Tasks.{IsTaskTaken}
use Rattle.nix_realise.specs.declared.cli.exit.Outcome.{Outcome}
use Rattle.nix_realise.specs.declared.cli.exit.Status.{Status}
use Rattle.nix_realise.specs.declared.cli.exit.Status.TheVariants.{Done, Unrealised}
use Rattle.nix_realise.specs.declared.cli.run_error.RunError.{RunError}
use Rattle.nix_realise.specs.declared.cli.run_error.RunError.TheVariants.{NoMemory, Unwritable}
use Rattle.nix_realise.specs.declared.queries.task.Task.{Task}

-- the run that is forecast, for a system
abbrev pub over : Platform → Task → RunOver
over system task = record { graph = task.plan; system = system }

-- the status: `Done` where each root would be built or reused
abbrev pub whole_status : RunOver → (opening : List Entry) → Status
whole_status run opening = if is_whole run opening then Done else Unrealised

-- the text that is printed for a run that opens with these entries: its forecast, or its picture
-- where a graph is asked for
abbrev pub IsForecastPrinted : (dot : Bool) → RunOver → (opening : List Entry) → (text : Bytes)
    → Type 0
IsForecastPrinted false run opening text = IsForecast run opening text
IsForecastPrinted true run opening text = IsPicture run opening text

-- Two derivations of a plan have the same outputs: an earlier one has those of the one numbered d.
abbrev pub HasTwins : List Node → Type 0
HasTwins nodes = (d : ℕ) × (d < length nodes) × (first_twin_of nodes d ≢ d)

-- the line that says that *Any interruption* doesn't speak of such a plan
abbrev pub twins_line : Bytes
twins_line =
    codes "nix_realise: run: derivations share outputs, so a run that is killed and started again "
    ++ codes "may end otherwise than one run\n"

-- the text is that line where two derivations of the plan have the same outputs, and else it is empty
abbrev pub IsTwinsText : List Node → (text : Bytes) → Type 0
IsTwinsText nodes text =
    (HasTwins nodes × (text ≡ twins_line)) ⊎ (¬ HasTwins nodes × (text ≡ []))

-- How a run for a system ends over a plan and a journal: the forecast is printed, or nothing for
-- want of memory.
abbrev pub ForecastEnds : PlanRequest → Platform → Task → (before after : Option Bytes)
    → Result Outcome RunError → Type 0
ForecastEnds request system task before after (Ok finish) =
    ((text : Bytes) × IsForecastPrinted request.dot (over system task) task.journal.entries text
    × Appends before after text)
    × (finish.status ≡ whole_status (over system task) task.journal.entries)
    × IsTwinsText task.plan.nodes (last_text finish)
ForecastEnds request system task before after (Err NoMemory) = after ≡ before
ForecastEnds request system task before after (Err Unwritable) = Unit {0}
ForecastEnds request system task before after (Err stop) = ⊥

-- How a run ends that has a plan and a journal: for a system of its words, or for want of memory.
abbrev pub TaskPlanned : PlanRequest → Task → (before after : Option Bytes)
    → Result Outcome RunError → Type 0
TaskPlanned request task before after result =
    ((result ≡ Err NoMemory) × (after ≡ before))
    ⊎ ((system : Platform) × IsSystemOf request.run system
    × ForecastEnds request system task before after result)

-- How a run ends, by what the journal file gave. Nothing is printed where the request is refused.
abbrev pub PlanEndsBy : PlanRequest → (gave : FileBytes) → (before after : Option Bytes)
    → Result Outcome RunError → Type 0
PlanEndsBy request gave before after result =
    ((stop : RunError) × (result ≡ Err stop) × (after ≡ before)
    × IsTaskTaken (λ _ answer. may_give answer) request.run gave (Err stop))
    ⊎ ((task : Task) × IsTaskTaken (λ _ answer. may_give answer) request.run gave (Ok task)
    × TaskPlanned request task before after result)

-- how it ends: nothing is known of what the journal file gave
abbrev pub PlanEnds : PlanRequest → (before after : Option Bytes) → Result Outcome RunError → Type 0
PlanEnds request before after result =
    (gave : FileBytes) × PlanEndsBy request gave before after result
