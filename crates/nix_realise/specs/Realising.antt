-- How a run of `realise` ends: its status, and what was printed.
use Rattle.std.specs.Prelude.{◌≡◌, ◌⊎◌, ◌≤◌, ◌<◌, Bool, Option, Some, Result, Ok, Err, is_some, length}
use Rattle.std.specs.Io.KnownBytes.{Appends}
use Rattle.nix_names.specs.Bytes.{Bytes}
use Rattle.drv_graph.specs.Plans.{Graph}
use Rattle.sched_core.specs.Books.{Ledger}
use Rattle.run_report.specs.Reports.{IsReportIn}
use Rattle.run_states.specs.Systems.{Platform}
use Rattle.build_outcome.specs.declared.job.Answer.{Answer}
use Rattle.build_outcome.specs.declared.job.Job.{Job}
use Rattle.build_outcome.specs.declared.reason.Reason.{Reason}
use Rattle.store_run.specs.Realising.{IsRealised, IsRunFault}
use Rattle.store_run.specs.declared.fault.RunFault.{RunFault}
use Rattle.valid_table.specs.Written.{written_text}
use Rattle.command_line.specs.declared.options.RealiseRequest.{RealiseRequest}
use Rattle.nix_realise.specs.AddedText.{IsJournalOf}
use Rattle.nix_realise.specs.Building.{IsNoFolder}
use Rattle.nix_realise.specs.Tools.{IsNoTool}
use Rattle.nix_realise.specs.Files.{FileBytes}
use Rattle.nix_realise.specs.Outcomes.{last_text}
use Rattle.nix_realise.specs.Folders.{may_give}
use Rattle.nix_realise.specs.JournalFiles.{max_journal_len}
use Rattle.nix_realise.specs.LastLines.{AreKeptFor, IsLastText}
use Rattle.nix_realise.specs.Locking.{IsKeptOut}
use Rattle.nix_realise.specs.Tasks.{HasPlan, IsNotPlanned}
use Rattle.nix_realise.specs.Tracing.{IsTraceTried}
use Rattle.nix_realise.specs.RootsStatus.{roots_status}
use Rattle.nix_realise.specs.RunSystems.{IsSystemOf}
use Rattle.nix_realise.specs.declared.cli.exit.Outcome.{Outcome}
use Rattle.nix_realise.specs.declared.cli.run_error.RunError.{RunError}
use Rattle.nix_realise.specs.declared.cli.run_error.RunError.TheVariants.{JournalNotWritten, JournalTooLong}
use Rattle.nix_realise.specs.declared.cli.run_error.RunError.TheVariants.{NoMemory, Run, Unwritable}
use Rattle.nix_realise.specs.declared.queries.task.Task.{Task}
use Rattle.nix_realise.specs.declared.io.trace_file.TracedRun.{TracedRun}
use Rattle.nix_realise.specs.declared.words.kept_lines.KeptBuilds.{KeptBuilds}

-- what a builder may give for a job
abbrev pub May : Type 1
May = Job → Result Answer Reason → Type 0

-- the workers settled a book over the plan and the journal, for a system of the request's words
abbrev pub IsSettledBook : May → RealiseRequest → Task → Ledger → Type 0
IsSettledBook may request task book = (system : Platform) × IsSystemOf request.run system
    × IsRealised may task.plan system task.journal.entries request.jobs book

-- A run ends for this fault of its workers. Where they left a book, its journal was written, or
-- could not be.
abbrev pub IsCutShort : RunFault → (has_book : Bool) → RunError → Type 0
IsCutShort fault has_book (Run told kept) = (told ≡ fault) × (kept.has_book ≡ has_book)
IsCutShort fault has_book stop = ⊥

-- the workers gave no settled book, but this one, or none, and this ends the run
abbrev pub IsFallingShort : May → RealiseRequest → Task → Option Ledger → RunError → Type 0
IsFallingShort may request task left stop =
    (fault : RunFault) × (system : Platform) × IsSystemOf request.run system
    × IsRunFault may task.plan system task.journal.entries request.jobs fault left
    × IsCutShort fault (is_some left) stop

-- the text of the book's entries has no more bytes than a journal may have
abbrev pub HasShortText : Ledger → Type 0
HasShortText book = length (written_text book.history.entries) ≤ max_journal_len

-- How a run ends with a settled book: its report is printed, or nothing where the journal is not
-- written, exactly where its text is too long or else since it can't be, or memory is refused. The
-- last lines tell which build folders were kept, and of none where the request doesn't ask for
-- that.
abbrev pub BookEnds : RealiseRequest → Ledger → (before after : Option Bytes)
    → Result Outcome RunError → Type 0
BookEnds request book before after (Ok finish) =
    ((text : Bytes) × IsReportIn book.run book.history text × Appends before after text)
    × (finish.status ≡ roots_status book.run book.history)
    × ((kept : KeptBuilds) × AreKeptFor request kept
    × IsLastText request book.run book.history kept (last_text finish))
    × HasShortText book
BookEnds request book before after (Err JournalTooLong) =
    (after ≡ before) × (max_journal_len < length (written_text book.history.entries))
BookEnds request book before after (Err JournalNotWritten) = (after ≡ before) × HasShortText book
BookEnds request book before after (Err NoMemory) = after ≡ before
BookEnds request book before after (Err Unwritable) = HasShortText book
BookEnds request book before after (Err stop) = ⊥

-- How a run ends over a plan and a journal, whose workers left this book, or none: with a settled
-- book; or with the fault of the workers, and nothing printed.
abbrev pub RunEnds : May → RealiseRequest → Task → (left : Option Ledger)
    → (before after : Option Bytes) → Result Outcome RunError → Type 0
RunEnds may request task left before after result =
    ((book : Ledger) × (left ≡ Some book) × IsSettledBook may request task book
    × BookEnds request book before after result)
    ⊎ ((stop : RunError) × (result ≡ Err stop) × (after ≡ before)
    × IsFallingShort may request task left stop)

-- Why the workers of a run don't start, though it has a plan and a journal: the journal can't be
-- written; the folder of logs can't be made; or memory is refused.
abbrev pub IsNotBegun : RealiseRequest → RunError → Type 0
IsNotBegun request stop = (stop ≡ JournalNotWritten) ⊎ IsNoFolder request.logs stop

-- How a run over a plan and a journal ends, and what comes of its trace: that of the book that its
-- workers left, whether it was stopped or not.
abbrev pub TracedEnds : May → RealiseRequest → Task → (before after : Option Bytes) → TracedRun
    → Type 0
TracedEnds may request task before after run = (left : Option Ledger)
    × RunEnds may request task left before after run.ended
    × IsTraceTried request.trace left run.trace

-- How a run over a plan and a journal ends, whose workers may not start: then nothing is printed.
abbrev pub TaskEnds : May → RealiseRequest → Task → (before after : Option Bytes)
    → Result TracedRun RunError → Type 0
TaskEnds may request task before after result =
    ((run : TracedRun) × (result ≡ Ok run) × TracedEnds may request task before after run)
    ⊎ ((stop : RunError) × (result ≡ Err stop) × (after ≡ before) × IsNotBegun request stop)

-- How a run of a plan ends in the store folder that it holds, by what the journal file gave.
-- Nothing is printed where the journal is refused.
abbrev pub HeldEndsBy : May → RealiseRequest → (plan : Graph) → (gave : FileBytes)
    → (before after : Option Bytes) → Result TracedRun RunError → Type 0
HeldEndsBy may request plan gave before after result =
    ((stop : RunError) × (result ≡ Err stop) × (after ≡ before)
    × IsJournalOf request.run.store_dir.now gave (Err stop))
    ⊎ ((task : Task) × (task.plan ≡ plan)
    × IsJournalOf request.run.store_dir.now gave (Ok task.journal)
    × TaskEnds may request task before after result)

-- how it ends: nothing is known of what the journal file gave
abbrev pub HeldEnds : May → RealiseRequest → (plan : Graph) → (before after : Option Bytes)
    → Result TracedRun RunError → Type 0
HeldEnds may request plan before after result =
    (gave : FileBytes) × HeldEndsBy may request plan gave before after result

-- How a run ends that has what starts its builders: there is no plan; or there is one, and the run
-- may not use its store folder; or it holds that. Where it doesn't, nothing is printed.
abbrev pub PlanRunEnds : May → RealiseRequest → (before after : Option Bytes)
    → Result TracedRun RunError → Type 0
PlanRunEnds may request before after result =
    ((stop : RunError) × (result ≡ Err stop) × (after ≡ before)
    × IsNotPlanned (λ _ answer. may_give answer) request.run stop)
    ⊎ ((plan : Graph) × HasPlan (λ _ answer. may_give answer) request.run plan
    × (((stop : RunError) × (result ≡ Err stop) × (after ≡ before) × IsKeptOut request stop)
    ⊎ HeldEnds may request plan before after result))

-- How a run ends: it hasn't what starts its builders, which is found out before all else, and nothing
-- is printed; or it has.
abbrev pub RealiseEnds : May → RealiseRequest → (before after : Option Bytes)
    → Result TracedRun RunError → Type 0
RealiseEnds may request before after result =
    ((stop : RunError) × (result ≡ Err stop) × (after ≡ before) × IsNoTool request stop)
    ⊎ PlanRunEnds may request before after result
