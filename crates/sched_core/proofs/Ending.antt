-- How a lease ends.
use Rattle.std.proofs.Common.{◌≡◌, ◌++◌, ◌∷◌, [], ℕ, List, append_assoc, subst, rules}
use Rattle.drv_graph.specs.PlanNodes.{output_paths_of}
use Rattle.valid_table.specs.Adding.{AreClosed, AreNew}
use Rattle.valid_table.specs.Entries.{registered, registered_by}
use Rattle.valid_table.specs.PathInfos.{PathInfo}
use Rattle.valid_table.specs.Valid.{HasDrvPath, IsJournal}
use Rattle.valid_table.specs.declared.entry.Entry.{Entry}
use Rattle.sched_core.specs.Books.{IsBooksLease, IsDone, IsFinishFault, IsFinishing, Ledger, MayAllRefer}
use Rattle.sched_core.specs.private.Dones.{IsDoneEntry, IsDoneFault}
use Rattle.run_states.specs.Legal.{ArePermittedTo, MayRefer, ended}
use Rattle.run_states.specs.Runs.{History, Run}
use Rattle.run_states.specs.declared.fault.BookFault.{BookFault}
use Rattle.run_states.specs.declared.fault.BookFault.TheVariants.{ForeignLease, NoMemory, NoView, NotLawful}
use Rattle.build_outcome.specs.declared.job.Job.{Job}
use Rattle.sched_core.proofs.DoneEntries.{entry_new}
use Rattle.run_states.proofs.Dones.{done_is_closed, done_is_journal, done_is_new}

-- the entry of a lease's derivation with records whose references are permitted to its job
pub done_under_lease : (run : Run) (history : History) (job : Job) (number : ℕ)
    (infos : List PathInfo) (entry : Entry)
    → IsBooksLease run history job number → MayAllRefer history.entries job infos
    → IsDoneEntry run.graph job.derivation history.entries infos entry
    → IsDone run history.entries job.derivation infos entry
done_under_lease run history job number infos entry lease may told =
    let node = lease.is_job.node in
    let all = told node lease.is_job.is_node in
    let permitted : ArePermittedTo run.graph history.entries node infos = λ info path has refers.
    subst (λ (seeds : List (List ℕ)). MayRefer (registered history.entries) seeds
    (output_paths_of node.drv) path) lease.is_job.seeds
    (subst (λ (outputs : List (List ℕ)). MayRefer (registered history.entries) job.seeds.items
    outputs path) lease.is_job.paths (may info path has refers)) in
    record {
      node = node;
      is_node = lease.is_job.is_node;
      allowed = record { records = all.1; new = all.2; permitted = permitted };
      is_entry = all.0;
    }

-- why there is no entry, as the book tells it
pub entry_fault : (before : Ledger) (run : Run) (history : History) (shown pending : List Entry)
    (job : Job) (number d : ℕ) (infos : List PathInfo) (fault : BookFault)
    → record { run = run; history = history; shown = shown; pending = pending } ≡ before
    → IsBooksLease run history job number → d ≡ job.derivation
    → IsDoneFault run.graph d history.entries infos fault
    → IsFinishFault before job number infos fault
entry_fault before run history shown pending job number d infos fault view lease is_d told =
    subst (λ (ledger : Ledger). IsFinishFault ledger job number infos fault) view
    (by fault (subst (λ n. IsDoneFault run.graph n history.entries infos fault) is_d told))
  where
    by : (why : BookFault) → IsDoneFault run.graph job.derivation history.entries infos why
        → IsFinishFault
        (record { run = run; history = history; shown = shown; pending = pending }) job number
        infos why
    by NoMemory new = (lease, new)
    by NotLawful not_allowed = (lease, not_allowed)
    by ForeignLease none = absurd none
    by NoView none = absurd none

-- memory for an outlet is refused after all that is tested
pub append_fault : (before : Ledger) (run : Run) (history : History) (shown pending : List Entry)
    (job : Job) (number d : ℕ) (infos : List PathInfo) (entry : Entry) (fault : BookFault)
    → record { run = run; history = history; shown = shown; pending = pending } ≡ before
    → IsBooksLease run history job number → d ≡ job.derivation
    → IsDoneEntry run.graph d history.entries infos entry → fault ≡ NoMemory
    → IsFinishFault before job number infos fault
append_fault before run history shown pending job number d infos entry fault view lease is_d told
    is = search (rules, entry_fault, entry_new)

-- what an outlet asks of such an entry, where it holds just the entries
pub may_append : (run : Run) (entries held : List Entry) (d : ℕ) (infos : List PathInfo)
    (entry shown : Entry) → IsDone run entries d infos entry
    → held ≡ entries → shown ≡ entry → AreNew (registered held) (registered_by shown)
    × AreClosed (registered held) (registered_by shown)
may_append run entries held d infos entry shown done same copy =
    rw (same, copy) (
      done_is_new run entries done.node infos entry done.allowed done.is_entry,
      done_is_closed run entries done.node infos entry done.allowed done.is_entry,
    )

-- the outlet holds just the entries after the entry, too
pub holding : (entries more shown after_shown pending after_pending : List Entry)
    (entry copy : Entry) → shown ++ pending ≡ entries → more ≡ entries ++ entry ∷ []
    → after_shown ≡ shown → after_pending ≡ pending ++ copy ∷ [] → copy ≡ entry
    → after_shown ++ after_pending ≡ more
holding entries more shown after_shown pending after_pending entry copy held more_is same added
    same_entry = search (rules, append_assoc)

-- the entries are a journal after the entry, too
pub journal_after : (run : Run) (entries more : List Entry) (d : ℕ) (infos : List PathInfo)
    (entry : Entry) → IsDone run entries d infos entry → HasDrvPath entry → IsJournal entries
    → more ≡ entries ++ entry ∷ [] → IsJournal more
journal_after run entries more d infos entry done derived journal more_is =
    rw more_is
    (done_is_journal run _ _ infos entry done.allowed done.is_entry journal
    (subst HasDrvPath done.is_entry.is_done derived))

-- what ending a lease by a Done changes
pub finishing : (before : Ledger) (run after_run : Run) (history between after : History)
    (shown after_shown pending after_pending : List Entry)
    (job : Job) (number d n : ℕ) (infos : List PathInfo) (entry copy : Entry)
    → record { run = run; history = history; shown = shown; pending = pending } ≡ before
    → IsBooksLease run history job number → IsDone run history.entries job.derivation infos entry
    → after_run ≡ run → between ≡ history → d ≡ job.derivation → n ≡ number → after
    ≡ ended between d n entry
    → after_shown ≡ shown → after_pending ≡ pending ++ copy ∷ [] → copy ≡ entry
    → IsFinishing before
    (record { run = after_run; history = after; shown = after_shown; pending = after_pending })
    job number infos
finishing before run after_run history between after shown after_shown pending after_pending job
    number d n infos entry copy
    view lease done same_run same_history is_d is_n is_after same_shown added same_entry =
    search rules
