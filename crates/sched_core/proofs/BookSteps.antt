-- What holds in a book still holds after each event.
use Rattle.std.proofs.Common.{◌≡◌, ℕ, ◌+◌, ◌≤◌, List, [], ◌∷◌, ◌++◌, length, refl, sym, subst, ap, ◌∙◌, arith}
use Rattle.std.specs.Prelude.{slice_set}
use Rattle.std.proofs.lemmas.List.{length_push, take-append-le}
use Rattle.valid_table.specs.PathInfos.{PathInfo}
use Rattle.valid_table.specs.Valid.{HasDrvPath}
use Rattle.valid_table.specs.declared.entry.Entry.{Entry}
use Rattle.sched_core.specs.Books.{IsBeginning, IsBooksLease, IsDone, Ledger}
use Rattle.build_outcome.specs.Jobs.{IsJob}
use Rattle.build_outcome.specs.declared.job.Job.{Job}
use Rattle.sched_core.specs.private.Booking.{IsBook, history_of, run_over}
use Rattle.run_states.specs.StateTables.{CanBegin, StateTable}
use Rattle.run_states.specs.Systems.{Platform}
use Rattle.run_states.specs.Legal.{begun, ended}
use Rattle.run_states.specs.Runs.{History, Run}
use Rattle.run_states.specs.States.{Begun, Broken, Ended, phase_of}
use Rattle.run_states.specs.declared.state.Event.{Event}
use Rattle.run_states.specs.declared.state.Event.TheVariants.{Begin, Done as Finish, Fail}
use Rattle.build_outcome.specs.declared.reason.Reason.{Reason}
use Rattle.sched_core.proofs.Building.{all_shown, begun_lease, builds_after_begin, builds_after_done, builds_after_fail, builds_over_all, builds_still}
use Rattle.sched_core.proofs.Ending.{holding, journal_after}
use Rattle.sched_core.proofs.Keeping.{begin_kept, fail_kept, finish_kept}

-- ---- the history after an event

pub history_begun : (states : StateTable) (system : Platform) (opening given room d : ℕ)
    (entries shown pending : List Entry) (events after : List Event)
    → IsBook states system opening entries events given room shown pending
    → after ≡ events ++ Begin d given ∷ []
    → history_of opening entries after ≡ begun (history_of opening entries events) d
history_begun states system opening given room d entries shown pending events after book pushed =
    ap (history_of opening entries)
    (pushed ∙ ap (λ n. events ++ Begin d n ∷ []) book.kept.given_is)

pub history_ended : (opening d lease : ℕ) (entries more : List Entry) (events after : List Event)
    (entry : Entry) → opening ≤ length entries → more ≡ entries ++ entry ∷ []
    → after ≡ events ++ Finish d lease ∷ []
    → history_of opening more after ≡ ended (history_of opening entries events) d lease entry
history_ended opening d lease entries more events after entry opened added pushed =
    rw (added, pushed)
    (ap (λ first. record {
      opening = first;
      entries = entries ++ entry ∷ [];
      events = events ++ Finish d lease ∷ [];
    }) (take-append-le opening entries (entry ∷ []) opened))

-- ---- the book after a publication, and after an event

pub book_published : (states : StateTable) (system : Platform) (opening given room : ℕ)
    (entries shown pending after_shown after_pending : List Entry) (events : List Event)
    → IsBook states system opening entries events given room shown pending
    → after_shown ≡ shown ++ pending → after_pending ≡ []
    → IsBook states system opening entries events given room after_shown after_pending
book_published states system opening given room entries shown pending after_shown after_pending
    events book all none =
    let published = all_shown _ _ _ _ book.holds all none in
    record {
      kept = book.kept;
      opened = book.opened;
      is_journal = book.is_journal;
      holds = published.1;
      builds = builds_still _ _ _ _ entries _
          (builds_over_all (run_over states system) (history_of opening entries events)
          book.kept.legal)
          refl refl published.0;
    }

pub book_begun : (states later : StateTable) (system : Platform)
    (opening given room later_room d : ℕ)
    (entries shown pending after_shown after_pending : List Entry) (events after : List Event)
    → IsBook states system opening entries events given room shown pending
    → CanBegin (run_over states system) (history_of opening entries events) d
    → after_shown ≡ shown ++ pending → after_pending ≡ []
    → after ≡ events ++ Begin d given ∷ []
    → later ≡ record states { phases = slice_set states.phases d (Begun given) }
    → later_room ≡ room
    → IsBook later system opening entries after (given + 1) later_room after_shown after_pending
book_begun states later system opening given room later_room d entries shown pending after_shown
    after_pending events after book can all none pushed set_ same =
    let published = all_shown _ _ _ _ book.holds all none in
    record {
      kept = begin_kept _ _ _ _ _ _ _ _ _ _ _ book.kept can pushed set_ same;
      opened = book.opened;
      is_journal = book.is_journal;
      holds = published.1;
      builds = builds_still _ _ _ _ entries _
          (builds_after_begin (run_over states system) (history_of opening entries events) d
          book.kept.legal can)
          (ap (λ s. run_over s system) set_)
          (history_begun _ _ _ _ _ _ _ _ _ _ _ book pushed) published.0;
    }

pub book_failed : (states later : StateTable) (system : Platform)
    (opening given room later_room d lease : ℕ) (reason : Reason)
    (entries shown pending : List Entry) (events after : List Event)
    → IsBook states system opening entries events given room shown pending
    → phase_of events d ≡ Begun lease
    → after ≡ events ++ Fail d lease reason ∷ []
    → later ≡ record states { phases = slice_set states.phases d (Broken reason) }
    → later_room ≡ room
    → IsBook later system opening entries after given later_room shown pending
book_failed states later system opening given room later_room d lease reason entries shown pending
    events after book building pushed set_ same =
    record {
      kept = fail_kept _ _ _ _ _ _ _ _ _ _ _ _ _ book.kept building pushed set_ same;
      opened = book.opened;
      is_journal = book.is_journal;
      holds = book.holds;
      builds = builds_after_fail _ _ (history_of opening entries events) _ d lease reason shown
          book.builds (ap (λ s. run_over s system) set_) (ap (history_of opening entries) pushed);
    }

pub book_ended : (states later : StateTable) (system : Platform)
    (opening given room later_room d lease : ℕ) (infos : List PathInfo) (entry copy : Entry)
    (entries more shown pending after_shown after_pending : List Entry)
    (events after : List Event)
    → IsBook states system opening entries events given room shown pending
    → phase_of events d ≡ Begun lease
    → IsDone (run_over states system) entries d infos entry → HasDrvPath entry
    → more ≡ entries ++ entry ∷ [] → after ≡ events ++ Finish d lease ∷ []
    → later ≡ record states { phases = slice_set states.phases d Ended }
    → later_room ≡ room → after_shown ≡ shown → after_pending ≡ pending ++ copy ∷ []
    → copy ≡ entry
    → IsBook later system opening more after given later_room after_shown after_pending
book_ended states later system opening given room later_room d lease infos entry copy entries more
    shown pending after_shown after_pending events after book building done derived added pushed
    set_ same same_shown waits same_entry =
    record {
      kept = finish_kept _ _ _ _ _ _ _ _ _ _ _ _ _ _ _ book.kept book.opened building done added
          pushed set_ same;
      opened = rw added (omega (arith, length_push entries entry, book.opened));
      is_journal = journal_after _ _ _ _ _ _ done derived book.is_journal added;
      holds = holding _ _ _ _ _ _ _ _ book.holds added same_shown waits same_entry;
      builds = builds_after_done _ _ (history_of opening entries events) _ _ _ _ _ _ _
          book.builds (ap (λ s. run_over s system) set_) refl
          (history_ended _ _ _ _ _ _ _ _ book.opened added pushed) same_shown;
    }

-- what beginning a derivation changes
pub beginning : (before : Ledger) (states later : StateTable) (system : Platform)
    (opening given room d n : ℕ) (entries shown pending after_shown after_pending : List Entry)
    (events after : List Event) (job made : Job)
    → record {
      run = run_over states system;
      history = history_of opening entries events;
      shown = shown;
      pending = pending;
    } ≡ before
    → IsBook states system opening entries events given room shown pending
    → CanBegin (run_over states system) (history_of opening entries events) d
    → IsJob states.graph d job → made ≡ job → n ≡ given
    → after_shown ≡ shown ++ pending → after_pending ≡ []
    → after ≡ events ++ Begin d given ∷ []
    → later ≡ record states { phases = slice_set states.phases d (Begun given) }
    → IsBeginning before (record {
      run = run_over later system;
      history = history_of opening entries after;
      shown = after_shown;
      pending = after_pending;
    }) made n
beginning before states later system opening given room d n entries shown pending after_shown
    after_pending events after job made view book can is_job is_made is_n all none pushed set_ =
    let own : IsBeginning (record {
      run = run_over states system;
      history = history_of opening entries events;
      shown = shown;
      pending = pending;
    }) (record {
      run = run_over later system;
      history = history_of opening entries after;
      shown = after_shown;
      pending = after_pending;
    }) job given = record {
      can = subst (CanBegin (run_over states system) (history_of opening entries events))
          (sym is_job.derivation) can;
      numbered = book.kept.given_is;
      is_job = subst (λ e. IsJob states.graph e job) (sym is_job.derivation) is_job;
      run = ap (λ s. run_over s system) set_;
      history = history_begun _ _ _ _ _ _ _ _ _ _ _ book pushed
          ∙ ap (begun (history_of opening entries events)) (sym is_job.derivation);
      shown = all ∙ book.holds;
      pending = none;
    } in
    rw (← view, is_made, is_n) own

-- and it gives a lease
pub lease_begun : (states later : StateTable) (system : Platform) (opening given room d n : ℕ)
    (entries shown pending : List Entry) (events after : List Event) (job made : Job)
    → IsBook states system opening entries events given room shown pending
    → IsJob states.graph d job → made ≡ job → n ≡ given
    → after ≡ events ++ Begin d given ∷ []
    → later ≡ record states { phases = slice_set states.phases d (Begun given) }
    → IsBooksLease (run_over later system) (history_of opening entries after) made n
lease_begun states later system opening given room d n entries shown pending events after job made
    book is_job is_made is_n pushed set_ =
    let history = history_of opening entries events in
    let run = run_over states system in
    let lease = begun_lease run history d job is_job in
    rw (is_made, is_n)
    (subst (λ r. IsBooksLease r (history_of opening entries after) job given)
    (sym (ap (λ s. run_over s system) set_))
    (subst (λ h. IsBooksLease run h job given)
    (sym (history_begun _ _ _ _ _ _ _ _ _ _ _ book pushed))
    (subst (λ k. IsBooksLease run (begun history d) job k) (sym book.kept.given_is) lease)))

-- ---- a lease, by what a book is seen as

pub lease_seen : {run : Run} {history : History} {shown pending : List Entry} {ledger : Ledger}
    {job : Job} {number : ℕ}
    → record { run = run; history = history; shown = shown; pending = pending } ≡ ledger
    → IsBooksLease ledger.run ledger.history job number → IsBooksLease run history job number
lease_seen {job = job} {number = number} view lease =
    subst (λ (l : Ledger). IsBooksLease l.run l.history job number) (sym view) lease
