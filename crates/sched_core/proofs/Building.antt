-- What is building is built from what is valid by the entries that are shown.
use Rattle.std.proofs.Common.{◌≡◌, ◌++◌, ◌∷◌, [], ℕ, Bool, true, false, List, append-nil, refl, subst, rules}
use Rattle.std.specs.Prelude.{if◌then◌else◌}
use Rattle.std.proofs.Math.Dec.{eqb}
use Rattle.nix_drv.proofs.Fixed.{eqb_same}
use Rattle.nix_names.proofs.Lists.{All-from_contains}
use Rattle.valid_table.specs.declared.entry.Entry.{Entry}
use Rattle.sched_core.specs.Books.{BuildsOver, IsBooksLease}
use Rattle.run_states.specs.StateTables.{CanBegin}
use Rattle.build_outcome.specs.Jobs.{IsJob}
use Rattle.run_states.specs.Legal.{IsLegal, legal_begin, begins, begun, ended, failed, is_begin}
use Rattle.run_states.specs.Runs.{History, Run}
use Rattle.run_states.specs.States.{Phase, Idle, Begun, Ended, Broken, later, phase_of}
use Rattle.build_outcome.specs.declared.job.Job.{Job}
use Rattle.run_states.specs.declared.state.Event.{Event}
use Rattle.run_states.specs.declared.state.Event.TheVariants.{Begin, Done as Finish, Fail}
use Rattle.build_outcome.specs.declared.reason.Reason.{Reason}
use Rattle.sched_core.proofs.Permitting.{seeds_of_lease}
use Rattle.run_states.proofs.Seeds.{phase_push}

-- ---- over all entries

-- in a legal history
pub builds_over_all : (run : Run) (history : History) → IsLegal run history
    → BuildsOver run history history.entries
builds_over_all run history legal job number lease =
    search (rules, All-from_contains, seeds_of_lease)

-- and after one Begin more
pub builds_after_begin : (run : Run) (history : History) (d : ℕ) → IsLegal run history
    → CanBegin run history d → BuildsOver run (begun history d) history.entries
builds_after_begin run history d legal can =
    builds_over_all _ _ (legal_begin history d legal can.within can.wanted can.ready)

-- which gives a lease
pub begun_lease : (run : Run) (history : History) (d : ℕ) (job : Job) → IsJob run.graph d job
    → IsBooksLease run (begun history d) job (begins history.events)
begun_lease run history d job is = search (rules, phase_push, eqb_same)

-- ---- after an event that ends a lease

begun_before_done : (same : Bool) (p : Phase) (number : ℕ)
    → later p (if same then Ended else Idle) ≡ Begun number → p ≡ Begun number
begun_before_done true p number is = absurd cc
begun_before_done false p number is = is

begun_before_fail : (same : Bool) (p : Phase) (reason : Reason) (number : ℕ)
    → later p (if same then Broken reason else Idle) ≡ Begun number → p ≡ Begun number
begun_before_fail true p reason number is = absurd cc
begun_before_fail false p reason number is = is

-- what is building has begun before
begun_before : (events : List Event) (event : Event) (d number : ℕ) → is_begin event ≡ false
    → phase_of (events ++ event ∷ []) d ≡ Begun number → phase_of events d ≡ Begun number
begun_before events (Begin e n) d number ends is = absurd cc
begun_before events (Finish e n) d number ends is =
    search (rules, begun_before_done, eqb, phase_push)
begun_before events (Fail e n reason) d number ends is =
    search (rules, begun_before_fail, eqb, phase_push)

-- so it is built from what was valid then
builds_after : (run : Run) (history after : History) (event : Event) (shown : List Entry)
    → BuildsOver run history shown → after.events ≡ history.events ++ event ∷ []
    → is_begin event ≡ false → BuildsOver run after shown
builds_after run history after event shown builds added ends job number lease =
    builds job number
    (record {
      building = begun_before history.events _ job.derivation _ ends
          (subst (λ es. phase_of es job.derivation ≡ Begun number) added lease.building);
      is_job = lease.is_job;
    })

pub builds_after_fail : (run after_run : Run) (history after : History) (d lease : ℕ)
    (reason : Reason) (shown : List Entry) → BuildsOver run history shown → after_run ≡ run
    → after ≡ failed history d lease reason → BuildsOver after_run after shown
builds_after_fail run after_run history after d lease reason shown builds same is =
    rw (same, is) (builds_after _ _ _ _ shown builds refl refl)

pub builds_after_done : (run after_run : Run) (history between after : History) (d lease : ℕ)
    (entry : Entry) (shown after_shown : List Entry) → BuildsOver run history shown
    → after_run ≡ run → between ≡ history → after ≡ ended between d lease entry
    → after_shown ≡ shown → BuildsOver after_run after after_shown
builds_after_done run after_run history between after d lease entry shown after_shown builds same
    still is stays =
    rw (same, is, still, stays)
    (builds_after _ _ (ended history d lease entry) _ shown builds refl
    refl)

-- ---- where no event is added

pub builds_still : (run after_run : Run) (history after : History) (shown after_shown : List Entry)
    → BuildsOver run history shown → after_run ≡ run → after ≡ history → after_shown ≡ shown
    → BuildsOver after_run after after_shown
builds_still run after_run history after shown after_shown builds same_run same same_shown =
    rw (same_run, same, same_shown) builds

-- what is published is all that the outlet holds
pub all_shown : (entries held shown pending : List Entry) → held ≡ entries → shown ≡ held
    → pending ≡ [] → (shown ≡ entries) × (shown ++ pending ≡ entries)
all_shown entries held shown pending same all none = search (rules, append-nil)
