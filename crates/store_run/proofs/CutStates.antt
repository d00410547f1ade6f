-- The states after a cut, beside those of the whole that is put together: those of all that is
-- wanted after the cut are the same, but what was built before it is reused.
use Rattle.std.proofs.Common.{◌≡◌, ◌∙◌, ◌⊎◌, inl, inr, ◌<◌, ℕ, zero, suc, true, false, List, [], ◌∷◌, Result, refl, sym, ap, subst, ⊎_elim, arith}
use Rattle.std.specs.Prelude.{Contains, find, slice_get}
use Rattle.std.specs.List.{list_all}
use Rattle.nix_names.proofs.Lists.{Contains-first, Contains-later}
use Rattle.valid_table.specs.declared.entry.Entry.{Entry}
use Rattle.build_outcome.specs.declared.job.Answer.{Answer}
use Rattle.build_outcome.specs.declared.job.Job.{Job}
use Rattle.build_outcome.specs.declared.reason.Reason.{Reason}
use Rattle.build_outcome.specs.declared.reason.Reason.TheVariants.{OutOfMemory}
use Rattle.drv_graph.specs.SoundGraphs.{IsSound}
use Rattle.run_states.specs.StateTables.{IsOpen, IsRunSettled}
use Rattle.run_states.specs.Legal.{IsLegal}
use Rattle.run_states.specs.Runs.{History, IsWanted, Run, precondition_at, state_in, terms_of, wanted_input, wanted_root}
use Rattle.run_states.specs.States.{Phase, Rows, Idle, Begun, Ended, Broken, by_hindrance, by_inputs, by_twins, by_validity, is_bad, is_good, is_open, phase_of}
use Rattle.run_states.specs.declared.state.State.{State}
use Rattle.run_states.specs.declared.state.State.TheVariants.{Blocked, Building, Done, Failed, Ready, Refused, Reused}
use Rattle.run_states.specs.declared.precondition.Precondition.{Precondition}
use Rattle.run_states.specs.declared.precondition.Precondition.TheVariants.{AllValid, Hindered, Free}
use Rattle.run_states.proofs.Aside.{aside}
use Rattle.run_states.proofs.PlanInputs.{inputs_first}
use Rattle.run_states.proofs.Unhindered.{begun_unhindered}
use Rattle.store_run.specs.Interruptions.{IsCutRun}
use Rattle.store_run.specs.Scheduling.{HasMemory}
use Rattle.store_run.proofs.CutOpenings.{built_stands, ended_or_not, no_earlier, none_earlier, stands_same, told}
use Rattle.store_run.proofs.CutsJoined.{IsJoined, IsSamePhase, over, stands_as}
use Rattle.store_run.proofs.Telling.{begun_is}
use Rattle.store_run.proofs.Turns.{closed_is}
use Rattle.store_run.proofs.Unhindered.{IsGoodBy, good_ended, good_is, good_reused, good_twin, inputs_in, is_good_by, precondition_in, rows_in, state_by}

-- ---- states that are one to those that wait for them

-- what was built counts as reused, and the lease of what is building doesn't count
abbrev pub seen_as : State → State
seen_as Done = Reused
seen_as Reused = Reused
seen_as (Failed reason) = Failed reason
seen_as (Refused cause) = Refused cause
seen_as (Building lease) = Building 0
seen_as Ready = Ready
seen_as Blocked = Blocked

good_seen : (s : State) → is_good (seen_as s) ≡ is_good s
good_seen Done = refl
good_seen Reused = refl
good_seen (Failed reason) = refl
good_seen (Refused cause) = refl
good_seen (Building lease) = refl
good_seen Ready = refl
good_seen Blocked = refl

bad_seen : (s : State) → is_bad (seen_as s) ≡ is_bad s
bad_seen Done = refl
bad_seen Reused = refl
bad_seen (Failed reason) = refl
bad_seen (Refused cause) = refl
bad_seen (Building lease) = refl
bad_seen Ready = refl
bad_seen Blocked = refl

open_seen : (s : State) → is_open (seen_as s) ≡ is_open s
open_seen Done = refl
open_seen Reused = refl
open_seen (Failed reason) = refl
open_seen (Refused cause) = refl
open_seen (Building lease) = refl
open_seen Ready = refl
open_seen Blocked = refl

pub same_good : (s t : State) → seen_as s ≡ seen_as t → is_good s ≡ is_good t
same_good s t same = sym (good_seen s) ∙ ap is_good same ∙ good_seen t

pub same_bad : (s t : State) → seen_as s ≡ seen_as t → is_bad s ≡ is_bad t
same_bad s t same = sym (bad_seen s) ∙ ap is_bad same ∙ bad_seen t

same_open : (s t : State) → seen_as s ≡ seen_as t → is_open s ≡ is_open t
same_open s t same = sym (open_seen s) ∙ ap is_open same ∙ open_seen t

-- a bad one is seen as it is
bad_as_is : (s : State) → is_bad s ≡ true → seen_as s ≡ s
bad_as_is Done bad = absurd cc
bad_as_is Reused bad = absurd cc
bad_as_is (Failed reason) bad = refl
bad_as_is (Refused cause) bad = refl
bad_as_is (Building lease) bad = absurd cc
bad_as_is Ready bad = absurd cc
bad_as_is Blocked bad = absurd cc

pub bad_same : (s t : State) → seen_as s ≡ seen_as t → is_bad t ≡ true → s ≡ t
bad_same s t same bad = sym (bad_as_is s (same_bad s t same ∙ bad)) ∙ same ∙ bad_as_is t bad

open_is : (s : State) → IsOpen s → is_open s ≡ true
open_is s (inl blocked) = ap is_open blocked
open_is s (inr (inl ready)) = ap is_open ready
open_is s (inr (inr (lease, building))) = ap is_open building

good_closed : (s : State) → is_good s ≡ true → is_open s ≡ true → ⊥
good_closed Done good still = cc
good_closed Reused good still = cc
good_closed (Failed reason) good still = cc
good_closed (Refused cause) good still = cc
good_closed (Building lease) good still = cc
good_closed Ready good still = cc
good_closed Blocked good still = cc

pub good_or_bad : (s : State) → is_good s ≡ true → is_bad s ≡ true → ⊥
good_or_bad Done good bad = cc
good_or_bad Reused good bad = cc
good_or_bad (Failed reason) good bad = cc
good_or_bad (Refused cause) good bad = cc
good_or_bad (Building lease) good bad = cc
good_or_bad Ready good bad = cc
good_or_bad Blocked good bad = cc

-- ---- what follows from inputs that are seen as one

module _ (f g : ℕ → State) where
  find_seen : (inputs : List ℕ)
      → ((i : ℕ) → Contains inputs i → seen_as (f i) ≡ seen_as (g i))
      → find (λ i. is_bad (f i)) inputs ≡ find (λ i. is_bad (g i)) inputs
  find_seen [] same = refl
  find_seen (i ∷ is) same =
      let here = same_bad (f i) (g i) (same i (Contains-first i is)) in
      let rest = find_seen is (λ j has. same j (Contains-later i is j has)) in
      rw (here, rest) refl

  all_seen : (inputs : List ℕ)
      → ((i : ℕ) → Contains inputs i → seen_as (f i) ≡ seen_as (g i))
      → list_all (λ i. is_good (f i)) inputs ≡ list_all (λ i. is_good (g i)) inputs
  all_seen [] same = refl
  all_seen (i ∷ is) same =
      let here = same_good (f i) (g i) (same i (Contains-first i is)) in
      let rest = all_seen is (λ j has. same j (Contains-later i is j has)) in
      rw (here, rest) refl

  inputs_seen : (inputs : List ℕ)
      → ((i : ℕ) → Contains inputs i → seen_as (f i) ≡ seen_as (g i))
      → by_inputs f inputs ≡ by_inputs g inputs
  inputs_seen inputs same = rw (find_seen inputs same, all_seen inputs same) refl

-- a derivation without an earlier twin, by its precondition and its inputs
aside_alone : (rows : Rows) (f : ℕ → State) (d : ℕ) → rows.twins d ≡ []
    → aside rows f d
    ≡ by_validity (rows.precondition d)
    (by_hindrance (rows.precondition d) (by_inputs f (rows.inputs d)))
aside_alone rows f d none =
    ap (λ (twins : List ℕ). by_validity (rows.precondition d) (by_twins f twins
    (by_hindrance (rows.precondition d) (by_inputs f (rows.inputs d))))) none

-- one that stands by valid outputs is reused
pub aside_valid : (rows : Rows) (f : ℕ → State) (d : ℕ) → rows.precondition d ≡ AllValid
    → aside rows f d ≡ Reused
aside_valid rows f d stands =
    ap (λ (s : Precondition). by_validity s (by_twins f (rows.twins d)
    (by_hindrance (rows.precondition d) (by_inputs f (rows.inputs d))))) stands

-- two that stand the same, and see the same of their inputs where they are free
stands_seen : (s : Precondition) (a b : State) → (s ≡ Free → a ≡ b)
    → by_validity s (by_hindrance s a) ≡ by_validity s (by_hindrance s b)
stands_seen AllValid a b same = refl
stands_seen (Hindered cause) a b same = refl
stands_seen Free a b same = same refl

-- ---- in a legal history

-- where all outputs were valid, a derivation has no event
valid_idle : (run : Run) → IsSound run.graph → (history : History) → IsLegal run history → (d : ℕ)
    → precondition_in run history d ≡ AllValid → phase_of history.events d ≡ Idle
valid_idle run sound history legal d stands = by (phase_of history.events d) refl
  where
    moved : (phase_of history.events d ≡ Idle → ⊥) → phase_of history.events d ≡ Idle
    moved has =
        let free : precondition_in run history d ≡ Free =
        (begun_unhindered run sound history legal d has).free in
        let clash : AllValid ≡ Free = sym stands ∙ free in
        absurd cc

    by : (p : Phase) → phase_of history.events d ≡ p → phase_of history.events d ≡ Idle
    by Idle is = is
    by (Begun lease) is = moved (λ idle. let clash : Begun lease ≡ Idle = sym is ∙ idle in cc)
    by Ended is = moved (λ idle. let clash : Ended ≡ Idle = sym is ∙ idle in cc)
    by (Broken reason) is =
        moved (λ idle. let clash : Broken reason ≡ Idle = sym is ∙ idle in cc)

-- ---- after the cut and in the whole

module _ (may gives : Job → Result Answer Reason → Type 0) (run : Run) (cut : History)
    (is_cut : IsCutRun may run cut) (next : History) (legal : IsLegal run next)
    (opening : next.opening ≡ cut.entries) (joined : IsJoined may gives run cut is_cut next) where
  abbrev pub whole : History
  whole = over cut.opening next.entries joined.events

  -- what was built before the cut is reused after it
  pub built_reused : (d : ℕ) → phase_of cut.events d ≡ Ended → state_in run next d ≡ Reused
  built_reused d ends =
      let stands : precondition_in run next d ≡ AllValid =
      ap (λ (opens : List Entry). precondition_at (terms_of run) opens
      (slice_get run.graph.nodes d))
      opening
      ∙ built_stands may run cut is_cut d ends in
      state_by run next is_cut.plan d Idle
      (valid_idle run is_cut.plan next legal d stands)
      ∙ aside_valid (rows_in run next) (state_in run next) d stands

  -- and is built in the whole
  pub built_done : (d : ℕ) → phase_of cut.events d ≡ Ended → state_in run whole d ≡ Done
  built_done d ends = state_by run whole is_cut.plan d Ended (joined.built d ends)

  seen_built : (d : ℕ) → phase_of cut.events d ≡ Ended
      → seen_as (state_in run next d) ≡ seen_as (state_in run whole d)
  seen_built d ends = ap seen_as (built_reused d ends) ∙ sym (ap seen_as (built_done d ends))

  -- where nothing became of a derivation
  seen_idle : (d : ℕ) → (phase_of cut.events d ≡ Ended → ⊥) → phase_of next.events d ≡ Idle
      → (precondition_in run next d ≡ Free → (i : ℕ) → Contains (inputs_in run d) i
      → seen_as (state_in run next i) ≡ seen_as (state_in run whole i))
      → seen_as (state_in run next d) ≡ seen_as (state_in run whole d)
  seen_idle d fresh idle same =
      let idle_there : phase_of joined.events d ≡ Idle =
      subst (λ p. IsSamePhase p (phase_of joined.events d)) idle (joined.same d fresh) in
      let f = state_in run next in
      let g = state_in run whole in
      let inputs = inputs_in run d in
      let stands = stands_as may gives run cut is_cut next opening d fresh in
      let here = state_by run next is_cut.plan d Idle idle
      ∙ aside_alone (rows_in run next) f d (no_earlier run is_cut.twins next.opening d)
      ∙ stands_seen (precondition_in run next d) (by_inputs f inputs) (by_inputs g inputs)
      (λ free. inputs_seen f g inputs (same free)) in
      let there = state_by run whole is_cut.plan d Idle idle_there
      ∙ aside_alone (rows_in run whole) g d (no_earlier run is_cut.twins cut.opening d) in
      ap seen_as
      (here
      ∙ ap (λ (s : Precondition). by_validity s (by_hindrance s (by_inputs g inputs))) stands
      ∙ sym there)

  seen_fresh : (d : ℕ) → (phase_of cut.events d ≡ Ended → ⊥)
      → (precondition_in run next d ≡ Free → (i : ℕ) → Contains (inputs_in run d) i
      → seen_as (state_in run next i) ≡ seen_as (state_in run whole i))
      → seen_as (state_in run next d) ≡ seen_as (state_in run whole d)
  seen_fresh d fresh same = by (phase_of next.events d) refl
    where
      by : (p : Phase) → phase_of next.events d ≡ p
          → seen_as (state_in run next d) ≡ seen_as (state_in run whole d)
      by Idle is = seen_idle d fresh is same
      by (Begun lease) is =
          let there = subst (λ p. IsSamePhase p (phase_of joined.events d)) is
          (joined.same d fresh) in
          ap seen_as (state_by run next is_cut.plan d (Begun lease) is)
          ∙ sym (ap seen_as (state_by run whole is_cut.plan d (Begun there.0) there.1))
      by Ended is =
          let there = subst (λ p. IsSamePhase p (phase_of joined.events d)) is
          (joined.same d fresh) in
          ap seen_as (state_by run next is_cut.plan d Ended is)
          ∙ sym (ap seen_as (state_by run whole is_cut.plan d Ended there))
      by (Broken reason) is =
          let there = subst (λ p. IsSamePhase p (phase_of joined.events d)) is
          (joined.same d fresh) in
          ap seen_as (state_by run next is_cut.plan d (Broken reason) is)
          ∙ sym (ap seen_as (state_by run whole is_cut.plan d (Broken reason) there))

  seen_below : (bound d : ℕ) → d < bound → IsWanted run cut.entries d
      → seen_as (state_in run next d) ≡ seen_as (state_in run whole d)
  seen_below zero d low wanted = absurd (omega (arith, low))
  seen_below (suc bound) d low wanted =
      ⊎_elim
      (λ ends. seen_built d ends)
      (λ fresh. seen_fresh d fresh
      (λ free i has.
      let first = inputs_first run.graph is_cut.plan d i has in
      seen_below bound i (omega (arith, low, first))
      (wanted_input d i wanted
      (subst (λ (opens : List Entry). precondition_at (terms_of run) opens
      (slice_get run.graph.nodes d) ≡ Free) opening free) has)))
      (ended_or_not (phase_of cut.events d))

  -- all that is wanted after the cut is seen as one
  pub seen_wanted : (d : ℕ) → IsWanted run cut.entries d
      → seen_as (state_in run next d) ≡ seen_as (state_in run whole d)
  seen_wanted d wanted = seen_below (suc d) d (omega arith) wanted

  -- ---- what isn't wanted any more

  -- a derivation was built before the cut, or all its outputs were valid at first
  abbrev IsSpared : ℕ → Type 0
  IsSpared d = (phase_of cut.events d ≡ Ended)
      ⊎ (precondition_at (terms_of run) cut.opening (slice_get run.graph.nodes d) ≡ AllValid)

  -- the inputs of what was built are spared
  input_spared : (d : ℕ) → phase_of cut.events d ≡ Ended → (i : ℕ) → Contains (inputs_in run d) i
      → IsSpared i
  input_spared d ends i has =
      by (good_is run cut is_cut.plan i
      ((begun_is (λ reason. reason ≡ OutOfMemory) may run is_cut.plan cut
      (told may run cut is_cut) d
      (λ idle. let clash : Ended ≡ Idle = sym ends ∙ idle in cc)).unhindered.good i has))
    where
      by : IsGoodBy run cut i → IsSpared i
      by (good_ended built) = inl built
      by (good_reused idle stands) = inr stands
      by (good_twin t idle twin built) =
          absurd (none_earlier run is_cut.twins cut.opening i t twin)

  -- what is wanted at first is wanted after the cut, or spared
  pub still_wanted : (d : ℕ) → IsWanted run cut.opening d → IsWanted run cut.entries d ⊎ IsSpared d
  still_wanted _ (wanted_root d root) = inl (wanted_root d root)
  still_wanted _ (wanted_input user d wanted free has) =
      by (still_wanted user wanted) (ended_or_not (phase_of cut.events user))
    where
      by : IsWanted run cut.entries user ⊎ IsSpared user
          → (phase_of cut.events user ≡ Ended) ⊎ (phase_of cut.events user ≡ Ended → ⊥)
          → IsWanted run cut.entries d ⊎ IsSpared d
      by before (inl ends) = inr (input_spared user ends d has)
      by (inl still) (inr fresh) =
          inl (wanted_input user d still (stands_same may run cut is_cut user fresh ∙ free) has)
      by (inr (inl ends)) (inr fresh) = absurd (fresh ends)
      by (inr (inr stands)) (inr fresh) =
          let clash : AllValid ≡ Free = sym stands ∙ free in absurd cc

  -- and what is spared is good in the whole
  pub spared_good : (d : ℕ) → IsSpared d → is_good (state_in run whole d) ≡ true
  spared_good d (inl ends) = ap is_good (built_done d ends)
  spared_good d (inr stands) =
      is_good_by run whole is_cut.plan d
      (good_reused (valid_idle run is_cut.plan whole joined.legal d stands) stands)

  -- ---- the whole at its end

  pub whole_settled : IsRunSettled run next → IsRunSettled run whole
  whole_settled settled d within wanted still = by (still_wanted d wanted)
    where
      by : IsWanted run cut.entries d ⊎ IsSpared d → ⊥
      by (inl ending) =
          let closed = closed_is (state_in run next d)
          (settled d within
          (subst (λ (opens : List Entry). IsWanted run opens d) (sym opening) ending)) in
          let clash : false ≡ true = sym closed
          ∙ same_open (state_in run next d) (state_in run whole d) (seen_wanted d ending)
          ∙ open_is (state_in run whole d) still in
          cc
      by (inr spared) =
          good_closed (state_in run whole d) (spared_good d spared)
          (open_is (state_in run whole d) still)

  pub whole_memory : HasMemory run next → HasMemory run whole
  whole_memory memory d within wanted failed = by (still_wanted d wanted)
    where
      bad : is_bad (state_in run whole d) ≡ true
      bad = ap is_bad failed

      by : IsWanted run cut.entries d ⊎ IsSpared d → ⊥
      by (inl ending) =
          memory d within
          (subst (λ (opens : List Entry). IsWanted run opens d) (sym opening) ending)
          (bad_same (state_in run next d) (state_in run whole d) (seen_wanted d ending) bad
          ∙ failed)
      by (inr spared) = good_or_bad (state_in run whole d) (spared_good d spared) bad
