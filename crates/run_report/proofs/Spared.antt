-- What no failure reaches ends as was foretold.
use Rattle.std.proofs.Common.{◌≡◌, ◌∙◌, inl, inr, ℕ, zero, suc, ◌<◌, Bool, true, false, List, [], ◌∷◌, length, refl, sym, ap, subst, arith, if◌then◌else◌, rules}
use Rattle.std.specs.Prelude.{Contains}
use Rattle.std.proofs.Math.Dec.{eqb}
use Rattle.std.proofs.lemmas.List.Elements.{All-contains}
use Rattle.nix_names.proofs.Lists.{Contains-first, Contains-later}
use Rattle.drv_graph.specs.SoundGraphs.{IsSound}
use Rattle.valid_table.specs.declared.entry.Entry.{Entry}
use Rattle.run_states.specs.StateTables.{IsOpen}
use Rattle.run_states.specs.Runs.{History, IsWanted, Run, earlier_twins, rows_of, state_in, wanted_input, wanted_root}
use Rattle.run_states.specs.States.{Begun, Broken, Ended, Idle, Phase, Rows, by_phase, later, phase_by, phase_of}
use Rattle.run_states.specs.declared.state.Event.{Event}
use Rattle.run_states.specs.declared.state.Event.TheVariants.{Begin, Done as Finish, Fail}
use Rattle.build_outcome.specs.declared.reason.Reason.{Reason}
use Rattle.run_states.specs.declared.state.State.{State}
use Rattle.run_states.specs.declared.state.State.TheVariants.{Blocked, Building, Done, Failed, Ready, Refused, Reused}
use Rattle.run_states.specs.declared.precondition.Precondition.TheVariants.{Free}
use Rattle.run_states.proofs.PlanInputs.{inputs_first, rows_in_order}
use Rattle.run_states.proofs.EarlierTwins.{twins_first}
use Rattle.run_states.proofs.Seeds.{same_number}
use Rattle.run_states.proofs.StateLaws.{reads_at}
use Rattle.run_states.proofs.TwinLaws.{is_earlier_twin}
use Rattle.run_states.proofs.Wanting.{wanted_told}
use Rattle.run_report.specs.Forecasts.{built_if_ready, built_table, foretold}
use Rattle.run_report.specs.Truths.{HasEnded, HasFailed, IsSpared, NoneFailed, SparedComeTrue, StatesComeTrue, spared}
use Rattle.run_states.proofs.Aside.{aside, aside_same, state_aside}
use Rattle.run_report.proofs.Foretelling.{built_is, foretold_by, read_is}
use Rattle.run_states.proofs.Unhindered.{begun_unhindered, unhindered_ready}

-- ---- a failure is an event

module _ (d : ℕ) (reason : Reason) where
  -- the builder failed for this reason
  abbrev Fails : List Event → Type 0
  Fails events = (lease : ℕ) × Contains events (Fail d lease reason)

  not_broken : (same : Bool) (p : Phase) → (p ≡ Broken reason → ⊥)
      → (if same then p else Idle) ≡ Broken reason → ⊥
  not_broken true p other is = other is
  not_broken false p other is = absurd cc

  own_event : (e : Event) (events : List Event) → phase_by e d ≡ Broken reason → Fails (e ∷ events)
  own_event (Begin k n) events is = search (rules, not_broken, eqb)
  own_event (Finish k n) events is = search (rules, not_broken, eqb)
  own_event (Fail k n why) events is = by (eqb k d) refl is
    where
      by : (same : Bool) → eqb k d ≡ same → (if same then Broken why else Idle) ≡ Broken reason
          → Fails (Fail k n why ∷ events)
      by false other there = absurd cc
      by true same there =
          let number : k ≡ d = same_number k d same in
          let cause : why ≡ reason = cc in
          let event : Fail k n why ≡ Fail d n reason = cc in (
            n,
            subst (Contains (Fail k n why ∷ events)) event
                (Contains-first (Fail k n why) events),
          )

  fails : (events : List Event) → phase_of events d ≡ Broken reason → Fails events
  fails [] is = absurd cc
  fails (e ∷ events) is = by (phase_of events d) refl is (fails events)
    where
      by : (p : Phase) → phase_of events d ≡ p → later (phase_by e d) p ≡ Broken reason
          → (phase_of events d ≡ Broken reason → Fails events) → Fails (e ∷ events)
      by Idle at there rest = own_event e events there
      by (Begun n) at there rest = absurd cc
      by Ended at there rest = absurd cc
      by (Broken why) at there rest = search (rules, Contains-later)

-- ---- what is wanted

-- a wanted derivation is one of the plan's
pub wanted_within : (run : Run) (opening : List Entry) → IsSound run.graph → (d : ℕ)
    → IsWanted run opening d → d < length run.graph.nodes
wanted_within run opening sound d (wanted_root _ has) = search (rules, All-contains)
wanted_within run opening sound d (wanted_input user _ by_user free has) =
    let low : user < length run.graph.nodes = wanted_within run opening sound user by_user in
    let before : d < user = inputs_first run.graph sound user d has in
    omega arith

twin_wanted : (run : Run) (opening : List Entry) → IsSound run.graph → (d t : ℕ)
    → Contains (earlier_twins run opening d) t → IsWanted run opening t
twin_wanted run opening sound d t has =
    (wanted_told run opening t sound).0 (is_earlier_twin run opening d t has).wanted

-- ---- the end of a run

-- what has nothing before it is not ready
built_already : (s : State) → (IsOpen s → ⊥) → s ≡ built_if_ready s
built_already Done closed = refl
built_already Reused closed = refl
built_already (Failed reason) closed = refl
built_already (Refused cause) closed = refl
built_already (Building lease) closed = refl
built_already Ready closed = absurd (closed (inr (inl refl)))
built_already Blocked closed = refl

module _ (run : Run) (history : History) (ended : HasEnded run history) where
  abbrev rows : Rows
  rows = rows_of run history.opening history.events

  -- nothing has happened yet
  abbrev first : Rows
  first = rows_of run history.opening []

  -- by how it stands in the end, the states of those that it reads as they are
  by_end : (d : ℕ) → IsWanted run history.opening d → (HasFailed history d → ⊥) → (p : Phase)
      → phase_of history.events d ≡ p
      → state_in run history d ≡ built_if_ready (aside rows (state_in run history) d)
  by_end d wanted none p at = by p at
      (state_aside rows (rows_in_order run history.opening history.events ended.plan) d p at)
    where
      within : d < length run.graph.nodes
      within = search (rules, wanted_within)

      closed : IsOpen (state_in run history d) → ⊥
      closed = ended.settled d within wanted

      by : (q : Phase) → phase_of history.events d ≡ q
          → state_in run history d ≡ by_phase q (aside rows (state_in run history) d)
          → state_in run history d ≡ built_if_ready (aside rows (state_in run history) d)
      by Idle is there = search (rules, built_already, aside, rows, closed)
      by (Begun lease) is there = search (rules, closed)
      by Ended is there = there ∙ sym (ap built_if_ready (unhindered_ready rows d
          (begun_unhindered run ended.plan history ended.legal d
          (λ idle. let clash : Ended ≡ Idle = sym is ∙ idle in cc))))
      by (Broken reason) is there = search (rules, fails)

  foretold_aside : (d : ℕ)
      → (rows.precondition d ≡ Free → (i : ℕ) → Contains (rows.inputs d) i
      → state_in run history i ≡ foretold run history.opening i)
      → ((t : ℕ) → Contains (rows.twins d) t
      → state_in run history t ≡ foretold run history.opening t)
      → built_if_ready (aside rows (state_in run history) d) ≡ foretold run history.opening d
  foretold_aside d inputs twins =
      let order = rows_in_order run history.opening [] ended.plan in
      let reads = reads_at (built_table first) d in
      ap built_if_ready
      (aside_same first (state_in run history) reads d
      (λ free i has. inputs free i has ∙ sym (read_is first d i (order.inputs d i has)))
      (λ t has. twins t has ∙ sym (read_is first d t (order.twins d t has))))
      ∙ sym (built_is first reads d) ∙ sym (foretold_by first d)

  spared_below : (bound d : ℕ) → d < bound → IsWanted run history.opening d
      → IsSpared run history d → state_in run history d ≡ foretold run history.opening d
  spared_below zero d low wanted is = absurd (omega arith)
  spared_below (suc bound) d low wanted (spared _ none inputs twins) =
      by_end d wanted none (phase_of history.events d) refl
      ∙ foretold_aside d
      (λ free i has.
      let less : i < d = inputs_first run.graph ended.plan d i has in
      spared_below bound i (omega arith) (wanted_input d i wanted free has) (inputs i has))
      (λ t has.
      let less : t < d = twins_first run history.opening d t has in
      spared_below bound t (omega arith) (twin_wanted run history.opening ended.plan d t has)
      (twins t has))

  all_spared : NoneFailed history → (bound d : ℕ) → d < bound → IsSpared run history d
  all_spared none zero d low = absurd (omega arith)
  all_spared none (suc bound) d low = spared d (none d)
      (λ i has.
      let less : i < d = inputs_first run.graph ended.plan d i has in
      all_spared none bound i (omega arith))
      (λ t has.
      let less : t < d = twins_first run history.opening d t has in
      all_spared none bound t (omega arith))

pub spared_come_true : SparedComeTrue
spared_come_true run history ended d wanted is = search (rules, spared_below)

pub states_come_true : StatesComeTrue
states_come_true run history ended none d wanted = search (rules, spared_come_true, all_spared)
