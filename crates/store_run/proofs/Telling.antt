-- What a told history says of each derivation that has an event.
use Rattle.std.proofs.Common.{◌≡◌, ◌∙◌, ◌⊎◌, inl, inr, ◌<◌, ℕ, true, List, [], ◌∷◌, ◌++◌, length, Result, Ok, Err, Some, refl, sym, ap, subst, ⊎_elim, append_assoc, rules}
use Rattle.std.specs.Prelude.{Contains, slice_get}
use Rattle.std.proofs.lemmas.List.{append-nil}
use Rattle.std.proofs.lemmas.List.Elements.{All-contains, Contains-append_cases, Contains-append_left, Contains-append_right}
use Rattle.nix_drv.proofs.Fixed.{eqb_same}
use Rattle.drv_graph.specs.Nodes.{Node}
use Rattle.drv_graph.specs.PlanNodes.{output_paths_of}
use Rattle.drv_graph.specs.SoundGraphs.{IsSound}
use Rattle.valid_table.specs.Entries.{registered, registered_by}
use Rattle.valid_table.specs.PathInfos.{PathInfo}
use Rattle.valid_table.specs.Valid.{AreReferencesValid, IsValid, Registers}
use Rattle.valid_table.specs.declared.entry.Entry.{Entry}
use Rattle.valid_table.specs.declared.entry.Registration.{Registration}
use Rattle.valid_table.proofs.AddedEntries.{registered_push}
use Rattle.valid_table.proofs.JournalLists.{closed_references_valid, registered-append}
use Rattle.run_states.specs.Headline.{AreDrvPaths}
use Rattle.build_outcome.specs.Jobs.{seeds_of}
use Rattle.run_states.specs.Legal.{IsEntryOf, IsLegal, begins, begun, ended, failed}
use Rattle.run_states.specs.Runs.{History, IsWanted, Run, rows_of, state_in}
use Rattle.run_states.specs.States.{Phase, Idle, Begun, Ended, Broken, is_open, phase_of}
use Rattle.build_outcome.specs.declared.job.Answer.{Answer}
use Rattle.build_outcome.specs.declared.job.Job.{Job}
use Rattle.run_states.specs.declared.state.Event.{Event}
use Rattle.run_states.specs.declared.state.Event.TheVariants.{Begin, Done as Finish, Fail}
use Rattle.build_outcome.specs.declared.reason.Reason.{Reason}
use Rattle.run_states.proofs.Dones.{registered_output}
use Rattle.run_states.proofs.Histories.{ready_is_idle}
use Rattle.sched_core.proofs.Permitting.{begun_event}
use Rattle.run_states.proofs.Registering.{entries_are_journal}
use Rattle.run_states.proofs.Seeds.{phase_push, seeds_are_valid}
use Rattle.store_run.specs.Builders.{IsVerdictAfter}
use Rattle.store_run.proofs.ToldRuns.{IsTold, told_begin, told_done, told_fail, told_opening}
use Rattle.run_states.proofs.Unhindered.{IsUnhindered as IsUnhinderedIn, ready_unhindered, after_event, building_is_open}
use Rattle.store_run.proofs.Unhindered.{IsUnhindered}
use Rattle.run_states.proofs.OtherEvents.{number_of, same_or_other, phase_other, begun_not_idle}

-- ---- where a derivation stands after one event more

pub phase_begun : (events : List Event) (d lease : ℕ)
    → phase_of (events ++ Begin d lease ∷ []) d ≡ Begun lease
phase_begun events d lease = search (rules, phase_push, eqb_same)

pub phase_ended : (events : List Event) (d lease : ℕ)
    → phase_of (events ++ Finish d lease ∷ []) d ≡ Ended
phase_ended events d lease = search (rules, phase_push, eqb_same)

pub phase_broken : (events : List Event) (d lease : ℕ) (reason : Reason)
    → phase_of (events ++ Fail d lease reason ∷ []) d ≡ Broken reason
phase_broken events d lease reason = search (rules, phase_push, eqb_same)

-- ---- a derivation that has begun was wanted, and nothing was in its way

-- A derivation was begun: it is wanted, and nothing but its own events is in its way.
pub record WasBegun (run : Run) (history : History) (d : ℕ) : Type 0 where
  pub within : d < length run.graph.nodes
  pub wanted : IsWanted run history.opening d
  pub unhindered : IsUnhindered run history d

-- it stays so after an event of a derivation that is open
begun_stays : (run : Run) (history after : History) (x : Event) → after.opening ≡ history.opening
    → after.events ≡ history.events ++ x ∷ []
    → is_open (state_in run history (number_of x)) ≡ true
    → (d : ℕ) → WasBegun run history d → WasBegun run after d
begun_stays run history after x opening events still d was = record {
  within = was.within;
  wanted = subst (λ (opens : List Entry). IsWanted run opens d) (sym opening) was.wanted;
  unhindered =
      subst (λ (opens : List Entry). IsUnhinderedIn (rows_of run opens after.events) d)
      (sym opening)
      (subst (λ (es : List Event). IsUnhinderedIn (rows_of run history.opening es) d) (sym events)
      (after_event _ _ history.events x still d was.unhindered));
}

begun_not_ended : (p : Phase) (lease : ℕ) → p ≡ Begun lease → p ≡ Ended → ⊥
begun_not_ended p lease is ends = search rules

begun_not_broken : (p : Phase) (lease : ℕ) (reason : Reason) → p ≡ Begun lease → p ≡ Broken reason
    → ⊥
begun_not_broken p lease reason is breaks = search rules

ended_not_broken : (p : Phase) (reason : Reason) → p ≡ Ended → p ≡ Broken reason → ⊥
ended_not_broken p reason is breaks = search rules

module _ (excused : Reason → Type 0) (may : Job → Result Answer Reason → Type 0) (run : Run)
    (sound : IsSound run.graph) where
  pub begun_is : (history : History) → IsTold excused may run history → (d : ℕ)
      → (phase_of history.events d ≡ Idle → ⊥) → WasBegun run history d
  begun_is _ (told_opening entries journal) d moved = absurd (moved refl)
  begun_is _ (told_begin history e told legal can) d moved =
      begun_stays _ _ _ _ refl refl
      (ap is_open can.ready) d
      (⊎_elim
      (λ same. subst (WasBegun run history) same (record {
        within = can.within;
        wanted = can.wanted;
        unhindered = ready_unhindered _ history sound e can.ready;
      }))
      (λ other. begun_is _ told d (λ idle. moved
      (phase_other history.events (Begin e (begins history.events)) d other ∙ idle)))
      (same_or_other e d))
  begun_is _ (told_done history e lease node infos entry told legal phase is_node came is_entry) d
      moved =
      begun_stays run history (ended history e lease entry) (Finish e lease) refl refl
      (building_is_open _ sound history e _ phase) d
      (begun_is _ told d (λ idle. ⊎_elim
      (λ same. begun_not_idle _ _ phase
      (ap (phase_of history.events) same ∙ idle))
      (λ other. moved (phase_other history.events (Finish e lease) d other ∙ idle))
      (same_or_other e d)))
  begun_is _ (told_fail history e lease reason told legal phase why) d moved =
      begun_stays run history (failed history e lease reason) (Fail e lease reason) refl refl
      (building_is_open _ sound history e _ phase) d
      (begun_is _ told d (λ idle. ⊎_elim
      (λ same. begun_not_idle (phase_of history.events e) lease phase
      (ap (phase_of history.events) same ∙ idle))
      (λ other. moved (phase_other history.events (Fail e lease reason) d other ∙ idle))
      (same_or_other e d)))

-- ---- how a derivation ended

-- A derivation ended with a verdict after the first entries, in which all seeds are valid.
pub record CameTo (may : Job → Result Answer Reason → Type 0) (run : Run) (history : History)
    (d : ℕ) (verdict : Result (List PathInfo) Reason)
    : Type 0 where
  pub before : List Entry
  pub more : List Entry
  pub parts : history.entries ≡ before ++ more
  pub closed : AreReferencesValid (registered before)
  pub seeds : (node : Node) → slice_get run.graph.nodes d ≡ Some node → (path : List ℕ)
      → Contains (seeds_of run.graph.nodes node.drv) path → IsValid (registered before) path
  pub ending : IsVerdictAfter may run before d verdict

-- A derivation was built: it ended with records, and an entry has them.
pub record WasMade (may : Job → Result Answer Reason → Type 0) (run : Run) (history : History)
    (d : ℕ) : Type 0 where
  pub infos : List PathInfo
  pub came : CameTo may run history d (Ok infos)
  pub node : Node
  pub is_node : slice_get run.graph.nodes d ≡ Some node
  pub entry : Entry
  pub is_entry : IsEntryOf node infos entry
  pub kept : (r : Registration) → Contains (registered_by entry) r
      → Contains (registered history.entries) r

module _ (excused : Reason → Type 0) (may : Job → Result Answer Reason → Type 0) (run : Run)
    (sound : IsSound run.graph) where
  came_more : (history after : History) (more : List Entry) (d : ℕ)
      (verdict : Result (List PathInfo) Reason)
      → after.entries ≡ history.entries ++ more → CameTo may run history d verdict
      → CameTo may run after d verdict
  came_more history after more d verdict is came = record {
    before = came.before;
    more = came.more ++ more;
    parts = is ∙ ap (λ (es : List Entry). es ++ more) came.parts
        ∙ append_assoc came.before came.more more;
    closed = came.closed;
    seeds = came.seeds;
    ending = came.ending;
  }

  made_more : (history after : History) (more : List Entry) (d : ℕ)
      → after.entries ≡ history.entries ++ more → WasMade may run history d
      → WasMade may run after d
  made_more history after more d is made = record {
    infos = made.infos;
    came = came_more _ _ _ d _ is made.came;
    node = made.node;
    is_node = made.is_node;
    entry = made.entry;
    is_entry = made.is_entry;
    kept = λ r has. subst (λ (rs : List Registration). Contains rs r)
        (sym (ap registered is ∙ registered-append history.entries more))
        (Contains-append_left (registered history.entries) (registered more) r (made.kept r has));
  }

  pub drv_paths : AreDrvPaths run
  drv_paths node has = search (rules, All-contains, node)

  came_here : (history : History) → IsLegal run history → (d lease : ℕ)
      (verdict : Result (List PathInfo) Reason)
      → phase_of history.events d ≡ Begun lease
      → IsVerdictAfter may run history.entries d verdict → CameTo may run history d verdict
  came_here history legal d lease verdict phase ending = record {
    before = history.entries;
    more = [];
    parts = sym (append-nil history.entries);
    closed = closed_references_valid _
        (entries_are_journal run history drv_paths legal).closed;
    seeds = seeds_are_valid run history legal d lease (begun_event _ d _ phase);
    ending = ending;
  }

  pub made_is : (history : History) → IsTold excused may run history → (d : ℕ)
      → phase_of history.events d ≡ Ended → WasMade may run history d
  made_is _ (told_opening entries journal) d ends = absurd cc
  made_is _ (told_begin history e told legal can) d ends =
      ⊎_elim
      (λ same. let lease = begins history.events in
      absurd (begun_not_ended _ _
      (subst (λ n. phase_of (begun history e).events n ≡ Begun lease) same
      (phase_begun history.events e lease)) ends))
      (λ other. made_more history (begun history e) [] d (sym (append-nil history.entries))
      (made_is history told d
      (sym (phase_other history.events (Begin e (begins history.events)) d other) ∙ ends)))
      (same_or_other e d)
  made_is _ (told_done history e lease node infos entry told legal phase is_node came is_entry) d
      ends =
      ⊎_elim
      (λ same. subst (WasMade may run (ended history e lease entry)) same (record {
        infos = infos;
        came = came_more history (ended history e lease entry) (entry ∷ []) e (Ok infos) refl
            (came_here history legal e lease (Ok infos) phase came);
        node = node;
        is_node = is_node;
        entry = entry;
        is_entry = is_entry;
        kept = λ r has. subst (λ (rs : List Registration). Contains rs r)
            (sym (registered_push history.entries entry))
            (Contains-append_right (registered history.entries) (registered_by entry) r has);
      }))
      (λ other. made_more history (ended history e lease entry) (entry ∷ []) d refl
      (made_is history told d (sym (phase_other history.events (Finish e lease) d other) ∙ ends)))
      (same_or_other e d)
  made_is _ (told_fail history e lease reason told legal phase why) d ends =
      ⊎_elim
      (λ same. absurd (ended_not_broken _ _
      ends
      (subst (λ n. phase_of (failed history e lease reason).events n ≡ Broken reason) same
      (phase_broken history.events e lease reason))))
      (λ other. made_more history (failed history e lease reason) [] d
      (sym (append-nil history.entries))
      (made_is history told d
      (sym (phase_other history.events (Fail e lease reason) d other) ∙ ends)))
      (same_or_other e d)

  why_more : (history after : History) (more : List Entry) (d : ℕ) (reason : Reason)
      → after.entries ≡ history.entries ++ more
      → excused reason ⊎ CameTo may run history d (Err reason)
      → excused reason ⊎ CameTo may run after d (Err reason)
  why_more history after more d reason is (inl excuse) = inl excuse
  why_more history after more d reason is (inr came) = search (rules, came_more, more, came)

  why_here : (history : History) → IsLegal run history → (d lease : ℕ) (reason : Reason)
      → phase_of history.events d ≡ Begun lease
      → excused reason ⊎ IsVerdictAfter may run history.entries d (Err reason)
      → excused reason ⊎ CameTo may run history d (Err reason)
  why_here history legal d lease reason phase (inl excuse) = inl excuse
  why_here history legal d lease reason phase (inr ending) =
      search (rules, came_here, phase, ending)

  pub broke_is : (history : History) → IsTold excused may run history → (d : ℕ) (why : Reason)
      → phase_of history.events d ≡ Broken why → excused why ⊎ CameTo may run history d (Err why)
  broke_is _ (told_opening entries journal) d why breaks = absurd cc
  broke_is _ (told_begin history e told legal can) d why breaks =
      ⊎_elim
      (λ same. let lease = begins history.events in
      absurd (begun_not_broken (phase_of (begun history e).events d) lease why
      (subst (λ n. phase_of (begun history e).events n ≡ Begun lease) same
      (phase_begun history.events e lease)) breaks))
      (λ other. why_more history (begun history e) [] d why (sym (append-nil history.entries))
      (broke_is history told d why
      (sym (phase_other history.events (Begin e (begins history.events)) d other) ∙ breaks)))
      (same_or_other e d)
  broke_is _ (told_done history e lease node infos entry told legal phase is_node came is_entry) d
      why breaks =
      ⊎_elim
      (λ same. absurd (ended_not_broken (phase_of (ended history e lease entry).events d) why
      (subst (λ n. phase_of (ended history e lease entry).events n ≡ Ended) same
      (phase_ended history.events e lease)) breaks))
      (λ other. why_more _ _ _ d _ refl
      (broke_is history told d why
      (sym (phase_other history.events (Finish e lease) d other) ∙ breaks)))
      (same_or_other e d)
  broke_is _ (told_fail history e lease reason told legal phase given) d why breaks =
      ⊎_elim
      (λ same.
      let here : Broken reason ≡ Broken why =
      sym (subst (λ n. phase_of (failed history e lease reason).events n ≡ Broken reason) same
      (phase_broken history.events e lease reason)) ∙ breaks in
      let reason_is : reason ≡ why = cc in
      why_more history (failed history e lease reason) [] d why (sym (append-nil history.entries))
      (subst (λ (r : Reason). excused r ⊎ CameTo may run history d (Err r)) reason_is
      (subst (λ n. excused reason ⊎ CameTo may run history n (Err reason)) same
      (why_here history legal e lease reason phase given))))
      (λ other. why_more history (failed history e lease reason) [] d why
      (sym (append-nil history.entries))
      (broke_is history told d why
      (sym (phase_other history.events (Fail e lease reason) d other) ∙ breaks)))
      (same_or_other e d)

-- ---- where a record comes from

-- A record stood in the opening, or is one of an output of a derivation that was built.
pub data IsFrom (run : Run) (history : History) (path : List ℕ) (info : PathInfo) : Type 0 where
  from_opening : Registers (registered history.opening) path info → IsFrom run history path info
  from_built : (d : ℕ) (node : Node) → slice_get run.graph.nodes d ≡ Some node
      → phase_of history.events d ≡ Ended → Contains (output_paths_of node.drv) path
      → IsFrom run history path info

module _ (excused : Reason → Type 0) (may : Job → Result Answer Reason → Type 0) (run : Run) where
  from_more : (history after : History) (path : List ℕ) (info : PathInfo)
      → after.opening ≡ history.opening
      → ((d : ℕ) → phase_of history.events d ≡ Ended → phase_of after.events d ≡ Ended)
      → IsFrom run history path info → IsFrom run after path info
  from_more history after path info opening stays (from_opening has) = search (rules, from_opening)
  from_more history after path info opening stays (from_built d node at ends own) =
      from_built d node at (stays d ends) own

  -- an event of another derivation leaves what was built
  ended_stays : (events : List Event) (x : Event)
      → (phase_of events (number_of x) ≡ Ended → ⊥) → (d : ℕ) → phase_of events d ≡ Ended
      → phase_of (events ++ x ∷ []) d ≡ Ended
  ended_stays events x not_ended d ends = search (rules, phase_other)

  idle_not_ended : (p : Phase) → p ≡ Idle → p ≡ Ended → ⊥
  idle_not_ended p is ends = search rules

  pub from_is : (history : History) → IsTold excused may run history → (path : List ℕ)
      (info : PathInfo) → Registers (registered history.entries) path info
      → IsFrom run history path info
  from_is _ (told_opening entries journal) path info has = from_opening has
  from_is _ (told_begin history e told legal can) path info has =
      search (rules, from_more, ended_stays, idle_not_ended, ready_is_idle, from_is _ told _ _ has)
  from_is _ (told_done history e lease node infos entry told legal phase is_node came is_entry) path
      info has =
      ⊎_elim
      (λ before. from_more history (ended history e lease entry) path info refl
      (ended_stays history.events (Finish e lease)
      (begun_not_ended (phase_of history.events e) lease phase))
      (from_is history told path info before))
      (λ last. from_built e node is_node (phase_ended history.events e lease)
      (registered_output node infos entry is_entry (record { path = path; info = info })
      (subst (λ (x : Entry). Contains (registered_by x) (record { path = path; info = info }))
      is_entry.is_done last)).0)
      (Contains-append_cases (registered history.entries) (registered_by entry)
      (record { path = path; info = info })
      (subst (λ (rs : List Registration). Registers rs path info)
      (registered_push history.entries entry) has))
  from_is _ (told_fail history e lease reason told legal phase why) path info has =
      search (rules, from_more, ended_stays, begun_not_ended, phase, from_is _ told _ _ has)
