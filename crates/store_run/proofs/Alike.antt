-- Two whole runs over one opening are alike, derivation by derivation in plan order.
use Rattle.std.proofs.Common.{◌≡◌, ◌∙◌, inl, inr, ◌<◌, length, ℕ, zero, suc, true, false, List, [], ◌++◌, Result, Err, Option, Some, refl, sym, ap, subst, ⊎_elim, arith, rules}
use Rattle.std.specs.Prelude.{Contains, flat_map, slice_get}
use Rattle.std.specs.List.{position_or_len}
use Rattle.std.proofs.lemmas.List.Elements.{Contains-append_cases, Contains-append_left}
use Rattle.std.proofs.lemmas.Map.Views.{Contains-from_any}
use Rattle.std.proofs.lemmas.Option.{slice_get_within}
use Rattle.nix_names.specs.Names.{same_bytes}
use Rattle.nix_names.proofs.Lists.{Contains-from_get, Contains-map, element_at, get_from_contains, same_element}
use Rattle.nix_names.proofs.RisingLists.{equal_from_eq}
use Rattle.nix_drv.specs.Derivation.{Input}
use Rattle.drv_graph.specs.Nodes.{Node, inputs_of, paths_of as node_paths}
use Rattle.drv_graph.specs.PlanNodes.{output_paths_of}
use Rattle.drv_graph.specs.SoundGraphs.{IsSound}
use Rattle.valid_table.specs.Entries.{registered, registered_by}
use Rattle.valid_table.specs.PathInfos.{PathInfo}
use Rattle.valid_table.specs.Valid.{AreReferencesValid, IsOnce, IsValid, Registers}
use Rattle.valid_table.specs.declared.entry.Entry.{Entry}
use Rattle.valid_table.specs.declared.entry.Registration.{Registration}
use Rattle.valid_table.proofs.Following.{one_info}
use Rattle.valid_table.proofs.JournalLists.{registered-append}
use Rattle.run_states.specs.StateTables.{IsRunSettled}
use Rattle.build_outcome.specs.Jobs.{named_outputs, seeds_of}
use Rattle.run_states.specs.Legal.{IsEntryOf}
use Rattle.run_states.specs.Runs.{History, IsWanted, Run, earlier_twins, input_numbers, inputs_at, is_valid, precondition_at, state_in, terms_of}
use Rattle.run_states.specs.States.{Phase, Idle, Begun, Ended, Broken, is_bad, is_good, phase_of}
use Rattle.build_outcome.specs.declared.job.Answer.{Answer}
use Rattle.build_outcome.specs.declared.job.Job.{Job}
use Rattle.build_outcome.specs.declared.reason.Reason.{Reason}
use Rattle.run_states.specs.declared.state.State.{State}
use Rattle.run_states.specs.declared.state.State.TheVariants.{Failed}
use Rattle.run_states.proofs.Dones.{part_with}
use Rattle.run_states.proofs.PlanInputs.{inputs_first}
use Rattle.run_states.proofs.Seeds.{named_at}
use Rattle.run_states.proofs.TwinLaws.{is_earlier_twin, is_there, path_of_twin}
use Rattle.store_run.specs.Scheduling.{AreAlike, HasOneOutcome}
use Rattle.store_run.proofs.Carried.{IsCarried, first_carried, outputs_carried}
use Rattle.store_run.proofs.OneOutcome.{came_count, came_refers, one_verdict}
use Rattle.store_run.proofs.Preconditions.{output_of_reused, source_of_free}
use Rattle.store_run.proofs.Telling.{CameTo, IsFrom, WasBegun, WasMade, from_built, from_opening}
use Rattle.store_run.proofs.Unhindered.{IsGoodBy, IsUnhindered, aside_same, good_ended, good_is, good_reused, good_twin, inputs_in, is_good_by, state_by, twins_in, unhindered_ready}
use Rattle.valid_table.proofs.Reaching.{valid_from_registers}

-- A history in which each derivation that has an event was begun and, once it ended, has a
-- verdict, and in which each record comes from the opening or from what was built.
pub record IsAccounted (may : Job → Result Answer Reason → Type 0) (run : Run) (history : History)
    : Type 0 where
  pub begun : (d : ℕ) → (phase_of history.events d ≡ Idle → ⊥) → WasBegun run history d
  pub made : (d : ℕ) → phase_of history.events d ≡ Ended → WasMade may run history d
  pub broke : (d : ℕ) (why : Reason) → phase_of history.events d ≡ Broken why
      → CameTo may run history d (Err why)
  pub more : List Entry
  pub parts : history.entries ≡ history.opening ++ more
  pub closed : AreReferencesValid (registered history.opening)
  pub once : IsOnce (registered history.entries)
  pub from : (path : List ℕ) (info : PathInfo) → Registers (registered history.entries) path info
      → IsFrom run history path info

-- the outputs of a derivation that is good are carried
abbrev pub Carries : Run → (history other : History) → ℕ → Type 0
Carries run history other d = is_good (state_in run history d) ≡ true → (node : Node)
    → slice_get run.graph.nodes d ≡ Some node → (path : List ℕ)
    → Contains (output_paths_of node.drv) path
    → IsCarried (registered history.entries) (registered other.entries) path

-- A derivation is in the same state in two histories, and its outputs are carried both ways.
pub record IsAlikeAt (run : Run) (history other : History) (d : ℕ) : Type 0 where
  pub same : state_in run history d ≡ state_in run other d
  pub there : Carries run history other d
  pub back : Carries run other history d

-- A derivation isn't building in two histories, and has an event in both or in neither.
pub record HasSameTurn (history other : History) (d : ℕ) : Type 0 where
  pub over : (lease : ℕ) → phase_of history.events d ≡ Begun lease → ⊥
  pub over_there : (lease : ℕ) → phase_of other.events d ≡ Begun lease → ⊥
  pub idle : phase_of other.events d ≡ Idle → phase_of history.events d ≡ Idle
  pub idle_there : phase_of history.events d ≡ Idle → phase_of other.events d ≡ Idle

pub swapped : (run : Run) (history other : History) (d : ℕ) → IsAlikeAt run history other d
    → IsAlikeAt run other history d
swapped run history other d alike = record {
  same = sym alike.same;
  there = alike.back;
  back = alike.there;
}

-- ---- from one history to another

module _ (may : Job → Result Answer Reason → Type 0) (run : Run) (sound : IsSound run.graph)
    (history other : History) (end : IsAccounted may run history) (end' : IsAccounted may run other)
    (opening : other.opening ≡ history.opening) where
  -- what was valid at opening is carried
  opening_carried : (path : List ℕ) → is_valid history.opening path ≡ true
      → IsCarried (registered history.entries) (registered other.entries) path
  opening_carried path is =
      let first = registered history.opening in
      let whole : registered history.entries ≡ first ++ registered end.more =
      ap registered end.parts ∙ registered-append history.opening end.more in
      let whole' : registered other.entries ≡ first ++ registered end'.more =
      ap registered end'.parts ∙ registered-append other.opening end'.more
      ∙ ap (λ (es : List Entry). registered es ++ registered end'.more) opening in
      subst (λ (rs : List Registration). IsCarried rs (registered other.entries) path) (sym whole)
      (subst (λ (rs : List Registration). IsCarried (first ++ registered end.more) rs path)
      (sym whole')
      (first_carried _ _ _ end.closed
      (subst IsOnce whole end.once) _
      (Contains-from_any equal_from_eq _ _ is)))

  module _ (d : ℕ) (below : (i : ℕ) → i < d → IsAlikeAt run history other i) where
    input_alike : (i : ℕ) → Contains (inputs_in run d) i → IsAlikeAt run history other i
    input_alike i has = below i (inputs_first _ sound d i has)

    twin_alike : (t : ℕ) → Contains (twins_in run history d) t → IsAlikeAt run history other t
    twin_alike t has = below t (is_earlier_twin _ _ d t has).earlier

    -- the outputs of a derivation that was reused are carried: they were valid at the opening, or
    -- are those of an earlier twin
    reused_carried : phase_of history.events d ≡ Idle → Carries run history other d
    reused_carried idle good node at path has = by (good_is _ _ sound d good)
      where
        by : IsGoodBy run history d
            → IsCarried (registered history.entries) (registered other.entries) path
        by (good_ended ends) = search (rules, idle)
        by (good_reused rests stands) =
            opening_carried _
            (output_of_reused _ history.opening node.drv
            (sym (ap (precondition_at (terms_of run) history.opening) at) ∙ stands) _ has)
        by (good_twin t rests twin ends) =
            let nodes = run.graph.nodes in
            let is = is_earlier_twin _ _ d t twin in
            let there = is_there _ _ is.twins in
            (twin_alike t twin).there (ap is_good (state_by _ history sound t _ ends)) there.0
            there.1 path
            (path_of_twin _ _ _ _ _ there.1 at
            is.twins has)

    pub unhindered_there : IsUnhindered run history d → IsUnhindered run other d
    unhindered_there un = record {
      free = ap (λ (opens : List Entry). precondition_at (terms_of run) opens
          (slice_get run.graph.nodes d)) opening ∙ un.free;
      spent = λ t has.
          let here = subst (λ (opens : List Entry). Contains (earlier_twins run opens d) t) opening
          has in
          subst (λ (s : State). is_bad s ≡ true) (twin_alike t here).same (un.spent t here);
      good = λ i has. subst (λ (s : State). is_good s ≡ true) (input_alike i has).same
          (un.good i has);
    }

    -- the seeds of a derivation with nothing in its way are carried
    pub seed_carried : (node : Node) → slice_get run.graph.nodes d ≡ Some node
        → IsUnhindered run history d → (seed : List ℕ)
        → Contains (seeds_of run.graph.nodes node.drv) seed
        → IsCarried (registered history.entries) (registered other.entries) seed
    seed_carried node at un seed has =
        let nodes = run.graph.nodes in
        ⊎_elim
        (λ source. opening_carried seed
        (source_of_free (terms_of run) history.opening node.drv
        (sym (ap (precondition_at (terms_of run) history.opening) at) ∙ un.free) seed source))
        (λ named.
        let part = part_with (named_outputs nodes) node.drv.inputs seed named in
        let input = part.0 in
        let i = position_or_len (same_bytes input.path) (node_paths nodes) in
        let found = named_at nodes input seed part.2 in
        let listed : Contains (input_numbers nodes node.drv) i =
        Contains-map (λ (p : List ℕ). position_or_len (same_bytes p) (node_paths nodes))
        (inputs_of node.drv) input.path
        (Contains-map (λ (x : Input). x.path) node.drv.inputs input part.1) in
        let is_input : Contains (inputs_in run d) i =
        subst (λ (o : Option Node). Contains (inputs_at nodes o) i) (sym at) listed in
        (input_alike i is_input).there (un.good i is_input) found.0 found.1 seed found.2)
        (Contains-append_cases node.drv.sources (flat_map (named_outputs nodes) node.drv.inputs)
        seed has)

-- ---- what was built

module _ (may : Job → Result Answer Reason → Type 0) (run : Run) (history : History)
    (once : IsOnce (registered history.entries)) (d : ℕ) (node : Node)
    (at : slice_get run.graph.nodes d ≡ Some node) (made : WasMade may run history d) where
  its_entry : IsEntryOf node made.infos made.entry
  its_entry = search (rules, same_element)

  -- each output is registered with its record
  record_registered : (n : ℕ) (path : List ℕ) (info : PathInfo)
      → slice_get (output_paths_of node.drv) n ≡ Some path → slice_get made.infos n ≡ Some info
      → Registers (registered history.entries) path info
  record_registered n path info path_at info_at =
      let is = its_entry in
      let r : Registration = record { path = path; info = info } in
      made.kept r
      (subst (λ (x : Entry). Contains (registered_by x) r) (sym is.is_done)
      ((is.each path info).1 (n, path_at, info_at)))

  -- and with no other
  record_is : (path : List ℕ) (info : PathInfo) → Contains (output_paths_of node.drv) path
      → Registers (registered history.entries) path info
      → (n : ℕ) × (slice_get (output_paths_of node.drv) n ≡ Some path)
      × (slice_get made.infos n ≡ Some info)
  record_is path info own has =
      let index = get_from_contains _ _ own in
      let below = slice_get_within (output_paths_of node.drv) index.0 path index.1 in
      let count = came_count may run history once d node at made.infos made.came in
      let found = element_at made.infos index.0 (omega (arith, below, count)) in
      let same : found.0 ≡ info = one_info _ once _ _ _
      (record_registered _ _ _ index.1 found.1) has in
      (index.0, index.1, found.1 ∙ ap Some same)

-- the outputs of a derivation with the same records are carried
made_carried : (may : Job → Result Answer Reason → Type 0) (run : Run) (history other : History)
    (once : IsOnce (registered history.entries)) (once' : IsOnce (registered other.entries))
    (d : ℕ) (node : Node) (at : slice_get run.graph.nodes d ≡ Some node)
    (made : WasMade may run history d) (made' : WasMade may run other d)
    → made.infos ≡ made'.infos
    → ((seed : List ℕ) → Contains (seeds_of run.graph.nodes node.drv) seed
    → IsCarried (registered history.entries) (registered other.entries) seed)
    → (path : List ℕ) → Contains (output_paths_of node.drv) path
    → IsCarried (registered history.entries) (registered other.entries) path
made_carried may run history other once once' d node at made made' same carried =
    outputs_carried _ _
    _ _ carried
    (λ path info own has.
    let index = record_is _ _ history once d node at made path info own has in
    record_registered _ _ _ once' d node at made' index.0 path info index.1
    (ap (λ (infos : List PathInfo). slice_get infos index.0) (sym same) ∙ index.2))
    (λ path next info own has refers.
    let index = record_is may run history once d node at made path info own has in
    came_refers may _ _ once d node at _ made.came _ _
    (Contains-from_get _ _ _ index.2) refers)

-- ---- one derivation

module _ (may : Job → Result Answer Reason → Type 0) (run : Run) (sound : IsSound run.graph)
    (outcome : HasOneOutcome may run.graph) (history other : History)
    (end : IsAccounted may run history) (end' : IsAccounted may run other)
    (opening : other.opening ≡ history.opening) (d : ℕ)
    (below : (i : ℕ) → i < d → IsAlikeAt run history other i) where
  above : (i : ℕ) → i < d → IsAlikeAt run other history i
  above i less = swapped _ _ _ i (below i less)

  -- the seeds of what has an event are carried
  seeds_there : (phase_of history.events d ≡ Idle → ⊥) → (node : Node)
      → slice_get run.graph.nodes d ≡ Some node → (seed : List ℕ)
      → Contains (seeds_of run.graph.nodes node.drv) seed
      → IsCarried (registered history.entries) (registered other.entries) seed
  seeds_there moved node at =
      seed_carried _ run sound _ other end end' opening d below node at
      (end.begun d moved).unhindered

  seeds_back : (phase_of other.events d ≡ Idle → ⊥) → (node : Node)
      → slice_get run.graph.nodes d ≡ Some node → (seed : List ℕ)
      → Contains (seeds_of run.graph.nodes node.drv) seed
      → IsCarried (registered other.entries) (registered history.entries) seed
  seeds_back moved node at =
      seed_carried _ run sound _ history end' end (sym opening) d above node at
      (end'.begun d moved).unhindered

  -- so it has one verdict
  verdicts_same : (phase_of history.events d ≡ Idle → ⊥) → (phase_of other.events d ≡ Idle → ⊥)
      → (v w : Result (List PathInfo) Reason) → CameTo may run history d v
      → CameTo may run other d w → v ≡ w
  verdicts_same moved moved' v w came came' =
      search (rules, one_verdict, seeds_there, moved, seeds_back)

  both_idle : phase_of history.events d ≡ Idle → phase_of other.events d ≡ Idle
      → IsAlikeAt run history other d
  both_idle idle idle' = record {
    same = state_by run history sound d Idle idle
        ∙ aside_same run history other d (sym opening)
        (λ i has. (below i (inputs_first _ sound d i has)).same)
        (λ t has. (below t (is_earlier_twin _ _ d t has).earlier).same)
        ∙ sym (state_by run other sound d Idle idle');
    there = reused_carried may run sound history other end end' opening d below idle;
    back = reused_carried may run sound other history end' end (sym opening) d above idle';
  }

  both_ended : phase_of history.events d ≡ Ended → phase_of other.events d ≡ Ended
      → IsAlikeAt run history other d
  both_ended ends ends' =
      let moved : phase_of history.events d ≡ Idle → ⊥ =
      λ idle. let clash : Ended ≡ Idle = sym ends ∙ idle in cc in
      let moved' : phase_of other.events d ≡ Idle → ⊥ =
      λ idle. let clash : Ended ≡ Idle = sym ends' ∙ idle in cc in
      let made = end.made d ends in
      let made' = end'.made d ends' in
      let one = verdicts_same moved moved' _ _ made.came made'.came in
      let same : made.infos ≡ made'.infos = cc in
      record {
        same = state_by _ history sound d _ ends
            ∙ sym (state_by _ other sound d _ ends');
        there = λ good node at. made_carried may run history other end.once end'.once d node at made
            made' same (seeds_there moved _ at);
        back = λ good node at. made_carried may run other history end'.once end.once d node at
            made' made (sym same) (seeds_back moved' _ at);
      }

  ended_and_broken : (why : Reason) → phase_of history.events d ≡ Ended
      → phase_of other.events d ≡ Broken why → ⊥
  ended_and_broken why ends breaks =
      let moved : phase_of history.events d ≡ Idle → ⊥ =
      λ idle. let clash : Ended ≡ Idle = sym ends ∙ idle in cc in
      let moved' : phase_of other.events d ≡ Idle → ⊥ =
      λ idle. let clash : Broken why ≡ Idle = sym breaks ∙ idle in cc in
      let made = end.made d ends in
      let one = verdicts_same moved moved' _ _ made.came
      (end'.broke d why breaks) in
      cc

  broken_and_ended : (why : Reason) → phase_of history.events d ≡ Broken why
      → phase_of other.events d ≡ Ended → ⊥
  broken_and_ended why breaks ends =
      let moved : phase_of history.events d ≡ Idle → ⊥ =
      λ idle. let clash : Broken why ≡ Idle = sym breaks ∙ idle in cc in
      let moved' : phase_of other.events d ≡ Idle → ⊥ =
      λ idle. let clash : Ended ≡ Idle = sym ends ∙ idle in cc in
      let made = end'.made d ends in
      let one = verdicts_same moved moved' _ _ (end.broke d why breaks)
      made.came in
      cc

  both_broken : (why why' : Reason) → phase_of history.events d ≡ Broken why
      → phase_of other.events d ≡ Broken why' → IsAlikeAt run history other d
  both_broken why why' breaks breaks' =
      let moved : phase_of history.events d ≡ Idle → ⊥ =
      λ idle. let clash : Broken why ≡ Idle = sym breaks ∙ idle in cc in
      let moved' : phase_of other.events d ≡ Idle → ⊥ =
      λ idle. let clash : Broken why' ≡ Idle = sym breaks' ∙ idle in cc in
      let one = verdicts_same moved moved' _ _ (end.broke d why breaks)
      (end'.broke d why' breaks') in
      let same : why ≡ why' = cc in
      let state = state_by _ history sound d (Broken why) breaks in
      let state' = state_by run other sound d (Broken why') breaks' in
      record {
        same = state ∙ ap (λ (r : Reason). Failed r) same ∙ sym state';
        there = λ good node at. let clash : false ≡ true = sym (ap is_good state) ∙ good in
            absurd cc;
        back = λ good node at. let clash : false ≡ true = sym (ap is_good state') ∙ good in
            absurd cc;
      }

  pub alike_at : HasSameTurn history other d → IsAlikeAt run history other d
  alike_at turn = by (phase_of history.events d) (phase_of other.events d) refl refl
    where
      by : (p q : Phase) → phase_of history.events d ≡ p → phase_of other.events d ≡ q
          → IsAlikeAt run history other d
      by Idle Idle is is' = both_idle is is'
      by Ended Ended is is' = both_ended is is'
      by (Broken why) (Broken why') is is' = both_broken _ _ is is'
      by Ended (Broken why) is is' = absurd (ended_and_broken _ is is')
      by (Broken why) Ended is is' = absurd (broken_and_ended _ is is')
      by (Begun lease) q is is' = absurd (turn.over lease is)
      by p (Begun lease) is is' = search rules
      by Idle Ended is is' = search rules
      by Idle (Broken why) is is' = search rules
      by Ended Idle is is' = search rules
      by (Broken why) Idle is is' = search rules

-- ---- all of them

module _ (may : Job → Result Answer Reason → Type 0) (run : Run) (sound : IsSound run.graph)
    (outcome : HasOneOutcome may run.graph) (history other : History)
    (end : IsAccounted may run history) (end' : IsAccounted may run other)
    (opening : other.opening ≡ history.opening) where
  -- the derivations below a number are alike, where each of them has the same turn once those
  -- below it are alike
  pub alike_below : (count : ℕ)
      → ((d : ℕ) → d < count → ((i : ℕ) → i < d → IsAlikeAt run history other i)
      → HasSameTurn history other d)
      → (bound d : ℕ) → d < bound → d < count → IsAlikeAt run history other d
  alike_below count turns zero d low within = absurd (omega arith)
  alike_below count turns (suc bound) d low within =
      let below : (i : ℕ) → i < d → IsAlikeAt run history other i =
      λ i less. alike_below count turns bound i (omega (arith, low, less))
      (omega (arith, within, less)) in
      alike_at may run sound outcome history other end end' opening d below (turns d within below)

  -- what is registered here is registered there
  record_there : ((d : ℕ) → IsAlikeAt run history other d) → (path : List ℕ) (info : PathInfo)
      → Registers (registered history.entries) path info
      → Registers (registered other.entries) path info
  record_there alike path info has = by (end.from path info has)
    where
      valid : IsValid (registered history.entries) path
      valid = search (rules, valid_from_registers)

      by : IsFrom run history path info → Registers (registered other.entries) path info
      by (from_opening first) =
          let whole' : registered other.entries
          ≡ registered history.opening ++ registered end'.more =
          ap registered end'.parts ∙ registered-append other.opening _
          ∙ ap (λ (es : List Entry). registered es ++ registered end'.more) opening in
          subst (λ (rs : List Registration). Registers rs path info) (sym whole')
          (Contains-append_left _ _
          (record { path = path; info = info }) first)
      by (from_built d node at ends own) =
          (alike d).there (is_good_by run history sound d (good_ended ends)) node at path own path
          info ([], (valid, refl)) has

-- ---- settled histories

module _ (may : Job → Result Answer Reason → Type 0) (run : Run) (sound : IsSound run.graph)
    (history other : History) (end : IsAccounted may run history)
    (end' : IsAccounted may run other) (settled : IsRunSettled run history)
    (opening : other.opening ≡ history.opening) where
  -- no derivation is building
  pub none_building : (d lease : ℕ) → phase_of history.events d ≡ Begun lease → ⊥
  none_building d lease phase =
      let was = end.begun d (λ idle. let clash : Begun lease ≡ Idle = sym phase ∙ idle in cc) in
      settled d was.within was.wanted
      (inr (inr (lease, state_by _ history sound d (Begun lease) phase)))

  -- what can begin there has an event here, where the derivations before it are alike
  pub not_idle : (d : ℕ) → ((i : ℕ) → i < d → IsAlikeAt run other history i)
      → phase_of history.events d ≡ Idle → d < length run.graph.nodes
      → IsWanted run other.opening d → IsUnhindered run other d → ⊥
  not_idle d above idle within wanted un =
      settled d within (subst (λ (opens : List Entry). IsWanted run opens d) opening wanted)
      (inr (inl (unhindered_ready _ history sound d
      (unhindered_there may run sound other history end' end (sym opening) d above un) idle)))

  -- what has no event here has none there
  idle_too : (d : ℕ) → ((i : ℕ) → i < d → IsAlikeAt run other history i)
      → phase_of history.events d ≡ Idle → phase_of other.events d ≡ Idle
  idle_too d above idle = by (phase_of other.events d) refl
    where
      moved : (phase_of other.events d ≡ Idle → ⊥) → phase_of other.events d ≡ Idle
      moved has = search (rules, not_idle, above, idle)

      by : (p : Phase) → phase_of other.events d ≡ p → phase_of other.events d ≡ Idle
      by Idle is = is
      by (Begun lease) is = search (rules, moved)
      by Ended is = search (rules, moved)
      by (Broken why) is = search (rules, moved)

pub are_alike : (may : Job → Result Answer Reason → Type 0) (run : Run)
    (sound : IsSound run.graph) (outcome : HasOneOutcome may run.graph) (history other : History)
    (end : IsAccounted may run history) (end' : IsAccounted may run other)
    (settled : IsRunSettled run history) (settled' : IsRunSettled run other)
    (opening : other.opening ≡ history.opening) → AreAlike run history other
are_alike may run sound outcome history other end end' settled settled' opening = record {
  states = λ d. (alike d).same;
  records = λ path info. (
    record_there may _ sound outcome history other end end' opening alike path info,
    record_there may _ sound outcome other history end' end (sym opening)
        (λ d. swapped _ _ _ d (alike d)) path info,
  );
}
  where
    turn : (d : ℕ) → ((i : ℕ) → i < d → IsAlikeAt run history other i)
        → HasSameTurn history other d
    turn d below = record {
      over = none_building _ _ sound history other end end' settled opening d;
      over_there = none_building _ _ sound other history end' end settled' (sym opening) d;
      idle = idle_too _ run sound other history end' end settled' (sym opening) d below;
      idle_there = idle_too _ run sound history other end end' settled opening d
          (λ i less. swapped _ _ _ i (below i less));
    }

    alike : (d : ℕ) → IsAlikeAt run history other d
    alike d = alike_below _ run sound outcome history other end end' opening (suc d)
        (λ e low below. turn e below) (suc d) d (omega arith) (omega arith)
