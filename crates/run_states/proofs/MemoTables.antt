-- A state table by the memos that are kept.
use Rattle.std.proofs.Common.{◌≡◌, ◌∙◌, ◌↔◌, inl, inr, ⊎_elim, ℕ, zero, suc, ◌+◌, ◌<◌, ◌≤◌, ◌^◌, ◌==◌, ◌&&◌, Bool, true, false, List, [], ◌∷◌, ◌++◌, length, map, take, get_or, IsTrue, Option, Some, None, refl, if◌then◌else◌, sym, ap, subst, arith, eqb-true, eq-eqb, rules}
use Rattle.std.specs.Prelude.{All, Contains, MatchOption, slice_get}
use Rattle.std.specs.List.{slice_index_or}
use Rattle.std.proofs.lemmas.Bool.{false≢true}
use Rattle.std.proofs.lemmas.List.Elements.{All-contains, Contains-append_cases, Contains-append_left, Contains-append_right}
use Rattle.std.proofs.lemmas.List.{get_or-map, length-map, length_push, map_push, take_all, take_more}
use Rattle.std.proofs.lemmas.Option.{get_or_from_slice_get, slice_get-get_or, slice_get_within}
use Rattle.nix_names.proofs.Lists.{Contains-nothing}
use Rattle.drv_graph.specs.Plans.{Graph}
use Rattle.drv_graph.specs.SoundGraphs.{IsSound}
use Rattle.run_states.specs.WorkQueues.{AreQueues, IsStateTable, WorkQueues, AreOpening, IsFresh, IsSteady, is_unsettled, phases_in, preconditions_in, table_by, twins_in, wanted_in}
use Rattle.run_states.specs.Counts.{HasCount}
use Rattle.run_states.specs.StateTables.{Awaited, StateTable, IsNext, IsOpen, IsSettled, IsUnsettledIn, all_of, awaited_at, listed, rows_of_table, table_state}
use Rattle.run_states.specs.StateLists.{kept, phase_in}
use Rattle.run_states.specs.Nearest.{near_state, near_table}
use Rattle.run_states.specs.Runs.{inputs_at}
use Rattle.run_states.specs.States.{Begun, Idle, IsInOrder, is_open}
use Rattle.run_states.specs.Steps.{edges_ahead, total}
use Rattle.run_states.specs.NodeStates.{HaveHeard, Hears, states_in}
use Rattle.run_states.specs.FollowedEdges.{HasFollowed, open_edges, sizes, table_ahead, table_followed}
use Rattle.run_states.specs.UserSpans.{uses}
use Rattle.run_states.specs.Users.{AreUsers, users_of_all}
use Rattle.run_states.specs.declared.state.State.{State}
use Rattle.run_states.specs.declared.state.State.TheVariants.{Done, Failed, Building, Reused, Refused, Ready, Blocked}
use Rattle.run_states.specs.declared.precondition.Precondition.{Precondition}
use Rattle.run_states.specs.declared.precondition.Precondition.TheVariants.{Free}
use Rattle.run_states.specs.declared.node_states.NodeState.{NodeState}
use Rattle.run_states.specs.declared.users.Edge.{Edge}
use Rattle.run_states.proofs.WorkQueues.{count_none, none_counted}
use Rattle.run_states.proofs.Counts.{memos_counted}
use Rattle.run_states.proofs.Hearing.{heard_more, heard_states}
use Rattle.run_states.proofs.PlanInputs.{inputs_first}
use Rattle.run_states.proofs.StateLaws.{near_same}
use Rattle.run_states.proofs.Totals.{total_below}
use Rattle.run_states.proofs.Wanting.{any_default}

-- a part of the memos, read at a memo
part_at : {X : Type 0} (part : NodeState → X) (memos : List NodeState) (d : ℕ) (memo : NodeState)
    (default : X) → slice_get memos d ≡ Some memo
    → get_or (map part memos) d default ≡ part memo
part_at part memos d memo default at =
    get_or-map part _ d memo _ (slice_get_within memos d memo at)
    ∙ ap part (get_or_from_slice_get _ d _ _ at)

phase_at : (memos : List NodeState) (d : ℕ) (memo : NodeState) → slice_get memos d ≡ Some memo
    → get_or (phases_in memos) d Idle ≡ phase_in memo.state
phase_at [] d memo at = absurd cc
phase_at (t ∷ memos) zero memo at = search rules
phase_at (t ∷ memos) (suc d) memo at = phase_at memos d memo at

-- what is read past the end of the memos
abbrev unknown : NodeState
unknown = record {
  precondition = Free;
  wanted = false;
  twin = None;
  state = Blocked;
  inputs = 0;
  waits = 0;
  first = 0;
  failed = None;
  held = false;
}

module _ (graph : Graph) (memos : List NodeState) (users : List (List Edge)) (queues : WorkQueues)
    (is : IsStateTable graph memos users queues) where
  abbrev table : StateTable
  table = table_by graph memos

  abbrev awaited : ℕ → Awaited
  awaited = awaited_at graph (twins_in memos)

  heard : HaveHeard awaited memos []
  heard = search (rules, awaited)

  in_order : IsInOrder (rows_of_table table)
  in_order = record {
    inputs = λ d i has. is.steady.told.first d i
        (Contains-append_left _ _ i has);
    twins = λ d t has. is.steady.told.first d t
        (Contains-append_right _ _ t has);
  }

  -- the states that are kept are the state table's
  pub state_kept : (d : ℕ) → d < length graph.nodes
      → kept (states_in memos) d ≡ table_state table d
  state_kept d low = search (rules, heard_states, table, in_order, part_at, phase_at, heard)

  pub state_told : (d : ℕ) (none : NodeState) → d < length graph.nodes
      → (get_or memos d none).state ≡ table_state table d
  state_told d none low =
      sym (get_or-map (λ (t : NodeState). t.state) _ d none Blocked
      (omega (arith, low, is.count)))
      ∙ state_kept d low

  pub wanted_told : (d : ℕ) (none : NodeState) → d < length graph.nodes
      → (get_or memos d none).wanted ≡ slice_index_or table.wanted d false
  wanted_told d none low = search (rules, get_or-map, none)

  -- what the ring says
  pub next_told : (first : Option ℕ) → first ≡ slice_get queues.ring 0
      → MatchOption first ((d : ℕ) → IsNext table d → ⊥) (IsNext table)
  next_told None at = λ d next. none d next
    where
      empty : (xs : List ℕ) → None ≡ slice_get xs 0 → xs ≡ []
      empty [] at = refl
      empty (x ∷ xs) at = absurd cc

      none : (d : ℕ) → IsNext table d → ⊥
      none d next =
          let low : d < length memos = omega (arith, next.0, is.count) in
          let memo : NodeState = get_or memos d unknown in
          Contains-nothing d (subst (λ l. Contains l d) (empty queues.ring at)
          (is.steady.told.listed.ready d memo (slice_get-get_or _ d _ low)
          (wanted_told d _ next.0 ∙ next.1) (state_told d _ next.0 ∙ next.2)))
  next_told (Some d) at =
      let has = is.steady.told.listed.ring 0 d (slice_get_within queues.ring 0 d (sym at)) in
      let there : slice_get memos d ≡ Some has.0 =
      subst (λ n. slice_get memos n ≡ Some has.0)
      (get_or_from_slice_get _ 0 d d (sym at)) has.1 in
      let low : d < length graph.nodes =
      omega (arith, is.count, slice_get_within memos d has.0 there) in (
        low,
        part_at (λ (t : NodeState). t.wanted) _ d _ _ there ∙ has.2,
        sym (state_kept d low) ∙ is.steady.fresh d (sym at),
      )

  open_is : (s : State) → is_open s ≡ true → IsOpen s
  open_is Blocked is = inl refl
  open_is Ready is = inr (inl refl)
  open_is (Building lease) is = inr (inr (lease, refl))
  open_is Done is = absurd (false≢true is)
  open_is Reused is = absurd (false≢true is)
  open_is (Failed reason) is = absurd (false≢true is)
  open_is (Refused cause) is = absurd (false≢true is)

  is_open_of : (s : State) → IsOpen s → is_open s ≡ true
  is_open_of s (inl is) = ap is_open is
  is_open_of s (inr (inl is)) = ap is_open is
  is_open_of s (inr (inr (lease, is))) = ap is_open is

  both_true : (a b : Bool) → (a && b) ≡ true → (a ≡ true) × (b ≡ true)
  both_true true b is = (refl, is)
  both_true false b is = absurd (false≢true is)

  -- a memo says whether its derivation is wanted and has something before it
  unsettled_at : (d : ℕ) → IsUnsettledIn table d
      → (memo : NodeState) × (slice_get memos d ≡ Some memo) × (is_unsettled memo ≡ true)
  unsettled_at d still =
      let within : d < length memos = omega (arith, still.0, is.count) in
      let memo : NodeState = get_or memos d unknown in
      let w : memo.wanted ≡ true = wanted_told d _ still.0 ∙ still.1 in
      let o : is_open memo.state ≡ true = ap is_open (state_told d _ still.0)
      ∙ is_open_of _ still.2 in
      let both : is_unsettled memo ≡ true = cc in
      (memo, slice_get-get_or _ d _ within, both)

  unsettled_of : (d : ℕ) (memo : NodeState) → slice_get memos d ≡ Some memo
      → is_unsettled memo ≡ true → IsUnsettledIn table d
  unsettled_of d memo at both =
      let within : d < length memos = slice_get_within memos d memo at in
      let low : d < length graph.nodes = omega (arith, within, is.count) in
      let read : get_or memos d unknown ≡ memo =
      get_or_from_slice_get _ d _ _ at in
      let parts = both_true _ _ both in
      let wanted : slice_index_or table.wanted d false ≡ true =
      sym (wanted_told d _ low) ∙ ap (λ (t : NodeState). t.wanted) read ∙ parts.0 in
      let same : memo.state ≡ table_state table d =
      ap (λ (t : NodeState). t.state) (sym read) ∙ state_told d _ low in
      (low, wanted, subst IsOpen same (open_is _ parts.1))

  -- what the number of unsettled ones says
  pub unsettled_told : (count : ℕ) → count ≡ queues.unsettled
      → HasCount (IsUnsettledIn table) count
  unsettled_told count count_is =
      subst (HasCount (IsUnsettledIn table))
      (sym (count_is ∙ is.steady.told.listed.unsettled))
      (memos_counted is_unsettled _ (IsUnsettledIn table) unsettled_of unsettled_at)

  pub settled_told : (settled : Bool) → settled ≡ (queues.unsettled == 0)
      → IsTrue settled ↔ IsSettled table
  settled_told settled settled_is = (forward, back)
    where
      forward : IsTrue settled → IsSettled table
      forward holds d low wanted still = search (rules, eqb-true, unsettled_at, count_none)

      back : IsSettled table → IsTrue settled
      back settled =
          let none : queues.unsettled ≡ 0 = is.steady.told.listed.unsettled
          ∙ none_counted is_unsettled _ (λ d memo at both.
          let still = unsettled_of d _ at both in settled d still.0 still.1 still.2) in
          settled_is ∙ eq-eqb queues.unsettled 0 none

-- ---- along how many edges users were told

pub ahead_same : (inputs : ℕ → List ℕ) (a b : ℕ → State) (count : ℕ) → ((d : ℕ) → a d ≡ b d)
    → edges_ahead inputs a count ≡ edges_ahead inputs b count
ahead_same inputs a b count same = search (rules, total_below, count)

edges_most : (size : ℕ → ℕ) (memos : List NodeState)
    → open_edges size memos ≤ total size (length memos)
edges_most size [] = omega arith
edges_most size (memo ∷ memos) =
    omega (arith, here (is_open memo.state), edges_most (λ d. size (suc d)) memos)
  where
    here : (is : Bool) → (if is then size 0 else 0) ≤ size 0
    here true = omega arith
    here false = omega arith

edges_by : (size other : ℕ → ℕ) (ahead : ℕ → Bool) (memos : List NodeState)
    → ((d : ℕ) (memo : NodeState) → slice_get memos d ≡ Some memo
    → (is_open memo.state ≡ ahead d) × (size d ≡ other d))
    → open_edges size memos ≡ total (λ d. if ahead d then other d else 0) (length memos)
edges_by size other ahead [] same = refl
edges_by size other ahead (memo ∷ memos) same =
    let first = same 0 memo refl in
    let here : ◌≡◌ {A = ℕ} (if is_open memo.state then size 0 else 0)
    (if ahead 0 then other 0 else 0) =
    ap (λ b. if b then size 0 else 0) first.0 ∙ ap (λ n. if ahead 0 then n else 0) first.1 in
    omega (
      arith,
      here,
      edges_by (λ d. size (suc d)) (λ d. other (suc d)) (λ d. ahead (suc d)) memos
          (λ d t at. same (suc d) t at),
    )

module _ (graph : Graph) (memos : List NodeState) (users : List (List Edge)) (queues : WorkQueues)
    (is : IsStateTable graph memos users queues)
    (size : (d : ℕ) → d < length graph.nodes → sizes users d
    ≡ uses (λ e. all_of (awaited_at graph (twins_in memos) e)) (length graph.nodes) d) where
  pub open_ahead : open_edges (sizes users) memos ≡ table_ahead (table_by graph memos)
  open_ahead =
      edges_by (sizes users)
      (uses (λ e. all_of (awaited_at graph (twins_in memos) e)) (length graph.nodes))
      (λ d. is_open (table_state (table_by graph memos) d)) _
      (λ d memo at.
      let low : d < length graph.nodes =
      omega (arith, slice_get_within memos d memo at, is.count) in (
        ap (λ (t : NodeState). is_open t.state)
            (sym (get_or_from_slice_get _ d _ _ at))
            ∙ ap is_open (state_told _ _ users queues is d memo low),
        size d low,
      ))
      ∙ ap (total (λ d. if is_open (table_state (table_by graph memos) d) then
      uses (λ e. all_of (awaited_at graph (twins_in memos) e)) (length graph.nodes) d else 0))
      is.count

  -- at the opening, along none
  pub followed_none : ((d : ℕ) → slice_index_or (phases_in memos) d Idle ≡ Idle)
      → total (sizes users) (length graph.nodes) < 2 ^ 63 → HasFollowed graph memos users 0
  followed_none idle few = search (rules, edges_most, open_ahead, ahead_same, near_same, idle)

pub edges_followed : (graph : Graph) (memos : List NodeState) (users : List (List Edge))
    (queues : WorkQueues) → IsStateTable graph memos users queues → (followed : ℕ)
    → HasFollowed graph memos users followed → followed ≡ table_followed (table_by graph memos)
edges_followed graph memos users queues is followed has = search (rules, open_ahead)

-- after an event
pub followed_more : (graph : Graph) (before after : List NodeState) (users : List (List Edge))
    (followed more now : ℕ) → HasFollowed graph before users followed
    → preconditions_in after ≡ preconditions_in before → wanted_in after ≡ wanted_in before
    → twins_in after ≡ twins_in before
    → more + open_edges (sizes users) after ≡ open_edges (sizes users) before
    → now ≡ followed + more → HasFollowed graph after users now
followed_more graph before after users followed more now has stand want twin fell sum_is =
    search (rules, stand)

pub same_length : (before after : List NodeState) → preconditions_in after ≡ preconditions_in before
    → length before ≡ length after
same_length before after stand = search (rules, length-map, stand)

-- the memos of a plan after an event
pub noted_table : (graph : Graph) (before after : List NodeState) (users : List (List Edge))
    (queues later : WorkQueues) → IsStateTable graph before users queues
    → preconditions_in after ≡ preconditions_in before → twins_in after ≡ twins_in before
    → IsSteady (awaited_at graph (twins_in before)) users after later
    → IsStateTable graph after users later
noted_table graph before after users queues later is stand twin steady = record {
  count = sym (same_length _ _ stand) ∙ is.count;
  steady = subst (λ l. IsSteady (awaited_at graph l) users after later) (sym twin) steady;
}

-- ---- what has begun

pub is_building : (table : StateTable) (d lease : ℕ)
    → slice_index_or table.phases d Idle ≡ Begun lease → table_state table d ≡ Building lease
unfolding near_state near_table
is_building table d lease is = rw is refl

-- ---- a plan on which nothing has begun

idle_push : (memos : List NodeState) (memo : NodeState)
    → ((e : ℕ) → get_or (phases_in memos) e Idle ≡ Idle) → phase_in memo.state ≡ Idle
    → (e : ℕ) → get_or (phases_in (memos ++ memo ∷ [])) e Idle ≡ Idle
idle_push [] memo idle new zero = new
idle_push [] memo idle new (suc e) = refl
idle_push (t ∷ memos) memo idle new zero = idle 0
idle_push (t ∷ memos) memo idle new (suc e) =
    idle_push memos memo (λ f. idle (suc f)) new e

-- The first d memos of a plan on which nothing has begun.
pub record AreOpened (graph : Graph) (preconditions : List Precondition) (wanted : List Bool)
    (twins : List (Option ℕ)) (d : ℕ) (memos : List NodeState) : Type 0 where
  pub count : length memos ≡ d
  pub stand : preconditions_in memos ≡ take d preconditions
  pub are_wanted : wanted_in memos ≡ take d wanted
  pub are_twins : twins_in memos ≡ take d twins
  pub idle : (e : ℕ) → get_or (phases_in memos) e Idle ≡ Idle
  pub heard : HaveHeard (awaited_at graph twins) memos []

-- what a derivation of a plan waits for has smaller numbers
pub awaited_first : (graph : Graph) (twins : List (Option ℕ)) → IsSound graph
    → ((d : ℕ) → All (λ t. t < d) (listed (slice_index_or twins d None))) → (d i : ℕ)
    → Contains (all_of (awaited_at graph twins d)) i → i < d
awaited_first graph twins sound smaller d i has = ⊎_elim
    (λ input. inputs_first _ sound d i input)
    (λ twin. All-contains (λ t. t < d) _ i (smaller d) twin)
    (Contains-append_cases _
    _ i has)

module _ (graph : Graph) (preconditions : List Precondition) (wanted : List Bool)
    (twins : List (Option ℕ)) (sound : IsSound graph)
    (smaller : (d : ℕ) → All (λ t. t < d) (listed (slice_index_or twins d None))) where
  pub opened_more : (d : ℕ) (memos now : List NodeState) (memo : NodeState) (inputs : List ℕ)
      (no_precondition : Precondition) (not_wanted : Bool) (no_twin : Option ℕ)
      → d < length preconditions → d < length wanted → d < length twins
      → memo.precondition ≡ get_or preconditions d no_precondition
      → memo.wanted ≡ get_or wanted d not_wanted → memo.twin ≡ get_or twins d no_twin
      → inputs ≡ inputs_at graph.nodes (slice_get graph.nodes d)
      → Hears (record { inputs = inputs; twins = listed (get_or twins d no_twin) })
      (kept (states_in memos)) (λ index. 0) memo → phase_in memo.state ≡ Idle
      → now ≡ memos ++ memo ∷ [] → AreOpened graph preconditions wanted twins d memos
      → AreOpened graph preconditions wanted twins (d + 1) now
  opened_more d memos now memo inputs no_precondition not_wanted no_twin low within inside stands
      wants twin_is are hears idle pushed before =
      subst (AreOpened graph preconditions wanted twins (d + 1)) (sym pushed) (record {
        count = omega (arith, before.count, length_push memos memo);
        stand = map_push (λ (t : NodeState). t.precondition) _ _
            ∙ ap (λ l. l ++ memo.precondition ∷ []) before.stand
            ∙ ap (λ s. take d preconditions ++ s ∷ []) stands
            ∙ sym (take_more _ d _ low);
        are_wanted = map_push (λ (t : NodeState). t.wanted) _ _
            ∙ ap (λ l. l ++ memo.wanted ∷ []) before.are_wanted
            ∙ ap (λ w. take d wanted ++ w ∷ []) wants
            ∙ sym (take_more _ d _ within);
        are_twins = map_push (λ (t : NodeState). t.twin) _ _
            ∙ ap (λ l. l ++ memo.twin ∷ []) before.are_twins
            ∙ ap (λ w. take d twins ++ w ∷ []) twin_is
            ∙ sym (take_more _ d _ inside);
        idle = idle_push _ _ before.idle idle;
        heard = heard_more (awaited_at graph twins) _ _
            (awaited_first _ _ sound smaller) before.heard
            (subst (λ n. Hears (awaited_at graph twins n) (kept (states_in memos)) (λ index. 0)
            memo) (sym before.count)
            (subst (λ (a : Awaited). Hears a (kept (states_in memos)) (λ index. 0) memo) here
            hears));
      })
    where
      here : ◌≡◌ {A = Awaited}
          (record { inputs = inputs; twins = listed (get_or twins d no_twin) })
          (awaited_at graph twins d)
      here = search (rules, any_default)

  pub opened_all : (d : ℕ) (memos : List NodeState) → d ≡ length graph.nodes
      → length preconditions ≡ length graph.nodes → length wanted ≡ length graph.nodes
      → length twins ≡ length graph.nodes
      → AreOpened graph preconditions wanted twins d memos
      → AreOpening graph preconditions wanted twins memos
  opened_all d memos all long wide deep before = record {
    count = before.count ∙ all;
    stand = before.stand ∙ take_all d preconditions (omega (arith, all, long));
    are_wanted = before.are_wanted ∙ take_all d wanted (omega (arith, all, wide));
    are_twins = before.are_twins ∙ take_all d twins (omega (arith, all, deep));
    idle = before.idle;
    first = awaited_first _ _ sound smaller;
    heard = before.heard;
  }

-- the first state table of a plan
pub opening_table : (graph : Graph) (preconditions : List Precondition) (wanted : List Bool)
    (twins : List (Option ℕ)) (memos : List NodeState) (users : List (List Edge))
    (queues : WorkQueues)
    → AreOpening graph preconditions wanted twins memos
    → AreUsers (λ d. all_of (awaited_at graph twins d)) (length graph.nodes) users
    → AreQueues memos queues → IsFresh memos queues → queues.work ≡ []
    → IsStateTable graph memos users queues
opening_table graph preconditions wanted twins memos users queues opening are listed_is fresh none =
    record {
      count = opening.count;
      steady = subst (λ l. IsSteady (awaited_at graph l) users memos queues)
          (sym opening.are_twins) (record {
            told = record {
              first = opening.first;
              edges = subst (λ n. AreUsers (λ d. all_of (awaited_at graph twins d)) n users)
                  (sym opening.count) are;
              heard = subst (λ l. HaveHeard (awaited_at graph twins) memos (users_of_all users l))
                  (sym none) opening.heard;
              listed = listed_is;
            };
            none = none;
            fresh = fresh;
          });
    }
