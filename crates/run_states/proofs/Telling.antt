-- Users are told, one after the other.
use Rattle.std.proofs.Common.{◌≡◌, ◌≢◌, ◌∙◌, ⊎_elim, ℕ, zero, suc, ◌+◌, ◌<◌, ◌≤◌, ◌==◌, ◌&&◌, not, Bool, true, false, List, [], ◌∷◌, ◌++◌, length, map, drop, get_or, Option, Some, None, refl, sym, ap, subst, arith, if◌then◌else◌, eqb-true, eq-eqb, rules}
use Rattle.std.specs.Prelude.{slice_get, slice_set}
use Rattle.std.proofs.Math.ListN.{set}
use Rattle.std.proofs.lemmas.Bool.{false≢true}
use Rattle.std.proofs.lemmas.List.{append-nil, append_assoc, drop_more, get_or-map, get_or-set_other, length-append, length-set, map-set}
use Rattle.std.proofs.lemmas.List.Elements.{All-drop}
use Rattle.std.proofs.lemmas.Option.{get_or_from_slice_get, slice_get-get_or, slice_get_within}
use Rattle.nix_names.proofs.Lists.{Contains-from_get}
use Rattle.run_states.specs.WorkQueues.{AreQueues, WorkQueues, AreSameElse, IsFresh, IsSpreading, IsSteady, alone_if, ends, noted, phases_in, preconditions_in, settles, to_end, twins_in, wanted_in}
use Rattle.run_states.specs.StateTables.{Awaited, all_of}
use Rattle.run_states.specs.StateLists.{kept, phase_in}
use Rattle.run_states.specs.Nearest.{News, Open, news_of}
use Rattle.run_states.specs.States.{Idle, is_good, is_open}
use Rattle.run_states.specs.NodeStates.{CanHear, HaveHeard, IsSameElse, IsMemo, Turns, are_news, news_by, states_in, to_tell}
use Rattle.run_states.specs.FollowedEdges.{open_edges, sizes}
use Rattle.run_states.specs.Users.{AreUsers, once_at, times, users_of, users_of_all}
use Rattle.run_states.specs.declared.state.State.{State}
use Rattle.run_states.specs.declared.state.State.TheVariants.{Done, Failed, Building, Reused, Refused, Ready, Blocked}
use Rattle.run_states.specs.declared.node_states.NodeState.{NodeState}
use Rattle.run_states.specs.declared.users.Edge.{Edge}
use Rattle.run_states.proofs.WorkQueues.{noted_measure, noted_queues, one, settles_most, turn_open}
use Rattle.run_states.proofs.Hearing.{can_hear, heard_told, heard_turned}
use Rattle.run_states.proofs.KnownNews.{known_news}

-- ---- edges

times_has : (row : List Edge) (i : ℕ) (edge : Edge) → slice_get row i ≡ Some edge
    → 0 < times edge.user edge.index row
times_has [] i edge at = absurd cc
times_has (x ∷ row) zero edge at = search (rules, edge, eq-eqb)
times_has (x ∷ row) (suc i) edge at = omega (arith, times_has row i edge at)

once_is : (o : Option ℕ) (w : ℕ) → 0 < once_at o w → o ≡ Some w
once_is None w has = absurd (omega (arith, has))
once_is (Some n) w has = by (n == w) refl
  where
    by : (same : Bool) → (n == w) ≡ same → Some n ≡ Some w
    by true is = ap Some (eqb-true n w is)
    by false is = search rules

-- the input stands where an edge to its user says
edge_is : (inputs : ℕ → List ℕ) (users : List (List Edge)) (count w i : ℕ) (edge : Edge)
    → AreUsers inputs count users → w < count → slice_get (users_of users w) i ≡ Some edge
    → (edge.user < count) × (slice_get (inputs edge.user) edge.index ≡ Some w)
edge_is inputs users count w i edge edges low at =
    let user : edge.user < count =
    subst (λ (e : Edge). e.user < count) (get_or_from_slice_get _ i _ _ at)
    (edges.within w i edge (slice_get_within (users_of users w) i edge at)) in (
      user,
      once_is _ w
          (subst (λ n. 0 < n) (edges.each w edge.user edge.index low user)
          (times_has _ i _ at)),
    )

users_of_more : (users : List (List Edge)) (xs ys : List ℕ)
    → users_of_all users (xs ++ ys) ≡ users_of_all users xs ++ users_of_all users ys
users_of_more users [] ys = refl
users_of_more users (x ∷ xs) ys = search (rules, append_assoc, users_of_more users xs ys)

users_alone : (users : List (List Edge)) (is : Bool) (u : ℕ)
    → users_of_all users (alone_if is u) ≡ (if is then users_of users u else [])
users_alone users true u = append-nil (users_of users u)
users_alone users false u = refl

-- the edges that lead from those with something before them, as a memo changes
edges_set : (size : ℕ → ℕ) (memos : List NodeState) (d : ℕ) (before after : NodeState)
    → slice_get memos d ≡ Some before
    → open_edges size (set memos d after) + (if is_open before.state then size d else 0)
    ≡ open_edges size memos + (if is_open after.state then size d else 0)
edges_set size [] d before after at = absurd cc
edges_set size (memo ∷ memos) zero before after at = search (rules, before)
edges_set size (memo ∷ memos) (suc d) before after at =
    omega (arith, edges_set (λ e. size (suc e)) memos d before after at)

edges_one : (o p : Bool) (n : ℕ) → (p ≡ true → o ≡ true)
    → (if o && not p then n else 0) + (if p then n else 0) ≡ (if o then n else 0)
edges_one true true n from = omega arith
edges_one true false n from = omega arith
edges_one false true n from = absurd (false≢true (from refl))
edges_one false false n from = refl

length_of_alone : (users : List (List Edge)) (is : Bool) (u : ℕ)
    → length (users_of_all users (alone_if is u)) ≡ (if is then sizes users u else 0)
length_of_alone users true u = ap length (append-nil (users_of users u))
length_of_alone users false u = refl

-- those that lead from what is on the work come in their place
pub noted_edges : (users : List (List Edge)) (memos : List NodeState) (queues : WorkQueues) (u : ℕ)
    (before after : NodeState) → slice_get memos u ≡ Some before → Turns before.state after.state
    → open_edges (sizes users) (set memos u after)
    + length (users_of_all users (noted queues u before after).work)
    ≡ open_edges (sizes users) memos + length (users_of_all users queues.work)
noted_edges users memos queues u before after at turns =
    omega (
      arith,
      edges_set (sizes users) memos u before after at,
      ap length (users_of_more users queues.work (alone_if (ends before after) u)),
      length-append (users_of_all users queues.work)
          (users_of_all users (alone_if (ends before after) u)),
      length_of_alone users (ends before after) u,
      edges_one (is_open before.state) (is_open after.state) (sizes users u)
          (turn_open _ _ turns),
    )

-- what is news to users ends a derivation
news_end : (s t : State) → are_news (news_of s) (news_of t) ≡ (is_open s && not (is_open t))
news_end Blocked t = after t
  where
    after : (t : State) → are_news Open (news_of t) ≡ not (is_open t)
    after Blocked = refl
    after Ready = refl
    after (Building lease) = refl
    after Done = refl
    after Reused = refl
    after (Failed reason) = refl
    after (Refused cause) = refl
news_end Ready t = after t
  where
    after : (t : State) → are_news Open (news_of t) ≡ not (is_open t)
    after Blocked = refl
    after Ready = refl
    after (Building lease) = refl
    after Done = refl
    after Reused = refl
    after (Failed reason) = refl
    after (Refused cause) = refl
news_end (Building lease) t = after t
  where
    after : (t : State) → are_news Open (news_of t) ≡ not (is_open t)
    after Blocked = refl
    after Ready = refl
    after (Building lease) = refl
    after Done = refl
    after Reused = refl
    after (Failed reason) = refl
    after (Refused cause) = refl
news_end Done t = refl
news_end Reused t = refl
news_end (Failed reason) t = refl
news_end (Refused cause) t = refl

-- what is left to tell once a memo was noted
left_noted : (users : List (List Edge)) (queues : WorkQueues) (u : ℕ) (before after : NodeState)
    (left : List Edge)
    → (left ++ users_of_all users queues.work) ++ to_tell before.state after.state
    (users_of users u) ≡ left ++ users_of_all users (noted queues u before after).work
left_noted users queues u before after left =
    search (rules, append_assoc, users_of_more, before, after, users_alone, news_end)

-- ---- what telling leaves as it was

pub same_then : (a b c : List NodeState) → AreSameElse a b → AreSameElse b c → AreSameElse a c
same_then a b c first second = search rules

-- a part of memos that a new memo has as the old one
part_stays : {X : Type 0} (part : NodeState → X) (memos : List NodeState) (u : ℕ)
    (before after : NodeState)
    → slice_get memos u ≡ Some before → part after ≡ part before
    → map part (set memos u after) ≡ map part memos
part_stays part [] u before after at same = refl
part_stays part (t ∷ memos) zero before after at same = search (rules, before)
part_stays part (t ∷ memos) (suc u) before after at same =
    ap (λ l. part t ∷ l) (part_stays part memos u _ _ at same)

phases_are : (memos : List NodeState)
    → phases_in memos ≡ map (λ (t : NodeState). phase_in t.state) memos
phases_are [] = refl
phases_are (t ∷ memos) = ap (λ l. phase_in t.state ∷ l) (phases_are memos)

pub same_set : (memos : List NodeState) (u : ℕ) (before after : NodeState)
    → slice_get memos u ≡ Some before → IsSameElse before after
    → AreSameElse memos (set memos u after)
same_set memos u before after at same =
    search (rules, part_stays, before, after, at, phases_are, set)

-- ---- one user is told

module _ (inputs : ℕ → Awaited) (users : List (List Edge)) (memos : List NodeState)
    (queues : WorkQueues) (w i : ℕ) (no_edge : Edge) (no_memo : NodeState) (row : List Edge)
    (low : w < length memos) (row_is : row ≡ users_of users w) (here : i < length row)
    (is : IsSpreading inputs users memos queues (drop i (users_of users w))) where
  abbrev edge : Edge
  edge = get_or row i no_edge

  abbrev before : NodeState
  before = get_or memos edge.user no_memo

  its : (edge.user < length memos) × (slice_get (all_of (inputs edge.user)) edge.index ≡ Some w)
  its = edge_is (λ e. all_of (inputs e)) _ _ w i _ is.edges low
      (subst (λ l. slice_get l i ≡ Some edge) row_is (slice_get-get_or _ i _ here))

  pub user_within : edge.user < length memos
  user_within = its.0

  at : slice_get memos edge.user ≡ Some before
  at = slice_get-get_or _ _ _ user_within

  abbrev rest : List Edge
  rest = drop (i + 1) (users_of users w) ++ users_of_all users queues.work

  heard : HaveHeard inputs memos (edge ∷ rest)
  heard = search (rules, drop_more, edge)

  -- what `told` requires
  pub can_tell : (ins : Awaited) × (heard : List News) × CanHear ins heard before edge.index w
  can_tell =
      let can = can_hear inputs memos edge w _ _ at its.1 heard in
      (inputs edge.user, can.0, can.1)

  user_apart : w ≢ edge.user
  user_apart same =
      let less = is.first edge.user w (Contains-from_get _ _ w its.1) in omega (arith, less, same)

  has_news : news_of (kept (states_in memos) w) ≡ Open → ⊥
  has_news none = ⊎_elim
      (λ heard_it. absurd (omega (
        arith,
        heard_it.1,
        times_has (edge ∷ rest) 0 _ refl,
      )))
      (λ unheard. unheard.1 none)
      ((heard.each edge.user before at).knows edge.index w its.1)

  module _ (after : NodeState) (turns : Turns before.state after.state)
      (same : IsSameElse before after) where
    -- the work queues, noted
    pub told_queues : AreQueues (set memos edge.user after)
        (noted queues edge.user before after)
    told_queues = noted_queues _ _ _ _ _ at turns same.wanted is.listed

    pub told_room : length (noted queues edge.user before after).ring ≤ queues.room
    told_room = omega (arith, told_queues.room)

    pub told_space : length (noted queues edge.user before after).work ≤ queues.space
    told_space = omega (arith, told_queues.space)

    pub told_settles : one (settles before after) ≤ queues.unsettled
    told_settles = search (rules, settles_most, before, after, at)

    pub told_good : kept (states_in (set memos edge.user after)) w
        ≡ kept (states_in memos) w
    told_good = search (rules, map-set, after, get_or-set_other, user_apart)

    pub told_same : AreSameElse memos (set memos edge.user after)
    told_same = same_set _ _ _ _ at same

    pub told_measure : to_end (set memos edge.user after)
        (noted queues edge.user before after) ≡ to_end memos queues
    told_measure = noted_measure memos queues edge.user before after at turns

    pub told_edges : open_edges (sizes users) (set memos edge.user after)
        + length (users_of_all users (noted queues edge.user before after).work)
        ≡ open_edges (sizes users) memos + length (users_of_all users queues.work)
    told_edges = noted_edges _ _ queues _ _ _ at turns

    pub told_user : (good : Bool) → good ≡ is_good (kept (states_in memos) w)
        → ((ins : Awaited) (heard : List News) → CanHear ins heard before edge.index w
        → IsMemo ins (slice_set heard edge.index (news_by good)) after)
        → IsSpreading inputs users (set memos edge.user after)
        (noted queues edge.user before after) (drop (i + 1) (users_of users w))
    told_user good good_is told = record {
      first = is.first;
      edges = subst (λ n. AreUsers (λ e. all_of (inputs e)) n users)
          (sym (length-set memos edge.user after)) is.edges;
      heard = subst (HaveHeard inputs (set memos edge.user after))
          (left_noted users queues edge.user before after _)
          (heard_told inputs _ users memos edge w before after rest refl is.edges
          at its.1 heard
          (λ known can. subst
          (λ news. IsMemo (inputs edge.user) (slice_set known edge.index news) after)
          (ap news_by good_is ∙ known_news (kept (states_in memos) w) has_news)
          (told (inputs edge.user) known can)) turns);
      listed = told_queues;
    }

-- ---- the next whose users are to be told

first_work : (xs : List ℕ) (w : ℕ) → slice_get xs 0 ≡ Some w → xs ≡ w ∷ drop 1 xs
first_work [] w at = absurd cc
first_work (x ∷ xs) w at = search rules

pub work_taken : (inputs : ℕ → Awaited) (users : List (List Edge)) (memos : List NodeState)
    (queues : WorkQueues) (w : ℕ) → slice_get queues.work 0 ≡ Some w
    → IsSpreading inputs users memos queues []
    → IsSpreading inputs users memos (record queues { work = drop 1 queues.work })
    (users_of users w)
work_taken inputs users memos queues w at is = record {
  first = is.first;
  edges = is.edges;
  heard = subst (λ l. HaveHeard inputs memos (users_of_all users l)) (first_work _ w at)
      is.heard;
  listed = record {
    ready = is.listed.ready;
    ring = is.listed.ring;
    room = is.listed.room;
    work = All-drop (λ d. d < length memos) 1 _ is.listed.work;
    space = omega (arith, is.listed.space, ap length (first_work _ w at));
    unsettled = is.listed.unsettled;
  };
}

-- its edges are followed
pub work_edges : (users : List (List Edge)) (queues : WorkQueues) (w : ℕ)
    → slice_get queues.work 0 ≡ Some w → length (users_of_all users queues.work)
    ≡ sizes users w + length (users_of_all users (drop 1 queues.work))
work_edges users queues w at = search (rules, first_work, at, length-append)

-- ---- an event

-- what is known of a derivation's state by the memos
pub state_read : (memos : List NodeState) (d : ℕ) (none : NodeState) → d < length memos
    → kept (states_in memos) d ≡ (get_or memos d none).state
state_read memos d none low = search (rules, get_or-map)

module _ (memos : List NodeState) (queues : WorkQueues) (d : ℕ) (none : NodeState) (state : State)
    (low : d < length memos) (turns : Turns (kept (states_in memos) d) state) where
  abbrev old : NodeState
  old = get_or memos d none

  abbrev now : NodeState
  now = record old { state = state }

  old_at : slice_get memos d ≡ Some old
  old_at = slice_get-get_or _ d _ low

  turned : Turns old.state state
  turned = search (rules, state_read)

  module _ (listed : AreQueues memos queues) where
    pub turned_queues : AreQueues (set memos d now) (noted queues d old now)
    turned_queues = noted_queues _ _ d _ _ old_at turned refl listed

    pub turned_room : length (noted queues d old now).ring ≤ queues.room
    turned_room = omega (arith, turned_queues.room)

    pub turned_space : length (noted queues d old now).work ≤ queues.space
    turned_space = omega (arith, turned_queues.space)

    pub turned_settles : one (settles old now) ≤ queues.unsettled
    turned_settles = settles_most _ _ d old now old_at turned refl listed

  pub turned_preconditions : preconditions_in (set memos d now) ≡ preconditions_in memos
  turned_preconditions = search (rules, part_stays, old, now, old_at)

  pub turned_wanted : wanted_in (set memos d now) ≡ wanted_in memos
  turned_wanted = search (rules, part_stays, old, now, old_at)

  pub turned_twins : twins_in (set memos d now) ≡ twins_in memos
  turned_twins = search (rules, part_stays, old, now, old_at)

  pub turned_phases : phases_in (set memos d now) ≡ set (phases_in memos) d (phase_in state)
  turned_phases = search (rules, map-set, now)

  pub turned_edges : (users : List (List Edge)) → open_edges (sizes users) (set memos d now)
      + length (users_of_all users (noted queues d old now).work)
      ≡ open_edges (sizes users) memos + length (users_of_all users queues.work)
  turned_edges users = noted_edges _ _ queues d old now old_at turned

  pub turned_spreading : (inputs : ℕ → Awaited) (users : List (List Edge))
      → (phase_in state ≡ Idle → ⊥) → IsSpreading inputs users memos queues []
      → IsSpreading inputs users (set memos d now) (noted queues d old now) []
  turned_spreading inputs users begun is = record {
    first = is.first;
    edges = subst (λ n. AreUsers (λ e. all_of (inputs e)) n users) (sym (length-set memos d now))
        is.edges;
    heard = subst (HaveHeard inputs (set memos d now)) (left_noted users queues d old now [])
        (heard_turned inputs (length memos) users memos d old state
        (users_of_all users queues.work) refl is.edges old_at turned begun is.heard);
    listed = turned_queues is.listed;
  }

-- all users were told, and what has begun was taken off the ring's front
pub steady_after : (inputs : ℕ → Awaited) (users : List (List Edge)) (memos : List NodeState)
    (queues later : WorkQueues) → IsSpreading inputs users memos queues [] → queues.work ≡ []
    → AreQueues memos later → IsFresh memos later → later.work ≡ queues.work
    → IsSteady inputs users memos later
steady_after inputs users memos queues later is none listed fresh same = search (rules, heard)
