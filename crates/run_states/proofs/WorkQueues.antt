-- What is to be done as memos change.
use Rattle.std.proofs.Common.{◌≡◌, ◌≢◌, ◌∙◌, ◌⊎◌, inl, inr, ⊎_elim, ℕ, zero, suc, ◌+◌, ◌-◌, ◌<◌, ◌≤◌, ◌&&◌, not, Bool, true, false, List, [], ◌∷◌, ◌++◌, length, drop, take, get_or, Some, refl, sym, ap, subst, arith, if◌then◌else◌, rules}
use Rattle.std.specs.Prelude.{All, Contains, slice_get}
use Rattle.std.proofs.Math.ListN.{set}
use Rattle.std.proofs.lemmas.Bool.{false≢true}
use Rattle.std.proofs.lemmas.List.{append-nil, get_or-map, length-append, length-set, length-take-le, length_push, take_all, take_more}
use Rattle.std.proofs.lemmas.List.Elements.{All-append, All-drop, All-nil, All-push, All-weaker, Contains-append_left, Contains-push}
use Rattle.std.proofs.lemmas.Option.{get_or_from_slice_get, slice_get-get_or, slice_get_within}
use Rattle.run_states.specs.WorkQueues.{AreQueues, WorkQueues, IsWantedAt, alone_if, ends, frees, is_blocked, is_ready, is_unsettled, noted, settles, memo_count}
use Rattle.run_states.specs.StateLists.{kept}
use Rattle.run_states.specs.States.{is_open}
use Rattle.run_states.specs.NodeStates.{Turns, states_in, turns_begun, turns_done, turns_failed, turns_freed, turns_named, turns_refused, turns_reused, turns_stays}
use Rattle.run_states.specs.declared.state.State.{State}
use Rattle.run_states.specs.declared.state.State.TheVariants.{Done, Failed, Building, Reused, Refused, Ready, Blocked}
use Rattle.run_states.specs.declared.node_states.NodeState.{NodeState}
use Rattle.build_outcome.proofs.Indices.{set_cases, set_other, set_same}

abbrev pub one : Bool → ℕ
one is = if is then 1 else 0

-- counts, as a memo changes or comes at the end
pub count_set : (test : NodeState → Bool) (memos : List NodeState) (d : ℕ)
    (before after : NodeState)
    → slice_get memos d ≡ Some before
    → memo_count test (set memos d after) + one (test before)
    ≡ memo_count test memos + one (test after)
count_set test [] d before after at = absurd cc
count_set test (memo ∷ memos) zero before after at = search (rules, one)
count_set test (memo ∷ memos) (suc d) before after at =
    omega (arith, count_set test memos d before after at)

pub count_push : (test : NodeState → Bool) (memos : List NodeState) (memo : NodeState)
    → memo_count test (memos ++ memo ∷ []) ≡ memo_count test memos + one (test memo)
count_push test [] memo = omega arith
count_push test (t ∷ memos) memo = omega (arith, count_push test memos memo)

one_most : (is : Bool) → one is ≤ 1
one_most true = omega arith
one_most false = omega arith

pub count_most : (test : NodeState → Bool) (memos : List NodeState) → memo_count test memos
    ≤ length memos
count_most test [] = omega arith
count_most test (memo ∷ memos) =
    omega (arith, one_most (test memo), count_most test memos)

-- none passes where the count is 0, and the other way round
pub count_none : (test : NodeState → Bool) (memos : List NodeState) (d : ℕ) (memo : NodeState)
    → memo_count test memos ≡ 0 → slice_get memos d ≡ Some memo → test memo ≡ true → ⊥
count_none test [] d memo none at is = cc
count_none test (t ∷ memos) zero memo none at is = search (rules, one, is)
count_none test (t ∷ memos) (suc d) memo none at is =
    count_none test memos d memo (omega arith) at is

pub none_counted : (test : NodeState → Bool) (memos : List NodeState)
    → ((d : ℕ) (memo : NodeState) → slice_get memos d ≡ Some memo → test memo ≡ true → ⊥)
    → memo_count test memos ≡ 0
none_counted test [] none = refl
none_counted test (t ∷ memos) none =
    let rest : memo_count test memos ≡ 0 =
    none_counted test memos (λ d memo. none (suc d) memo) in
    let here : one (test t) ≡ 0 = failing (test t) (λ is. none 0 t refl is) in
    omega arith
  where
    failing : (is : Bool) → (is ≡ true → ⊥) → one is ≡ 0
    failing true fails = absurd (fails refl)
    failing false fails = refl

-- how the tests of a state turn
pub turn_open : (s t : State) → Turns s t → is_open t ≡ true → is_open s ≡ true
turn_open s t (turns_stays _) is = is
turn_open s t (turns_named _ _) is = is
turn_open s t turns_freed is = refl
turn_open s t turns_reused is = refl
turn_open s t (turns_refused _) is = refl
turn_open s t (turns_begun _) is = refl
turn_open s t (turns_done _) is = refl
turn_open s t (turns_failed _ _) is = refl

turn_blocked : (s t : State) → Turns s t → is_blocked t ≡ true → is_blocked s ≡ true
turn_blocked s t (turns_stays _) is = is
turn_blocked s t (turns_named _ _) is = is
turn_blocked s t turns_freed is = refl
turn_blocked s t turns_reused is = refl
turn_blocked s t (turns_refused _) is = refl
turn_blocked s t (turns_begun _) is = is
turn_blocked s t (turns_done _) is = is
turn_blocked s t (turns_failed _ _) is = is

turn_ready : (s t : State) → Turns s t → t ≡ Ready → (s ≡ Ready) ⊎ (s ≡ Blocked)
turn_ready s t (turns_stays _) is = inl is
turn_ready s t (turns_named _ _) is = absurd cc
turn_ready s t turns_freed is = inr refl
turn_ready s t turns_reused is = absurd cc
turn_ready s t (turns_refused _) is = absurd cc
turn_ready s t (turns_begun _) is = absurd cc
turn_ready s t (turns_done _) is = absurd cc
turn_ready s t (turns_failed _ _) is = absurd cc

ready_not_blocked : (s : State) → is_ready s ≡ true → is_blocked s ≡ false
ready_not_blocked Blocked is = absurd (false≢true is)
ready_not_blocked Ready is = refl
ready_not_blocked (Building lease) is = refl
ready_not_blocked Done is = refl
ready_not_blocked Reused is = refl
ready_not_blocked (Failed reason) is = refl
ready_not_blocked (Refused cause) is = refl

pub ready_is : (s : State) → is_ready s ≡ true → s ≡ Ready
ready_is Blocked is = absurd (false≢true is)
ready_is Ready is = refl
ready_is (Building lease) is = absurd (false≢true is)
ready_is Done is = absurd (false≢true is)
ready_is Reused is = absurd (false≢true is)
ready_is (Failed reason) is = absurd (false≢true is)
ready_is (Refused cause) is = absurd (false≢true is)

-- so counts fall by what comes into a list
room_one : (w o p r : Bool) → (p ≡ true → o ≡ true) → (r ≡ true → p ≡ false)
    → one (w && o && r) + one p ≤ one o
room_one false o false r from apart = omega arith
room_one false o true r from apart = search (rules, one)
room_one true false false r from apart = omega arith
room_one true false true r from apart = absurd (false≢true (from refl))
room_one true true false true from apart = omega arith
room_one true true false false from apart = omega arith
room_one true true true true from apart = absurd (false≢true (sym (apart refl)))
room_one true true true false from apart = omega arith

ends_one : (o p : Bool) → (p ≡ true → o ≡ true) → one (o && not p) + one p ≡ one o
ends_one true true from = refl
ends_one true false from = refl
ends_one false true from = absurd (false≢true (from refl))
ends_one false false from = refl

settles_one : (w o p : Bool) → (p ≡ true → o ≡ true)
    → one (w && (o && not p)) + one (w && p) ≡ one (w && o)
settles_one true o p from = ends_one o p from
settles_one false o p from = refl

pub length_alone : (is : Bool) (d : ℕ) → length (alone_if is d) ≡ one is
length_alone true d = refl
length_alone false d = refl

all_alone : (P : ℕ → Type 0) (is : Bool) (d : ℕ) → (is ≡ true → P d) → All P (alone_if is d)
all_alone P true d here = All-push P [] d (All-nil P) (here refl)
all_alone P false d here = All-nil P

wanted_set : (memos : List NodeState) (d e : ℕ) (before after : NodeState)
    → slice_get memos d ≡ Some before → after.wanted ≡ before.wanted → IsWantedAt memos e
    → IsWantedAt (set memos d after) e
wanted_set memos d e before after at same (memo, there, is) =
    by (either e d)
  where
    either : (a b : ℕ) → (a ≡ b) ⊎ (a ≢ b)
    either zero zero = inl refl
    either zero (suc b) = inr (λ same. omega arith)
    either (suc a) zero = inr (λ same. omega arith)
    either (suc a) (suc b) = search (rules, either a b)

    by : (e ≡ d) ⊎ (e ≢ d) → IsWantedAt (set memos d after) e
    by (inl here) = search (rules, set, here, set_same, is)
    by (inr apart) = search (rules, set_other, apart, is)

-- what is to be done once a memo changed
pub noted_queues : (memos : List NodeState) (queues : WorkQueues) (d : ℕ) (before after : NodeState)
    → slice_get memos d ≡ Some before → Turns before.state after.state
    → after.wanted ≡ before.wanted → AreQueues memos queues
    → AreQueues (set memos d after) (noted queues d before after)
noted_queues memos queues d before after at turns same is = record {
  ready = ready_now;
  ring = All-append (IsWantedAt (set memos d after)) _
      _
      (All-weaker (IsWantedAt memos) (IsWantedAt (set memos d after))
      (λ e. wanted_set _ d e _ _ at same) _ is.ring)
      (all_alone (IsWantedAt (set memos d after)) _ d
      (λ freed. (after, set_same _ d _ _ at, first_of_three freed)));
  room = omega (
    arith,
    is.room,
    length-append queues.ring (alone_if (frees before after) d),
    length_alone (frees before after) d,
    count_set (λ memo. is_blocked memo.state) memos d before after at,
    room_one after.wanted (is_blocked before.state) (is_blocked after.state)
        _ (turn_blocked _ _ turns)
        (ready_not_blocked _),
  );
  work = All-append (λ e. e < length (set memos d after)) _
      (alone_if (ends before after) d)
      (All-weaker (λ e. e < length memos) (λ e. e < length (set memos d after))
      (λ e low. omega (arith, low, length-set memos d after)) queues.work is.work)
      (all_alone (λ e. e < length (set memos d after)) (ends before after) d
      (λ ended. omega (
        arith,
        length-set memos d after,
        slice_get_within memos d before at,
      )));
  space = omega (
    arith,
    is.space,
    length-append queues.work (alone_if (ends before after) d),
    length_alone (ends before after) d,
    count_set (λ memo. is_open memo.state) memos d before after at,
    ends_one (is_open before.state) (is_open after.state)
        (turn_open before.state after.state turns),
  );
  unsettled = omega (arith, is.unsettled, unsettled_falls);
}
  where
    first_of_three : frees before after ≡ true → after.wanted ≡ true
    first_of_three = by after.wanted
      where
        by : (w : Bool) → (w && is_blocked before.state && is_ready after.state) ≡ true
            → w ≡ true
        by true freed = refl
        by false freed = absurd (false≢true freed)

    ready_now : (e : ℕ) (memo : NodeState) → slice_get (set memos d after) e ≡ Some memo
        → memo.wanted ≡ true → memo.state ≡ Ready
        → Contains (queues.ring ++ alone_if (frees before after) d) e
    ready_now e memo there wanted now = ⊎_elim here elsewhere
        (set_cases memos d e after memo there)
      where
        pushed : after.wanted ≡ true → is_blocked before.state ≡ true → is_ready after.state ≡ true
            → Contains (queues.ring ++ alone_if (frees before after) d) d
        pushed w b r =
            let freed : frees before after ≡ true = cc in
            subst (λ is. Contains (queues.ring ++ alone_if is d) d) (sym freed)
            (Contains-push queues.ring d)

        here : (e ≡ d) × (memo ≡ after)
            → Contains (queues.ring ++ alone_if (frees before after) d) e
        here both = search (rules, Contains-append_left, pushed, turn_ready)

        elsewhere : (e ≢ d) × (slice_get memos e ≡ Some memo)
            → Contains (queues.ring ++ alone_if (frees before after) d) e
        elsewhere both = search (rules, Contains-append_left)

    unsettled_falls : memo_count is_unsettled (set memos d after) + one (settles before after)
        ≡ memo_count is_unsettled memos
    unsettled_falls =
        let old : one (is_unsettled before) ≡ one (after.wanted && is_open before.state) =
        ap (λ w. one (w && is_open before.state)) (sym same) in
        omega (
          arith,
          count_set is_unsettled memos d before after at,
          settles_one after.wanted (is_open before.state) (is_open after.state)
              (turn_open before.state after.state turns),
        )

-- there is room to note it
pub settles_most : (memos : List NodeState) (queues : WorkQueues) (d : ℕ) (before after : NodeState)
    → slice_get memos d ≡ Some before → Turns before.state after.state
    → after.wanted ≡ before.wanted → AreQueues memos queues
    → one (settles before after) ≤ queues.unsettled
settles_most memos queues d before after at turns same is =
    let old : one (is_unsettled before) ≡ one (after.wanted && is_open before.state) =
    ap (λ w. one (w && is_open before.state)) (sym same) in
    omega (
      arith,
      is.unsettled,
      count_set is_unsettled _ d _ after at,
      settles_one after.wanted (is_open before.state) (is_open after.state)
          (turn_open before.state after.state turns),
    )

-- what is to be told, now or once it is known, doesn't grow
pub noted_measure : (memos : List NodeState) (queues : WorkQueues) (d : ℕ)
    (before after : NodeState)
    → slice_get memos d ≡ Some before → Turns before.state after.state
    → length (noted queues d before after).work
    + memo_count (λ memo. is_open memo.state) (set memos d after)
    ≡ length queues.work + memo_count (λ memo. is_open memo.state) memos
noted_measure memos queues d before after at turns =
    omega (
      arith,
      length-append queues.work (alone_if (ends before after) d),
      length_alone (ends before after) d,
      count_set (λ memo. is_open memo.state) memos d before after at,
      ends_one (is_open before.state) (is_open after.state)
          (turn_open before.state after.state turns),
    )

-- a number in a list but for its first
in_rest : (xs : List ℕ) (x e : ℕ) → slice_get xs 0 ≡ Some x → e ≢ x → Contains xs e
    → Contains (drop 1 xs) e
in_rest [] x e first apart has = absurd cc
in_rest (y ∷ ys) x e first apart (zero, low, is) = absurd (apart (sym is ∙ cc))
in_rest (y ∷ ys) x e first apart (suc k, low, is) = (k, omega arith, is)

length_rest : (xs : List ℕ) → length (drop 1 xs) ≤ length xs
length_rest [] = omega arith
length_rest (x ∷ xs) = omega arith

-- the first goes from the ring where it can't be begun
pub ring_falls : (memos : List NodeState) (queues : WorkQueues) (d : ℕ) (memo : NodeState)
    → slice_get queues.ring 0 ≡ Some d → slice_get memos d ≡ Some memo
    → is_ready memo.state ≡ false → AreQueues memos queues
    → AreQueues memos (record queues { ring = drop 1 queues.ring })
ring_falls memos queues d memo first at waits is = record {
  ready = λ e other there wanted now. in_rest _ d e first
      (λ same.
      let both : other ≡ memo = cc in
      let told : is_ready memo.state ≡ true = ap (λ (t : NodeState). is_ready t.state) (sym both)
      ∙ ap is_ready now in
      false≢true (sym waits ∙ told))
      (is.ready e other there wanted now);
  ring = All-drop (IsWantedAt memos) 1 queues.ring is.ring;
  room = omega (arith, is.room, length_rest queues.ring);
  work = is.work;
  space = is.space;
  unsettled = is.unsettled;
}

pub ring_falls_at : (memos : List NodeState) (queues : WorkQueues) (d : ℕ) (default : NodeState)
    → slice_get queues.ring 0 ≡ Some d → is_ready (get_or memos d default).state ≡ false
    → AreQueues memos queues → AreQueues memos (record queues { ring = drop 1 queues.ring })
ring_falls_at memos queues d default first waits is =
    ring_falls _ _ d _ first
    (slice_get-get_or _ d _ low) waits is
  where
    low : d < length memos
    low = search (rules, get_or_from_slice_get, slice_get_within)

-- The first d memos were looked at, and what can be begun of them is in the ring.
pub record IsOpening (memos : List NodeState) (d : ℕ) (ring : List ℕ) (unsettled : ℕ) : Type 0 where
  pub is : AreQueues (take d memos) (record {
    ring = ring;
    room = d;
    work = [];
    space = d;
    unsettled = unsettled;
  })
  pub ready : All (λ e. kept (states_in memos) e ≡ Ready) ring

push_cases : (xs : List NodeState) (x y : NodeState) (e : ℕ) → slice_get (xs ++ x ∷ []) e ≡ Some y
    → ((e ≡ length xs) × (y ≡ x)) ⊎ (slice_get xs e ≡ Some y)
push_cases [] x y zero at = inl (refl, cc)
push_cases [] x y (suc e) at = absurd cc
push_cases (z ∷ xs) x y zero at = inr at
push_cases (z ∷ xs) x y (suc e) at = search (rules, push_cases xs x y e at)

push_old : (xs : List NodeState) (x y : NodeState) (e : ℕ) → slice_get xs e ≡ Some y
    → slice_get (xs ++ x ∷ []) e ≡ Some y
push_old [] x y e at = absurd cc
push_old (z ∷ xs) x y zero at = at
push_old (z ∷ xs) x y (suc e) at = push_old xs x y e at

push_new : (xs : List NodeState) (x : NodeState) → slice_get (xs ++ x ∷ []) (length xs) ≡ Some x
push_new [] x = refl
push_new (z ∷ xs) x = push_new xs x

-- one more memo
queues_more : (xs : List NodeState) (ring : List ℕ) (unsettled : ℕ) (x : NodeState)
    → AreQueues xs (record {
      ring = ring;
      room = length xs;
      work = [];
      space = length xs;
      unsettled = unsettled;
    })
    → AreQueues (xs ++ x ∷ []) (record {
      ring = ring ++ alone_if (x.wanted && is_ready x.state) (length xs);
      room = length xs + 1;
      work = [];
      space = length xs + 1;
      unsettled = unsettled + one (is_unsettled x);
    })
queues_more xs ring unsettled x is = record {
  ready = λ e memo at wanted now. ⊎_elim
      (λ both.
      let w : x.wanted ≡ true = ap (λ (t : NodeState). t.wanted) (sym both.1) ∙ wanted in
      let r : is_ready x.state ≡ true =
      ap (λ (t : NodeState). is_ready t.state) (sym both.1) ∙ ap is_ready now in
      let both_are : (x.wanted && is_ready x.state) ≡ true = cc in
      subst (λ b. Contains (ring ++ alone_if b (length xs)) e) (sym both_are)
      (subst (λ n. Contains (ring ++ length xs ∷ []) n) (sym both.0)
      (Contains-push _ _)))
      (λ was. Contains-append_left _ _ e
      (is.ready e memo was wanted now))
      (push_cases _ x _ e at);
  ring = All-append (IsWantedAt (xs ++ x ∷ [])) _
      _
      (All-weaker (IsWantedAt xs) (IsWantedAt (xs ++ x ∷ []))
      (λ e has. (has.0, push_old _ x _ e has.1, has.2)) ring is.ring)
      (all_alone (IsWantedAt (xs ++ x ∷ [])) (x.wanted && is_ready x.state) (length xs)
      (λ both. (x, push_new xs x, first_of_two x.wanted (is_ready x.state) both)));
  room = omega (
    arith,
    is.room,
    length-append ring (alone_if (x.wanted && is_ready x.state) (length xs)),
    length_alone (x.wanted && is_ready x.state) (length xs),
    count_push (λ memo. is_blocked memo.state) xs x,
    ready_or_blocked x.wanted x.state,
  );
  work = All-nil (λ e. e < length (xs ++ x ∷ []));
  space = omega (
    arith,
    is.space,
    count_push (λ memo. is_open memo.state) xs x,
    one_most (is_open x.state),
  );
  unsettled = omega (arith, is.unsettled, count_push is_unsettled xs x);
}
  where
    first_of_two : (w r : Bool) → (w && r) ≡ true → w ≡ true
    first_of_two true r both = refl
    first_of_two false r both = absurd (false≢true both)

    apart : (w r b : Bool) → (r ≡ true → b ≡ false) → one (w && r) + one b ≤ 1
    apart false r b from = omega (arith, one_most b)
    apart true false b from = omega (arith, one_most b)
    apart true true b from = search (rules, one)

    ready_or_blocked : (w : Bool) (s : State) → one (w && is_ready s) + one (is_blocked s) ≤ 1
    ready_or_blocked w s = apart w (is_ready s) (is_blocked s) (ready_not_blocked s)

opening_more : (memos : List NodeState) (d : ℕ) (ring : List ℕ) (unsettled : ℕ) (x : NodeState)
    (default : NodeState) → d < length memos → get_or memos d default ≡ x
    → IsOpening memos d ring unsettled
    → IsOpening memos (d + 1) (ring ++ alone_if (x.wanted && is_ready x.state) d)
    (unsettled + one (is_unsettled x))
opening_more memos d ring unsettled x default low read before =
    let first = take d memos in
    let long : length first ≡ d = length-take-le d memos (omega (arith, low)) in
    let next : take (d + 1) memos ≡ first ++ x ∷ [] = take_more _ d _ low
    ∙ ap (λ t. first ++ t ∷ []) read in
    let was : AreQueues first (record {
      ring = ring;
      room = length first;
      work = [];
      space = length first;
      unsettled = unsettled;
    }) = subst (λ n. AreQueues first (record {
      ring = ring;
      room = n;
      work = [];
      space = n;
      unsettled = unsettled;
    })) (sym long) before.is in
    let more = queues_more _ _ _ x was in
    record {
      is = subst (λ l. AreQueues l (record {
        ring = ring ++ alone_if (x.wanted && is_ready x.state) d;
        room = d + 1;
        work = [];
        space = d + 1;
        unsettled = unsettled + one (is_unsettled x);
      })) (sym next) (subst (λ n. AreQueues (first ++ x ∷ []) (record {
        ring = ring ++ alone_if (x.wanted && is_ready x.state) n;
        room = n + 1;
        work = [];
        space = n + 1;
        unsettled = unsettled + one (is_unsettled x);
      })) long more);
      ready = All-append (λ e. kept (states_in memos) e ≡ Ready) _
          _ before.ready
          (all_alone (λ e. kept (states_in memos) e ≡ Ready) _ d
          (λ both. get_or-map (λ (t : NodeState). t.state) _ d _ _ low
          ∙ ap (λ (t : NodeState). t.state) read
          ∙ ready_is _ (second_of_two x.wanted (is_ready x.state) both)));
    }
  where
    second_of_two : (w r : Bool) → (w && r) ≡ true → r ≡ true
    second_of_two true r both = both
    second_of_two false r both = absurd (false≢true both)

-- one more memo was looked at: it can be begun; it still has something before it; neither
pub opening_ready : (memos : List NodeState) (d : ℕ) (ring : List ℕ) (unsettled : ℕ)
    (default : NodeState) (now : List ℕ) (count : ℕ) → d < length memos
    → (get_or memos d default).wanted ≡ true
    → is_open (get_or memos d default).state ≡ true
    → is_ready (get_or memos d default).state ≡ true
    → now ≡ ring ++ d ∷ [] → count ≡ unsettled + 1 → IsOpening memos d ring unsettled
    → IsOpening memos (d + 1) now count
opening_ready memos d ring unsettled default now count low w o r ring_is count_is before =
    let x = get_or memos d default in
    let begun : (x.wanted && is_ready x.state) ≡ true = cc in
    let unsettled_is : is_unsettled x ≡ true = cc in
    let ring_was : now ≡ ring ++ alone_if (x.wanted && is_ready x.state) d = ring_is
    ∙ ap (λ b. ring ++ alone_if b d) (sym begun) in
    let count_was : count ≡ unsettled + one (is_unsettled x) = count_is
    ∙ ap (λ b. unsettled + one b) (sym unsettled_is) in
    subst (λ l. IsOpening memos (d + 1) l count) (sym ring_was)
    (subst (λ n. IsOpening memos (d + 1) (ring ++ alone_if (x.wanted && is_ready x.state) d) n)
    (sym count_was) (opening_more _ d _ _ x _ low refl before))

pub opening_open : (memos : List NodeState) (d : ℕ) (ring : List ℕ) (unsettled : ℕ)
    (default : NodeState) (now : List ℕ) (count : ℕ) → d < length memos
    → (get_or memos d default).wanted ≡ true
    → is_open (get_or memos d default).state ≡ true
    → is_ready (get_or memos d default).state ≡ false
    → now ≡ ring → count ≡ unsettled + 1 → IsOpening memos d ring unsettled
    → IsOpening memos (d + 1) now count
opening_open memos d ring unsettled default now count low w o r ring_is count_is before =
    let x = get_or memos d default in
    let begun : (x.wanted && is_ready x.state) ≡ false = cc in
    let unsettled_is : is_unsettled x ≡ true = cc in
    let ring_was : now ≡ ring ++ alone_if (x.wanted && is_ready x.state) d = ring_is
    ∙ sym (append-nil ring) ∙ ap (λ b. ring ++ alone_if b d) (sym begun) in
    let count_was : count ≡ unsettled + one (is_unsettled x) = count_is
    ∙ ap (λ b. unsettled + one b) (sym unsettled_is) in
    subst (λ l. IsOpening memos (d + 1) l count) (sym ring_was)
    (subst (λ n. IsOpening memos (d + 1) (ring ++ alone_if (x.wanted && is_ready x.state) d) n)
    (sym count_was) (opening_more _ d _ _ x _ low refl before))

ready_open : (s : State) → is_open s ≡ false → is_ready s ≡ false
ready_open Blocked is = refl
ready_open Ready is = absurd (false≢true (sym is))
ready_open (Building lease) is = refl
ready_open Done is = refl
ready_open Reused is = refl
ready_open (Failed reason) is = refl
ready_open (Refused cause) is = refl

pub opening_passed : (memos : List NodeState) (d : ℕ) (ring : List ℕ) (unsettled : ℕ)
    (default : NodeState) (now : List ℕ) (count : ℕ) → d < length memos
    → ((get_or memos d default).wanted ≡ false)
    ⊎ (is_open (get_or memos d default).state ≡ false)
    → now ≡ ring → count ≡ unsettled → IsOpening memos d ring unsettled
    → IsOpening memos (d + 1) now count
opening_passed memos d ring unsettled default now count low either ring_is count_is before =
    let x = get_or memos d default in
    let begun : (x.wanted && is_ready x.state) ≡ false = ⊎_elim
    (λ w. ap (λ b. b && is_ready x.state) w)
    (λ o. ap (λ b. x.wanted && b) (ready_open _ o) ∙ and_false x.wanted) either in
    let unsettled_is : is_unsettled x ≡ false = ⊎_elim
    (λ w. ap (λ b. b && is_open x.state) w)
    (λ o. ap (λ b. x.wanted && b) o ∙ and_false x.wanted) either in
    let ring_was : now ≡ ring ++ alone_if (x.wanted && is_ready x.state) d = ring_is
    ∙ sym (append-nil ring) ∙ ap (λ b. ring ++ alone_if b d) (sym begun) in
    let none : one (is_unsettled x) ≡ 0 = ap one unsettled_is in
    let count_was : count ≡ unsettled + one (is_unsettled x) = omega arith in
    subst (λ l. IsOpening memos (d + 1) l count) (sym ring_was)
    (subst (λ n. IsOpening memos (d + 1) (ring ++ alone_if (x.wanted && is_ready x.state) d) n)
    (sym count_was) (opening_more _ d _ _ x _ low refl before))
  where
    and_false : (w : Bool) → (w && false) ≡ false
    and_false true = refl
    and_false false = refl

-- all were looked at
pub opening_done : (memos : List NodeState) (d : ℕ) (ring : List ℕ) (unsettled room space : ℕ)
    (work : List ℕ) → length memos ≤ d → d ≤ length memos → room ≡ length memos
    → space ≡ length memos → work ≡ [] → IsOpening memos d ring unsettled
    → AreQueues memos (record {
      ring = ring;
      room = room;
      work = work;
      space = space;
      unsettled = unsettled;
    })
opening_done memos d ring unsettled room space work past low room_is space_is none before =
    search (rules, take_all, low)

pub opening_fresh : (memos : List NodeState) (d : ℕ) (ring : List ℕ) (unsettled : ℕ)
    → IsOpening memos d ring unsettled → (e : ℕ) → slice_get ring 0 ≡ Some e
    → kept (states_in memos) e ≡ Ready
opening_fresh memos d ring unsettled before e at =
    search (rules, get_or_from_slice_get, slice_get_within)

-- what is put into a ring with room
pub all_kept : (xs : List ℕ) (room : ℕ) → length xs ≤ room → drop (length xs - room) xs ≡ xs
all_kept xs room low = search (rules, low)

pub room_for : (memos : List NodeState) (d : ℕ) (ring : List ℕ) (unsettled room : ℕ)
    → d < length memos → room ≡ length memos → IsOpening memos d ring unsettled
    → length (ring ++ d ∷ []) ≤ room
room_for memos d ring unsettled room low wide before = search (rules, length_push)

pub few_unsettled : (memos : List NodeState) (d : ℕ) (ring : List ℕ) (unsettled : ℕ)
    → d < length memos → IsOpening memos d ring unsettled → unsettled ≤ d
few_unsettled memos d ring unsettled low before = search (rules, count_most, length-take-le, low)
