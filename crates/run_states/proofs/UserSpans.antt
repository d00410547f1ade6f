-- How the reverse edges of a plan are gathered, a user at a time.
use Rattle.std.proofs.Common.{◌≡◌, ◌∙◌, ◌⊎◌, inl, inr, ⊎_elim, ℕ, zero, suc, ◌+◌, ◌<◌, ◌≤◌, Bool, cond, eqb, ltb, List, [], ◌∷◌, ◌++◌, length, sym, ap, subst, arith, ◌-◌, drop, take, ◌&&◌, rules}
use Rattle.std.specs.Prelude.{All, slice_get}
use Rattle.std.proofs.Math.ListN.{set}
use Rattle.std.proofs.lemmas.Bool.{cases_eq, cases_lt, eq-eqb, ne_eqb}
use Rattle.std.proofs.lemmas.Bool.Decides.{nat_tests}
use Rattle.std.proofs.lemmas.List.Elements.{All-push, All-nil}
use Rattle.std.proofs.lemmas.List.{drop-set-add, drop-set-lt, get_or-map, get_or-set_other, get_or-set_same, get_or_append_left, get_or_push, length-drop, length-set, length_push, take-set-le, take_more_set}
use Rattle.run_states.proofs.UserCounts.{often_both, often_none, often_one, uses_grow, uses_next}
use Rattle.run_states.specs.Users.{once_at, times, users_of}
use Rattle.run_states.specs.UserSpans.{AddsUser, HaveRoom, often, part, parts, span_at, uses}
use Rattle.run_states.specs.declared.users.Edge.{Edge}
use Rattle.run_states.specs.declared.users.Span.{Span}

-- ---- one more edge

times_push : (user index : ℕ) (edges : List Edge) (edge : Edge)
    → times user index (edges ++ edge ∷ [])
    ≡ times user index edges + cond (eqb edge.user user && eqb edge.index index) 1 0
times_push user index [] edge = omega arith
times_push user index (e ∷ edges) edge = omega (arith, times_push user index edges edge)

-- numbers that differ
apart : (k index : ℕ) (b : Bool) → (k ≡ index → ⊥)
    → ◌≡◌ {A = ℕ} (cond (eqb k index && b) 1 0) 0
apart k index b differ = search (rules, ne_eqb)

next_same : (k index : ℕ) → eqb (suc k) (suc index) ≡ eqb k index
next_same k index = search (rules, eq-eqb, ne_eqb, cases_eq)

once_push : (xs : List ℕ) (x index input : ℕ) → once_at (slice_get (xs ++ x ∷ []) index) input
    ≡ once_at (slice_get xs index) input + cond (eqb (length xs) index && eqb x input) 1 0
once_push [] x zero input = omega arith
once_push [] x (suc index) input = search (rules, apart, eqb)
once_push (y ∷ xs) x zero input = search (rules, apart, eqb)
once_push (y ∷ xs) x (suc index) input = search (rules, eqb, next_same, once_push xs x index input)

-- ---- the edges of one user

pub adds_none : (user count : ℕ) (rows : ℕ → List Edge) → AddsUser user [] count rows rows
adds_none user count rows = record {
  each = λ input other index low. grind (arith, nat_tests);
  size = λ input low. omega arith;
  within = λ input bound low less all. all;
}

pub adds_more : (user index : ℕ) (seen : List ℕ) (i count : ℕ) (old mid new : ℕ → List Edge)
    → index ≡ length seen → new i ≡ mid i ++ record { user = user; index = index } ∷ []
    → ((d : ℕ) → d < count → (d ≡ i → ⊥) → new d ≡ mid d)
    → AddsUser user seen count old mid → AddsUser user (seen ++ i ∷ []) count old new
adds_more user k seen i count old mid new size at others prior = record {
  each = λ input other index low. each input other index low (cases_eq input i);
  size = λ input low. grown input low (cases_eq input i);
  within = λ input bound low less all. within input bound low less all (cases_eq input i);
}
  where
    each : (input other index : ℕ) → input < count → (input ≡ i) ⊎ (input ≡ i → ⊥)
        → times other index (new input) ≡ times other index (old input)
        + cond (eqb other user) (once_at (slice_get (seen ++ i ∷ []) index) input) 0
    each input other index low (inl same) = search (rules, times_push, once_push, nat_tests, size)
    each input other index low (inr apart) = search (rules, apart, once_push, nat_tests)

    grown : (input : ℕ) → input < count → (input ≡ i) ⊎ (input ≡ i → ⊥)
        → length (new input) ≡ length (old input) + often input (seen ++ i ∷ [])
    grown input low (inl same) = search (rules, length_push, often_both, often_one)
    grown input low (inr apart) = search (rules, apart, often_both, often_none)

    within : (input bound : ℕ) → input < count → user < bound
        → All (λ (edge : Edge). edge.user < bound) (old input) → (input ≡ i) ⊎ (input ≡ i → ⊥)
        → All (λ (edge : Edge). edge.user < bound) (new input)
    within input bound low less all (inl same) =
        let here : new input ≡ mid input ++ record { user = user; index = k } ∷ [] =
        subst (λ d. new d ≡ mid d ++ record { user = user; index = k } ∷ []) (sym same) at
        in
        subst (All (λ (edge : Edge). edge.user < bound)) (sym here)
        (All-push (λ (edge : Edge). edge.user < bound) _
        _ (prior.within input bound low less all) less)
    within input bound low less all (inr apart) = search (rules, apart)

-- ---- the edges of the first users

-- The edges to the first `done` users, by input.
pub record AreOfFirst (inputs : ℕ → List ℕ) (count done : ℕ) (rows : ℕ → List Edge) : Type 0 where
  pub each : (input user index : ℕ) → input < count
      → times user index (rows input)
      ≡ cond (ltb user done) (once_at (slice_get (inputs user) index) input) 0
  pub size : (input : ℕ) → input < count → length (rows input) ≡ uses inputs done input
  pub within : (input : ℕ) → input < count → All (λ (edge : Edge). edge.user < count) (rows input)

pub first_none : (inputs : ℕ → List ℕ) (count : ℕ) (rows : ℕ → List Edge)
    → ((d : ℕ) → d < count → rows d ≡ []) → AreOfFirst inputs count 0 rows
first_none inputs count rows none = record {
  each = λ input user index low. ap (times user index) (none input low) ∙ grind (arith, nat_tests);
  size = λ input low. ap length (none input low);
  within = λ input low. subst (All (λ (edge : Edge). edge.user < count)) (sym (none input low))
      (All-nil (λ (edge : Edge). edge.user < count));
}

pub first_more : (inputs : ℕ → List ℕ) (count d : ℕ) (old new : ℕ → List Edge) → d < count
    → AddsUser d (inputs d) count old new → AreOfFirst inputs count d old
    → AreOfFirst inputs count (d + 1) new
first_more inputs count d old new low adds before = record {
  each = λ input user index less. each input user index less (cases_eq user d);
  size = λ input less. omega (
    arith,
    adds.size input less,
    before.size input less,
    uses_next inputs d input,
  );
  within = λ input less. adds.within input count less low (before.within input less);
}
  where
    each : (input user index : ℕ) → input < count → (user ≡ d) ⊎ (user ≡ d → ⊥)
        → times user index (new input)
        ≡ cond (ltb user (d + 1)) (once_at (slice_get (inputs user) index) input) 0
    each input user index less (inl same) = search (rules, nat_tests)
    each input user index less (inr apart) = search (rules, nat_tests)

-- ---- spans

pub room_less : (spans : List Span) (slots : ℕ) (more less : ℕ → ℕ) → HaveRoom spans slots more
    → ((n : ℕ) → n < length spans → less n ≤ more n) → HaveRoom spans slots less
room_less spans slots more less room fewer = record {
  rise = room.rise;
  apart = λ n m below within.
      omega (arith, room.apart n m below within, fewer n (omega (arith, below, within)));
  fit = λ n within. omega (arith, room.fit n within, fewer n within);
}

-- a span with one more
abbrev pub longer : Span → Span
longer span = record { start = span.start; end = span.end + 1 }

start_kept : (spans : List Span) (i n : ℕ) → i < length spans
    → (span_at (set spans i (longer (span_at spans i))) n).start ≡ (span_at spans n).start
start_kept spans i n within =
    search (rules, set, longer, get_or-set_same, within, get_or-set_other, cases_eq)

end_kept : (spans : List Span) (i n : ℕ) → (n ≡ i → ⊥)
    → (span_at (set spans i (longer (span_at spans i))) n).end ≡ (span_at spans n).end
end_kept spans i n differ = search (rules, get_or-set_other, longer)

end_grown : (spans : List Span) (i : ℕ) → i < length spans
    → (span_at (set spans i (longer (span_at spans i))) i).end ≡ (span_at spans i).end + 1
end_grown spans i within = search (rules, get_or-set_same, longer, within)

pub room_next : (spans : List Span) (i slots : ℕ) (more left : ℕ → ℕ) → i < length spans
    → more i ≡ left i + 1 → ((n : ℕ) → (n ≡ i → ⊥) → more n ≡ left n)
    → HaveRoom spans slots more
    → HaveRoom (set spans i (longer (span_at spans i))) slots left
room_next spans i slots more left low here others room = record {
  rise = λ n within. omega (
    arith,
    start_kept _ i n low,
    ends n,
    room.rise n (omega (arith, within, size)),
  );
  apart = λ n m below within. omega (
    arith,
    start_kept _ i m low,
    ends n,
    room.apart n m below (omega (arith, within, size)),
  );
  fit = λ n within. omega (arith, ends n, room.fit n (omega (arith, within, size)));
}
  where
    size : length (set spans i (longer (span_at spans i))) ≡ length spans
    size = length-set spans i (longer (span_at spans i))

    ends : (n : ℕ)
        → ((span_at (set spans i (longer (span_at spans i))) n).end + left n
        ≡ (span_at spans n).end + more n)
        × ((span_at spans n).end
        ≤ (span_at (set spans i (longer (span_at spans i))) n).end)
    ends n = search (rules, set, longer, end_grown, end_kept, cases_eq)

-- a span with one more edge, which it had room for
pub room_taken : (spans : List Span) (i slots : ℕ) (left : ℕ → ℕ) → i < length spans
    → HaveRoom spans slots (λ n. often n (i ∷ []) + left n)
    → HaveRoom (set spans i (longer (span_at spans i))) slots left
room_taken spans i slots left within room =
    search (rules, room_next, within, often_one, often_none)

-- what has room for the edges of the users that are left has it for those of the next
module _ (inputs : ℕ → List ℕ) (count d : ℕ) (spans : List Span) (slots : ℕ) (low : d < count)
    (room : HaveRoom spans slots (λ n. uses inputs count n - uses inputs d n)) where
  pub room_own : (numbers : List ℕ) → numbers ≡ inputs d
      → HaveRoom spans slots (λ n. often n numbers)
  room_own numbers same = room_less _ _ (λ n. uses inputs count n - uses inputs d n)
      (λ n. often n numbers) room
      (λ n within. omega (
        arith,
        uses_next inputs d n,
        uses_grow inputs n (d + 1) count (omega (arith, low)),
        ap (often n) same,
      ))

  pub room_others : (numbers : List ℕ) → numbers ≡ inputs d
      → HaveRoom spans slots
      (λ n. often n numbers + (uses inputs count n - uses inputs (d + 1) n))
  room_others numbers same = search (rules, room_less, uses_next, uses_grow)

-- an empty span after the others, and room for its edges
pub room_pushed : (spans : List Span) (slots : ℕ) (more : ℕ → ℕ) → HaveRoom spans slots more
    → HaveRoom (spans ++ record { start = slots; end = slots } ∷ [])
    (slots + more (length spans)) more
room_pushed spans slots more room = record {
  rise = λ n within. ⊎_elim
      (λ (low : n < length spans). omega (arith, first n low, room.rise n low))
      (λ past. omega (arith, last n (omega (arith, past, within, size))))
      (cases_lt n (length spans));
  apart = λ n m below within.
      let low : n < length spans = omega (arith, below, within, size) in
      ⊎_elim
      (λ (less : m < length spans).
      omega (arith, first n low, first m less, room.apart n m below less))
      (λ past. omega (
        arith,
        first n low,
        last m (omega (arith, past, within, size)),
        room.fit n low,
      ))
      (cases_lt m (length spans));
  fit = λ n within. ⊎_elim
      (λ (low : n < length spans). omega (arith, first n low, room.fit n low))
      (λ past.
      let is : n ≡ length spans = omega (arith, past, within, size) in
      omega (arith, last n is, ap more is))
      (cases_lt n (length spans));
}
  where
    pushed : List Span
    pushed = spans ++ record { start = slots; end = slots } ∷ []

    size : length (spans ++ record { start = slots; end = slots } ∷ []) ≡ length spans + 1
    size = search (rules, length_push)

    first : (n : ℕ) → n < length spans
        → ((span_at (spans ++ record { start = slots; end = slots } ∷ []) n).start
        ≡ (span_at spans n).start)
        × ((span_at (spans ++ record { start = slots; end = slots } ∷ []) n).end
        ≡ (span_at spans n).end)
    first n low = search (rules, get_or_append_left)

    last : (n : ℕ) → n ≡ length spans
        → ((span_at (spans ++ record { start = slots; end = slots } ∷ []) n).start ≡ slots)
        × ((span_at (spans ++ record { start = slots; end = slots } ∷ []) n).end ≡ slots)
    last n is = search (rules, get_or_push)

-- ---- the edges in spans

part_pushed : (edges : List Edge) (span : Span) (edge : Edge) → span.start ≤ span.end
    → span.end < length edges
    → part (set edges span.end edge) (longer span) ≡ part edges span ++ edge ∷ []
part_pushed edges span edge rise within =
    let n = span.end - span.start in
    let at : span.end ≡ span.start + n = omega (arith, rise) in
    let count : span.end + 1 - span.start ≡ n + 1 = omega (arith, rise) in
    let room : n < length (drop span.start edges) =
    omega (arith, length-drop span.start edges, rise, within) in
    ap (λ k. take k (drop span.start (set edges span.end edge))) count
    ∙ ap (λ e. take (n + 1) (drop span.start (set edges e edge))) at
    ∙ ap (take (n + 1)) (drop-set-add span.start edges n edge)
    ∙ take_more_set _ n _ room

part_kept : (edges : List Edge) (at : ℕ) (edge : Edge) (span : Span) → span.start ≤ span.end
    → (at < span.start) ⊎ (span.end ≤ at) → part (set edges at edge) span ≡ part edges span
part_kept edges at edge span rise (inl before) = search (rules, drop-set-lt)
part_kept edges at edge span rise (inr past) =
    let n = at - span.start in
    let is : at ≡ span.start + n = omega (arith, rise, past) in
    ap (λ e. take (span.end - span.start) (drop span.start (set edges e edge))) is
    ∙ ap (take (span.end - span.start)) (drop-set-add span.start edges n edge)
    ∙ take-set-le (span.end - span.start) (drop span.start edges) n edge
    (omega (arith, rise, past))

pub parts_at : (spans : List Span) (edges : List Edge) (n : ℕ) → n < length spans
    → users_of (parts spans edges) n ≡ part edges (span_at spans n)
parts_at spans edges n low = search (rules, get_or-map)

-- spans without edges
pub parts_none : (spans : List Span) (edges : List Edge)
    → All (λ (span : Span). span.start ≡ span.end) spans
    → (n : ℕ) → n < length spans → users_of (parts spans edges) n ≡ []
parts_none spans edges empty n low = search (rules, parts_at)

module _ (spans : List Span) (edges : List Edge) (i : ℕ) (edge : Edge) (more : ℕ → ℕ)
    (low : i < length spans) (room : HaveRoom spans (length edges) more) (some : 0 < more i) where
  -- a span with one more edge at its end, and the others
  pub edge_added : users_of (parts (set spans i (longer (span_at spans i)))
      (set edges (span_at spans i).end edge)) i
      ≡ users_of (parts spans edges) i ++ edge ∷ []
  edge_added = search (rules, parts_at, set, longer, length-set, get_or-set_same, part_pushed)

  pub others_stay : (n : ℕ) → n < length spans → (n ≡ i → ⊥)
      → users_of (parts (set spans i (longer (span_at spans i)))
      (set edges (span_at spans i).end edge)) n
      ≡ users_of (parts spans edges) n
  others_stay n less differ =
      parts_at _ _ n
      (omega (arith, less, length-set spans i (longer (span_at spans i))))
      ∙ ap (part (set edges (span_at spans i).end edge))
      (get_or-set_other spans i n (longer (span_at spans i)) (record { start = 0; end = 0 })
      differ)
      ∙ part_kept _ _ _ _ (room.rise n less)
      (⊎_elim
      (λ (below : n < i). inr (omega (arith, room.apart n i below low, room.rise i low)))
      (λ past. inl (omega (
        arith,
        room.apart i n (⊎_elim (λ below. below)
            (λ back. absurd (differ (omega (arith, past, back)))) (cases_lt i n)) less,
        some,
      )))
      (cases_lt n i))
      ∙ sym (parts_at _ _ n less)
