-- How the reverse edges of a plan are gathered, a user at a time (this product's own).
use Rattle.std.specs.Prelude.{◌≡◌, ◌<◌, ◌≤◌, ◌+◌, ◌-◌, ◌==◌, ℕ, zero, suc, List, [], ◌∷◌, All, drop, length, map, slice_get, take, if◌then◌else◌}
use Rattle.std.specs.List.{slice_index_or}
use Rattle.run_states.specs.Users.{once_at, times}
use Rattle.run_states.specs.declared.users.Edge.{Edge}
use Rattle.run_states.specs.declared.users.Span.{Span}

-- how often a number is in a list
abbrev pub often : ℕ → List ℕ → ℕ
often n [] = 0
often n (x ∷ xs) = (if x == n then 1 else 0) + often n xs

-- how often a number is among what each of the first `count` derivations waits for
abbrev pub uses : (awaited : ℕ → List ℕ) → (count : ℕ) → ℕ → ℕ
uses awaited zero n = 0
uses awaited (suc count) n = uses awaited count n + often n (awaited count)

-- how many pairs there are of one of the first `count` derivations and one that it waits for
abbrev pub pairs : (awaited : ℕ → List ℕ) → (count : ℕ) → ℕ
pairs awaited zero = 0
pairs awaited (suc count) = pairs awaited count + length (awaited count)

-- the edges in a span
abbrev pub part : List Edge → Span → List Edge
part edges span = take (span.end - span.start) (drop span.start edges)

-- the edges in each of some spans
abbrev pub parts : List Span → List Edge → List (List Edge)
parts spans edges = map (part edges) spans

-- the span with this number, or an empty one if there is no such span
abbrev pub span_at : List Span → ℕ → Span
span_at spans n = slice_index_or spans n (record { start = 0; end = 0 })

-- Spans lie one after the other among `slots` slots, the n-th with room for `more n` edges more.
pub record HaveRoom (spans : List Span) (slots : ℕ) (more : ℕ → ℕ) : Type 0 where
  pub rise : (n : ℕ) → n < length spans → (span_at spans n).start ≤ (span_at spans n).end
  pub apart : (n m : ℕ) → n < m → m < length spans
      → (span_at spans n).end + more n ≤ (span_at spans m).start
  pub fit : (n : ℕ) → n < length spans → (span_at spans n).end + more n ≤ slots

-- The edges to the users of each of the first `count` derivations, before and after the edges to
-- one more user are added, which waits for these.
pub record AddsUser (user : ℕ) (inputs : List ℕ) (count : ℕ) (old new : ℕ → List Edge)
    : Type 0 where
  pub each : (input other index : ℕ) → input < count
      → times other index (new input) ≡ times other index (old input)
      + (if other == user then once_at (slice_get inputs index) input else 0)
  pub size : (input : ℕ) → input < count
      → length (new input) ≡ length (old input) + often input inputs
  pub within : (input bound : ℕ) → input < count → user < bound
      → All (λ (edge : Edge). edge.user < bound) (old input)
      → All (λ (edge : Edge). edge.user < bound) (new input)
