-- *Steps*: how much work it was to find the states of a run's derivations (this product's own).
use Rattle.std.specs.Prelude.{◌+◌, ◌++◌, ◌-◌, ◌*◌, ℕ, zero, suc, List, length, slice_get, if◌then◌else◌}
use Rattle.run_states.specs.Runs.{opened}
use Rattle.run_states.specs.Nearest.{last_alone}
use Rattle.run_states.specs.Runs.{History, Run, earlier_twins, inputs_at, state_in}
use Rattle.run_states.specs.States.{is_open}
use Rattle.run_states.specs.UserSpans.{uses}
use Rattle.run_states.specs.declared.state.State.{State}

-- the sum of the parts of the numbers below a count
abbrev pub total : (part : ℕ → ℕ) → (count : ℕ) → ℕ
total part zero = 0
total part (suc count) = part 0 + total (λ n. part (suc n)) count

-- The number of edges from an open derivation, one that is Blocked, Ready or Building, to those
-- that wait for it: one for each index at which it stands among what these wait for.
abbrev pub edges_ahead : (awaited : ℕ → List ℕ) → (state : ℕ → State) → (count : ℕ) → ℕ
edges_ahead awaited state count =
    total (λ d. if is_open (state d) then uses awaited count d else 0) count

-- what a derivation waits for: its inputs, in its text's order, and the nearest of its earlier
-- twins
abbrev pub awaited_by : Run → History → ℕ → List ℕ
awaited_by run history d = inputs_at run.graph.nodes (slice_get run.graph.nodes d)
    ++ last_alone (earlier_twins run history.opening d)

-- the number of edges from open derivations in a run with its history
abbrev pub edges_ahead_in : Run → History → ℕ
edges_ahead_in run history = edges_ahead (awaited_by run history) (state_in run history)
    (length run.graph.nodes)

-- The number of edges along which an end was told: those from derivations that were open when the
-- journal opened and are not open now.
abbrev pub followed_in : Run → History → ℕ
followed_in run history = edges_ahead_in run (opened history.opening) - edges_ahead_in run history

-- One step for the state of each event, and two for each edge along which an end was told: the edge
-- was followed, and the state at its end was worked out.
abbrev pub steps_in : Run → History → ℕ
steps_in run history = length history.events + 2 * followed_in run history
