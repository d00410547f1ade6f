-- *Memo*: what is kept of a derivation, so that its state needs no look at its inputs (this
-- product's own).
use Rattle.std.specs.Prelude.{◌≡◌, ◌⊎◌, ◌+◌, ◌≤◌, ℕ, Bool, true, false, Option, Some, None, List, [], ◌∷◌, drop, length, map, slice_get, take, if◌then◌else◌}
use Rattle.std.specs.List.{list_all, position, position_or_len, slice_index_or}
use Rattle.run_states.specs.StateTables.{Awaited, all_of}
use Rattle.run_states.specs.StateLists.{kept, phase_in}
use Rattle.run_states.specs.Nearest.{News, Open, Good, Bad, by_twin_news, news_of}
use Rattle.run_states.specs.States.{by_first, by_hindrance, by_phase, by_validity}
use Rattle.run_states.specs.Users.{times}
use Rattle.build_outcome.specs.declared.reason.Reason.{Reason}
use Rattle.run_states.specs.declared.state.Refusal.{Refusal}
use Rattle.run_states.specs.declared.state.State.{State}
use Rattle.run_states.specs.declared.state.State.TheVariants.{Done, Failed, Building, Reused, Refused, Ready, Blocked}
use Rattle.run_states.specs.declared.precondition.Precondition.{Precondition}
use Rattle.run_states.specs.declared.node_states.NodeState.{NodeState}
use Rattle.run_states.specs.declared.users.Edge.{Edge}

-- Good or Bad news
abbrev pub news_by : Bool → News
news_by good = if good then Good else Bad

-- whether news is Good
abbrev pub is_good_news : News → Bool
is_good_news Good = true
is_good_news news = false

-- whether news is Bad
abbrev pub is_bad_news : News → Bool
is_bad_news Bad = true
is_bad_news news = false

-- whether a derivation is held by its twin, of which nothing is known yet
abbrev pub is_held : (twins : List News) → Bool
is_held [] = false
is_held (Open ∷ more) = true
is_held (Good ∷ more) = false
is_held (Bad ∷ more) = false

-- the news of some derivations in some states
abbrev pub news_in : (state : ℕ → State) → List ℕ → List News
news_in state numbers = map (λ i. news_of (state i)) numbers

-- how many of some news aren't good
abbrev pub waiting : List News → ℕ
waiting [] = 0
waiting (news ∷ more) = (if is_good_news news then 0 else 1) + waiting more

-- the input at an index, if there is an index
abbrev pub input_at : List ℕ → Option ℕ → Option ℕ
input_at inputs (Some index) = slice_get inputs index
input_at inputs None = None

-- the state of a derivation that nothing else hinders, by what is known of each of its inputs
abbrev pub by_news : (inputs : List ℕ) → List News → State
by_news inputs heard =
    by_first (input_at inputs (position is_bad_news heard)) (list_all is_good_news heard)

-- what is known of the inputs
abbrev pub of_inputs : Awaited → List News → List News
of_inputs awaited heard = take (length awaited.inputs) heard

-- what is known of the twin
abbrev pub of_twins : Awaited → List News → List News
of_twins awaited heard = drop (length awaited.inputs) heard

-- the state of a derivation without an event, by what is known of the twin, and by what the inputs
-- alone would make it
abbrev pub by_all : Precondition → (twins : List News) → (by_inputs : State) → State
by_all precondition twins by_inputs =
    by_validity precondition (by_twin_news twins (by_hindrance precondition by_inputs))

-- the state of a derivation without an event, by what is known of all that it waits for
abbrev pub by_heard : Precondition → Awaited → List News → State
by_heard precondition awaited heard = by_all precondition (of_twins awaited heard)
    (by_news awaited.inputs (of_inputs awaited heard))

-- A memo is right for what is known of all that the derivation waits for: the state is the
-- table's, `inputs` is the number of inputs, `waits` counts those that are neither Done nor Reused,
-- `first` is the index of the first that failed or is refused, or the number of inputs, `failed` is
-- the number of that input, if there is one, and `held` says whether nothing is known of the twin
-- yet.
pub record IsMemo (awaited : Awaited) (heard : List News) (memo : NodeState) : Type 0 where
  pub one : length awaited.twins ≤ 1
  pub count : length heard ≡ length (all_of awaited)
  pub state : memo.state
      ≡ by_phase (phase_in memo.state) (by_heard memo.precondition awaited heard)
  pub inputs : memo.inputs ≡ length awaited.inputs
  pub waits : memo.waits ≡ waiting (of_inputs awaited heard)
  pub first : memo.first ≡ position_or_len is_bad_news (of_inputs awaited heard)
  pub failed : memo.failed ≡ slice_get awaited.inputs memo.first
  pub held : memo.held ≡ is_held (of_twins awaited heard)

-- what is known of an awaited derivation is how it stands now, and nothing is left to tell; or
-- nothing is known, it has ended, and its end is left to be told once
abbrev pub Knows : (known now : News) → (left : ℕ) → Type 0
Knows known now left =
    ((known ≡ now) × (left ≡ 0)) ⊎ ((known ≡ Open) × (now ≡ Open → ⊥) × (left ≡ 1))

-- A memo is right for what is known of all that the derivation waits for, which have these states.
-- Of the one at each index, `left` says how often its end is still to be told.
pub record Hears (awaited : Awaited) (state : ℕ → State) (left : (index : ℕ) → ℕ) (memo : NodeState)
    : Type 0 where
  pub heard : List News
  pub is : IsMemo awaited heard memo
  pub knows : (index one : ℕ) → slice_get (all_of awaited) index ≡ Some one
      → Knows (slice_index_or heard index Open) (news_of (state one)) (left index)

-- the states that memos hold
abbrev pub states_in : List NodeState → List State
states_in memos = map (λ (memo : NodeState). memo.state) memos

-- Each memo is right but for the edges along which an end is still to be told.
pub record HaveHeard (awaited : ℕ → Awaited) (memos : List NodeState) (left : List Edge)
    : Type 0 where
  pub each : (d : ℕ) (memo : NodeState) → slice_get memos d ≡ Some memo
      → Hears (awaited d) (kept (states_in memos)) (λ index. times d index left) memo

-- whether this change is told to those that wait: nothing was known, and now the derivation has
-- ended
abbrev pub are_news : (before after : News) → Bool
are_news Open Good = true
are_news Open Bad = true
are_news Open Open = false
are_news Good after = false
are_news Bad after = false

-- the edges along which a change of state is to be told
abbrev pub to_tell : (before after : State) → List Edge → List Edge
to_tell before after edges = if are_news (news_of before) (news_of after) then edges else []

-- A derivation whose memo this is can be told of the one at this index that it waits for.
pub record CanHear (awaited : Awaited) (heard : List News) (memo : NodeState) (index one : ℕ)
    : Type 0 where
  pub is : IsMemo awaited heard memo
  pub unknown : slice_get heard index ≡ Some Open
  pub is_awaited : slice_get (all_of awaited) index ≡ Some one

-- how the state of a derivation may change
pub data Turns : (before after : State) → Type 0 where
  turns_stays : (state : State) → Turns state state
  turns_named : (cause other : Refusal) → Turns (Refused cause) (Refused other)
  turns_freed : Turns Blocked Ready
  turns_reused : Turns Blocked Reused
  turns_refused : (cause : Refusal) → Turns Blocked (Refused cause)
  turns_begun : (lease : ℕ) → Turns Ready (Building lease)
  turns_done : (lease : ℕ) → Turns (Building lease) Done
  turns_failed : (lease : ℕ) (reason : Reason) → Turns (Building lease) (Failed reason)

-- what telling doesn't change of a memo
pub record IsSameElse (before after : NodeState) : Type 0 where
  pub precondition : after.precondition ≡ before.precondition
  pub wanted : after.wanted ≡ before.wanted
  pub twin : after.twin ≡ before.twin
  pub phase : phase_in after.state ≡ phase_in before.state
