-- *Work queues*: the work that is left in a run over a plan: the derivations that can be begun, and
-- the ended ones whose users are still to be told (this product's own).
use Rattle.std.specs.Prelude.{◌≡◌, ◌<◌, ◌≤◌, ◌+◌, ◌-◌, ◌&&◌, ℕ, not, Bool, true, false, Option, Some, List, [], ◌∷◌, ◌++◌, All, Contains, length, map, slice_get, if◌then◌else◌}
use Rattle.std.specs.List.{slice_index_or}
use Rattle.drv_graph.specs.Plans.{Graph}
use Rattle.run_states.specs.StateTables.{Awaited, StateTable, all_of, awaited_at}
use Rattle.run_states.specs.StateLists.{kept, phase_in, table_of}
use Rattle.run_states.specs.States.{Idle, Phase, is_open}
use Rattle.run_states.specs.NodeStates.{HaveHeard, states_in}
use Rattle.run_states.specs.Users.{AreUsers, users_of_all}
use Rattle.run_states.specs.declared.state.State.{State}
use Rattle.run_states.specs.declared.state.State.TheVariants.{Ready, Blocked}
use Rattle.run_states.specs.declared.precondition.Precondition.{Precondition}
use Rattle.run_states.specs.declared.node_states.NodeState.{NodeState}
use Rattle.run_states.specs.declared.users.Edge.{Edge}

-- What is still to be done, by the numbers of derivations. `ring` has the wanted ones that are
-- Ready, and may have some that have begun since. `work` has the ended ones whose users are still
-- to be told. `room` and `space` are the most that each list may hold. `unsettled` is the number of
-- wanted ones that are Blocked, Ready or Building.
pub record WorkQueues : Type 0 where
  pub ring : List ℕ
  pub room : ℕ
  pub work : List ℕ
  pub space : ℕ
  pub unsettled : ℕ

-- whether a state is Ready
abbrev pub is_ready : State → Bool
is_ready Ready = true
is_ready state = false

-- whether a state is Blocked
abbrev pub is_blocked : State → Bool
is_blocked Blocked = true
is_blocked state = false

-- whether a derivation is wanted, and Blocked, Ready or Building
abbrev pub is_unsettled : NodeState → Bool
is_unsettled memo = memo.wanted && is_open memo.state

-- how many of some memos pass a test
abbrev pub memo_count : (NodeState → Bool) → List NodeState → ℕ
memo_count test [] = 0
memo_count test (memo ∷ memos) = (if test memo then 1 else 0) + memo_count test memos

-- the derivation with this number is wanted
abbrev pub IsWantedAt : List NodeState → ℕ → Type 0
IsWantedAt memos d = (memo : NodeState) × (slice_get memos d ≡ Some memo)
    × (memo.wanted ≡ true)

-- The work queues are right for these memos. The ring has each wanted derivation that is Ready, and
-- has wanted ones alone. It has room for each Blocked derivation, which may still come there. The
-- work has space for each derivation that is Blocked, Ready or Building, which may still come
-- there.
pub record AreQueues (memos : List NodeState) (queues : WorkQueues) : Type 0 where
  pub ready : (d : ℕ) (memo : NodeState) → slice_get memos d ≡ Some memo → memo.wanted ≡ true
      → memo.state ≡ Ready → Contains queues.ring d
  pub ring : All (IsWantedAt memos) queues.ring
  pub room : length queues.ring + memo_count (λ memo. is_blocked memo.state) memos
      ≤ queues.room
  pub work : All (λ d. d < length memos) queues.work
  pub space : length queues.work + memo_count (λ memo. is_open memo.state) memos
      ≤ queues.space
  pub unsettled : queues.unsettled ≡ memo_count is_unsettled memos

-- the first in the ring, if there is one, is Ready
abbrev pub IsFresh : List NodeState → WorkQueues → Type 0
IsFresh memos queues = (d : ℕ) → slice_get queues.ring 0 ≡ Some d
    → kept (states_in memos) d ≡ Ready

-- the list of one number, or the empty list
abbrev pub alone_if : Bool → ℕ → List ℕ
alone_if is d = if is then d ∷ [] else []

-- whether by this change of its memo a wanted Blocked derivation becomes Ready
abbrev pub frees : (before after : NodeState) → Bool
frees before after = after.wanted && is_blocked before.state && is_ready after.state

-- whether by this change of its memo a derivation ends: it is not Blocked, Ready or Building any
-- more
abbrev pub ends : (before after : NodeState) → Bool
ends before after = is_open before.state && not (is_open after.state)

-- whether by this change of its memo a wanted derivation ends
abbrev pub settles : (before after : NodeState) → Bool
settles before after = after.wanted && ends before after

-- the work queues after the memo of derivation `d` changed
abbrev pub noted : WorkQueues → (d : ℕ) → (before after : NodeState) → WorkQueues
noted queues d before after = record queues {
  ring = queues.ring ++ alone_if (frees before after) d;
  work = queues.work ++ alone_if (ends before after) d;
  unsettled = queues.unsettled - (if settles before after then 1 else 0);
}

-- Each memo is right but for the ends that are still to be told: along the edges `left`, and then
-- along the edges from those of the work to their users.
pub record IsSpreading (awaited : ℕ → Awaited) (users : List (List Edge)) (memos : List NodeState)
    (queues : WorkQueues) (left : List Edge) : Type 0 where
  pub first : (d i : ℕ) → Contains (all_of (awaited d)) i → i < d
  pub edges : AreUsers (λ d. all_of (awaited d)) (length memos) users
  pub heard : HaveHeard awaited memos (left ++ users_of_all users queues.work)
  pub listed : AreQueues memos queues

-- how many derivations' ends are still to be told: those of the work, and those of all that are
-- Blocked, Ready or Building
abbrev pub to_end : List NodeState → WorkQueues → ℕ
to_end memos queues = length queues.work + memo_count (λ memo. is_open memo.state) memos

-- No end is left to be told, and the first in the ring, if there is one, is Ready.
pub record IsSteady (awaited : ℕ → Awaited) (users : List (List Edge)) (memos : List NodeState)
    (queues : WorkQueues) : Type 0 where
  pub told : IsSpreading awaited users memos queues []
  pub none : queues.work ≡ []
  pub fresh : IsFresh memos queues

-- the preconditions that memos hold
abbrev pub preconditions_in : List NodeState → List Precondition
preconditions_in memos = map (λ (memo : NodeState). memo.precondition) memos

-- of each derivation, whether it is wanted, as memos hold it
abbrev pub wanted_in : List NodeState → List Bool
wanted_in memos = map (λ (memo : NodeState). memo.wanted) memos

-- the nearest earlier twins that memos hold
abbrev pub twins_in : List NodeState → List (Option ℕ)
twins_in memos = map (λ (memo : NodeState). memo.twin) memos

-- the phases of the states that memos hold
abbrev pub phases_in : List NodeState → List Phase
phases_in memos = map phase_in (states_in memos)

-- Memos keep their preconditions, what is wanted, their twins, and the phases of their states.
pub record AreSameElse (before after : List NodeState) : Type 0 where
  pub preconditions : preconditions_in after ≡ preconditions_in before
  pub wanted : wanted_in after ≡ wanted_in before
  pub twins : twins_in after ≡ twins_in before
  pub phases : phases_in after ≡ phases_in before

-- the state table of a plan whose derivations have these memos
abbrev pub table_by : Graph → List NodeState → StateTable
table_by graph memos =
    table_of graph (preconditions_in memos) (wanted_in memos) (twins_in memos)
    (states_in memos)

-- These are the memos of a plan on which nothing has begun.
pub record AreOpening (graph : Graph) (preconditions : List Precondition) (wanted : List Bool)
    (twins : List (Option ℕ)) (memos : List NodeState) : Type 0 where
  pub count : length memos ≡ length graph.nodes
  pub stand : preconditions_in memos ≡ preconditions
  pub are_wanted : wanted_in memos ≡ wanted
  pub are_twins : twins_in memos ≡ twins
  pub idle : (d : ℕ) → slice_index_or (phases_in memos) d Idle ≡ Idle
  pub first : (d i : ℕ) → Contains (all_of (awaited_at graph twins d)) i → i < d
  pub heard : HaveHeard (awaited_at graph twins) memos []

-- These are the memos of a plan, with the edges to users and the work queues; all ends are told.
pub record IsStateTable (graph : Graph) (memos : List NodeState) (users : List (List Edge))
    (queues : WorkQueues) : Type 0 where
  pub count : length memos ≡ length graph.nodes
  pub steady : IsSteady (awaited_at graph (twins_in memos)) users memos queues
