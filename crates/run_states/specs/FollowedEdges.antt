-- How many edges to users were followed, by the memos that are kept.
use Rattle.std.specs.Prelude.{◌≡◌, ◌<◌, ◌+◌, ◌-◌, ◌^◌, ℕ, suc, List, [], ◌∷◌, length, if◌then◌else◌}
use Rattle.drv_graph.specs.Plans.{Graph}
use Rattle.run_states.specs.WorkQueues.{table_by, twins_in}
use Rattle.run_states.specs.StateTables.{StateTable, all_of, awaited_at, table_state}
use Rattle.run_states.specs.States.{is_open}
use Rattle.run_states.specs.Steps.{edges_ahead}
use Rattle.run_states.specs.UserSpans.{uses}
use Rattle.run_states.specs.Users.{users_of}
use Rattle.run_states.specs.declared.node_states.NodeState.{NodeState}
use Rattle.run_states.specs.declared.users.Edge.{Edge}

-- how many edges lead from a derivation to its users
abbrev pub sizes : List (List Edge) → ℕ → ℕ
sizes users d = length (users_of users d)

-- how many edges lead to users from derivations that are Blocked, Ready or Building
abbrev pub open_edges : (size : ℕ → ℕ) → List NodeState → ℕ
open_edges size [] = 0
open_edges size (memo ∷ memos) =
    (if is_open memo.state then size 0 else 0) + open_edges (λ d. size (suc d)) memos

-- the state table before anything has begun
abbrev pub rested : StateTable → StateTable
rested table = record {
  graph = table.graph;
  preconditions = table.preconditions;
  wanted = table.wanted;
  twins = table.twins;
  phases = [];
}

-- the number of edges to users from derivations of a state table that are Blocked, Ready or
-- Building
abbrev pub table_ahead : StateTable → ℕ
table_ahead table = edges_ahead (λ d. all_of (awaited_at table.graph table.twins d))
    (table_state table) (length table.graph.nodes)

-- along how many edges users were told
abbrev pub table_followed : StateTable → ℕ
table_followed table = table_ahead (rested table) - table_ahead table

-- So many edges were followed: all from derivations that were Blocked, Ready or Building before
-- anything had begun, but for those that still are.
pub record HasFollowed (graph : Graph) (memos : List NodeState) (users : List (List Edge))
    (followed : ℕ)
    : Type 0 where
  pub few : followed + open_edges (sizes users) memos < 2 ^ 64
  pub size : (d : ℕ) → d < length graph.nodes → sizes users d
      ≡ uses (λ e. all_of (awaited_at graph (twins_in memos) e)) (length graph.nodes) d
  pub all : followed + open_edges (sizes users) memos
      ≡ table_ahead (rested (table_by graph memos))
