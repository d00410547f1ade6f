-- Which derivation owns an output path: the first of those that have it.
use Rattle.std.specs.Prelude.{◌≡◌, ◌≢◌, ◌≤◌, ◌↔◌, ◌⊎◌, Bool, true, false, ℕ, List, [], ◌∷◌, ◌++◌, length, map, nat_eq, Contains, IsTrue, Option, None, Some, Result, Ok, Err, slice_get}
use Rattle.std.specs.Cmp.Lexicographic.{pointwise}
use Rattle.indexmap.specs.IndexMap.{IndexMap, get}
use Rattle.nix_names.specs.Bytes.{Path}
use Rattle.drv_graph.specs.Nodes.{output_paths_of}
use Rattle.drv_graph.specs.Plans.{HaveSamePaths}
use Rattle.drv_graph.specs.declared.fault.GraphFault.{GraphFault}
use Rattle.drv_graph.specs.declared.fault.GraphFault.TheVariants.{NoMemory, At}
use Rattle.drv_graph.specs.declared.fault.NodeFault.TheVariants.{OutputClash}
use Rattle.drv_graph.specs.declared.plans.node.PlanNode.{PlanNode}

-- the number of the derivation that owns an output path, if one does
abbrev pub owned : {S : Type 0} → IndexMap Path ℕ S → Path → Option ℕ
owned owners = get (pointwise nat_eq) owners

-- the output paths of each derivation
abbrev pub outputs_of : List PlanNode → List (List Path)
outputs_of kept = map (λ (k : PlanNode). output_paths_of k.drv) kept

-- the derivation with this number owns these paths, and no others
abbrev pub AreOwnedBy : (owners : Path → Option ℕ) → (number : ℕ) → (outputs : List Path)
    → Type 0
AreOwnedBy owners number outputs = (path : Path)
    → (Contains outputs path ↔ (owners path ≡ Some number))

-- The owners of output paths are right, where the derivations that were left have these outputs. An
-- owner has the paths that it owns. The outputs of each derivation are all that one derivation
-- owns: itself, or one before it.
pub record AreOwners (owners : Path → Option ℕ) (left : List (List Path)) : Type 0 where
  pub has : (path : Path) (number : ℕ) → owners path ≡ Some number
      → (outputs : List Path) × (slice_get left number ≡ Some outputs) × Contains outputs path
  pub of_each : (n : ℕ) (outputs : List Path) → slice_get left n ≡ Some outputs
      → (number : ℕ) × (number ≤ n) × AreOwnedBy owners number outputs

-- the owner of the first of some paths
abbrev pub first_owner : (owners : Path → Option ℕ) → List Path → Option ℕ
first_owner owners [] = None
first_owner owners (path ∷ paths) = owners path

-- whether the derivation with this number has `count` outputs; true where there is no number
abbrev pub HasAsMany : (kept : List PlanNode) → (number : Option ℕ) → (count : ℕ) → Bool → Type 0
HasAsMany kept None count answer = IsTrue answer
HasAsMany kept (Some number) count answer =
    (node : PlanNode) × (slice_get kept number ≡ Some node)
    × (IsTrue answer ↔ (length node.outputs.items ≡ count))

-- These paths have this owner now, and each other path has the owner that it had.
pub record AreEntered (before after : Path → Option ℕ) (paths : List Path) (number : ℕ)
    : Type 0 where
  pub here : (path : Path) → Contains paths path → after path ≡ Some number
  pub others : (path : Path) → (Contains paths path → ⊥) → after path ≡ before path

-- what entering paths under a number answers: whether each path had this owner before; if so, all
-- are entered
abbrev pub IsEntering : (before after : Path → Option ℕ) → (owner : Option ℕ)
    → (paths : List Path) → (number : ℕ) → Bool → Type 0
IsEntering before after owner paths number true =
    ((path : Path) → Contains paths path → before path ≡ owner)
    × AreEntered before after paths number
IsEntering before after owner paths number false =
    (path : Path) × Contains paths path × (before path ≢ owner)

-- One of the next derivation's output paths is also one of a derivation that was left, and the two
-- derivations don't have the same output paths.
pub record IsClash (kept : List PlanNode) (outputs : List Path) : Type 0 where
  pub node : PlanNode
  pub is_node : Contains kept node
  pub output : Path
  pub is_output : Contains (output_paths_of node.drv) output
  pub is_own : Contains outputs output
  pub no_twin : HaveSamePaths (output_paths_of node.drv) outputs → ⊥

-- what entering the outputs of the derivation at a path among their owners answers: the number of
-- the derivation that owns them
abbrev pub IsOwning : (kept : List PlanNode) → (path : Path) → (outputs : List Path)
    → (owners : Path → Option ℕ) → Result ℕ GraphFault → Type 0
IsOwning kept path outputs owners (Ok number) = AreOwners owners (outputs_of kept ++ outputs ∷ [])
    × AreOwnedBy owners number outputs
IsOwning kept path outputs owners (Err fault) =
    (fault ≡ NoMemory) ⊎ ((fault ≡ At path OutputClash) × IsClash kept outputs)
