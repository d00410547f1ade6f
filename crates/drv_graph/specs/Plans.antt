-- *Plan*: the derivations that some roots reach, inputs before users (Dolstra's thesis, section
-- 5.4; Nix manual, "Store Derivation").
use Rattle.std.specs.Prelude.{◌≡◌, ◌≤◌, ◌++◌, ◌⊎◌, ◌↔◌, ⊤, ℕ, List, [], ◌∷◌, length, map, not, filter, All, Contains, Result, Ok, slice_get, Some}
use Rattle.nix_names.specs.Bytes.{Bytes, Dir, Path, Hash}
use Rattle.nix_names.specs.Names.{same_bytes}
use Rattle.nix_drv.specs.Checked.{IsFoundAt}
use Rattle.nix_drv.specs.Derivation.{Drv, Output}
use Rattle.nix_drv.specs.Sources.{Answer}
use Rattle.drv_graph.specs.Expected.{drv_name_of}
use Rattle.drv_graph.specs.declared.kinds.Kind.{Kind}
use Rattle.drv_graph.specs.Nodes.{Node, AreHashes, inputs_of, output_paths_of, paths_of}
use Rattle.drv_graph.specs.Outputs.{IsOutputsCheck, IsThePath}
use Rattle.drv_graph.specs.declared.fault.OutputFault.{OutputFault}
use Rattle.drv_graph.specs.declared.profile.Profile.{Profile}

-- A plan as contracts see it: the profile under which it was loaded, its nodes in plan order, and
-- the numbers of its roots. A node's number is its index, counted from 0.
pub record Graph : Type 0 where
  pub profile : Profile
  pub nodes : List Node
  pub roots : List ℕ

-- a list of steps leads from one path to another
abbrev pub LeadsBy : (Step : (user input : Path) → Type 0) → (from to : Path) → (steps : List Path)
    → Type 0
LeadsBy Step from to [] = from ≡ to
LeadsBy Step from to (next ∷ steps) = Step from next × LeadsBy Step next to steps

-- A path is reached from one of some roots by a list of steps.
pub record IsReachedBy (Step : (user input : Path) → Type 0) (roots : List Path) (path : Path)
    : Type 0 where
  pub root : Path
  pub is_root : Contains roots root
  pub steps : List Path
  pub leads : LeadsBy Step root path steps

-- A step from a user to an input within some nodes.
pub record Uses (nodes : List Node) (from next : Path) : Type 0 where
  pub node : Node
  pub is_node : Contains nodes node
  pub is_from : node.path ≡ from
  pub is_input : Contains (inputs_of node.drv) next

-- A source may give, at a path, the text of a derivation whose own path that is.
pub record MayBeAt (dir : Dir) (gives : Path → Answer → Type 0) (path : Path) (drv : Drv)
    : Type 0 where
  pub bytes : Bytes
  pub given : gives path (Ok bytes)
  pub found : IsFoundAt dir path bytes drv path

-- A step from a user to an input by some answer of the source.
pub record MayUse (dir : Dir) (gives : Path → Answer → Type 0) (from next : Path)
    : Type 0 where
  pub drv : Drv
  pub stands : MayBeAt dir gives from drv
  pub is_input : Contains (inputs_of drv) next

-- *Plan order*: some paths are left in turn, after those that were left before. A path that was
-- left already is passed over. Another is left after its inputs, which are left in its text's
-- order.
pub data AreLeft (nodes : List Node) : (before paths after : List Path) → Type 0 where
  none_left : (before : List Path) → AreLeft nodes before [] before
  passed_over : (path : Path) (before paths after : List Path)
      → Contains before path → AreLeft nodes before paths after
      → AreLeft nodes before (path ∷ paths) after
  left_after_inputs : (node : Node) (before inputs paths after : List Path)
      → Contains nodes node → (Contains before node.path → ⊥)
      → AreLeft nodes before (inputs_of node.drv) inputs → (Contains inputs node.path → ⊥)
      → AreLeft nodes (inputs ++ node.path ∷ []) paths after
      → AreLeft nodes before (node.path ∷ paths) after

-- the nodes have these derivations at these paths, in the paths' order
abbrev pub AreDrvsOf : (nodes : List Node) → (paths : List Path) → List Drv → Type 0
AreDrvsOf nodes [] [] = ⊤
AreDrvsOf nodes [] (drv ∷ drvs) = ⊥
AreDrvsOf nodes (path ∷ paths) [] = ⊥
AreDrvsOf nodes (path ∷ paths) (drv ∷ drvs) = Contains nodes (record { path = path; drv = drv })
    × AreDrvsOf nodes paths drvs

-- What the check of a node's outputs may answer, where the nodes before it have its inputs.
pub record MayAnswer (profile : Profile) (dir : Dir) (before : List Node) (node : Node)
    (answer : Result Kind OutputFault) : Type 0 where
  pub used : List Drv
  pub hashes : List Hash
  pub are_used : AreDrvsOf before (inputs_of node.drv) used
  pub are_hashes : AreHashes before (inputs_of node.drv) hashes
  pub check : IsOutputsCheck IsThePath profile dir
      (drv_name_of node.path) node.drv used hashes answer

-- two derivations share an output's path
abbrev pub ShareOutput : Drv → Drv → Type 0
ShareOutput a b = (x y : Output) × Contains a.outputs x × Contains b.outputs y × (x.path ≡ y.path)

-- two lists have the same paths
abbrev pub HaveSamePaths : (a b : List Path) → Type 0
HaveSamePaths a b = (path : Path) → (Contains a path ↔ Contains b path)

-- *Twins*: two derivations have the same set of output paths
abbrev pub AreTwins : Drv → Drv → Type 0
AreTwins a b = HaveSamePaths (output_paths_of a) (output_paths_of b)

-- *Lawful*: a node's inputs are among the nodes before it, and its outputs are right. It is a twin
-- of each node before it with which it shares an output path.
pub record IsLawful (profile : Profile) (dir : Dir) (before : List Node)
    (node : Node) : Type 0 where
  pub kind : Kind
  pub right : MayAnswer profile dir before node (Ok kind)
  pub apart : (earlier : Node) → Contains before earlier
      → (ShareOutput earlier.drv node.drv → ⊥) ⊎ AreTwins earlier.drv node.drv

-- each node is lawful after the nodes before it
abbrev pub AreLawful : (profile : Profile) → (dir : Dir) → List Node → Type 0
AreLawful profile dir nodes = (before after : List Node) (node : Node)
    → nodes ≡ before ++ node ∷ after
    → IsLawful profile dir before node

-- the paths of a list, each once, where it first stands
abbrev pub each_once : List Path → List Path
each_once [] = []
each_once (x ∷ xs) = x ∷ filter (λ y. not (same_bytes x y)) (each_once xs)

-- the numbers are the numbers of the nodes at these paths, in the paths' order
abbrev pub AreNumbers : List Node → (numbers : List ℕ) → (paths : List Path) → Type 0
AreNumbers nodes numbers paths = map (λ n. slice_get (paths_of nodes) n) numbers ≡ map Some paths

-- The plan of some roots, from a source's answers. The nodes are just the paths reached from a root
-- within the plan, each once.
pub record IsPlan (dir : Dir) (gives : Path → Answer → Type 0) (roots : List Path)
    (graph : Graph) : Type 0 where
  pub given : All (λ (n : Node). MayBeAt dir gives n.path n.drv) graph.nodes
  pub in_order : AreLeft graph.nodes [] roots (paths_of graph.nodes)
  pub reached : (path : Path) → Contains (paths_of graph.nodes) path
      → IsReachedBy (Uses graph.nodes) roots path
  pub whole : (path : Path) → IsReachedBy (Uses graph.nodes) roots path
      → Contains (paths_of graph.nodes) path
  pub lawful : AreLawful graph.profile dir graph.nodes
  pub few : length graph.nodes ≤ 65536
  pub is_roots : AreNumbers graph.nodes graph.roots (each_once roots)
