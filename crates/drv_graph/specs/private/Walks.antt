-- How derivations are walked: depth first, by a list of those that are open, outermost first.
use Rattle.std.specs.Prelude.{◌≡◌, ◌≢◌, ◌↔◌, ◌⊎◌, ◌≤◌, ◌<◌, ⊤, ℕ, List, [], ◌∷◌, ◌++◌, length, map, take, nat_eq, All, Contains, Option, Some, None, Result, Ok, Err, ◌+◌, slice_get}
use Rattle.std.specs.Global.{Vec}
use Rattle.std.specs.Cmp.Lexicographic.{pointwise}
use Rattle.std.specs.List.{IsDistinct}
use Rattle.indexmap.specs.IndexMap.{IndexMap, get, keys}
use Rattle.nix_names.specs.Bytes.{Bytes, Dir, Path, Hash}
use Rattle.nix_drv.specs.Checked.{IsCheck}
use Rattle.nix_drv.specs.Derivation.{Drv}
use Rattle.nix_drv.specs.Sources.{Answer}
use Rattle.nix_drv.specs.declared.fault.DrvFault.{DrvFault}
use Rattle.nix_drv.specs.declared.fault.DrvFault.TheVariants.{NoMemory as NoSpace}
use Rattle.nix_drv.specs.declared.source.SourceFault.TheVariants.{Missing, Device}
use Rattle.drv_graph.specs.Loading.{AreDistinct, IsLoading, max_nodes}
use Rattle.drv_graph.specs.Nodes.{Node, inputs_of, output_paths_of, paths_of}
use Rattle.drv_graph.specs.Plans.{AreLawful, AreLeft, AreNumbers, AreTwins, IsReachedBy, MayAnswer, MayBeAt, MayUse, ShareOutput, each_once}
use Rattle.drv_graph.specs.private.Owners.{AreOwners, outputs_of, owned}
use Rattle.drv_graph.specs.PlanNodes.{AreKept, HasHash, nodes_of}
use Rattle.drv_graph.specs.declared.kinds.Kind.{Kind}
use Rattle.drv_graph.specs.declared.outputs.output_checks.UsedInput.{UsedInput}
use Rattle.drv_graph.specs.declared.fault.GraphFault.{GraphFault}
use Rattle.drv_graph.specs.declared.fault.GraphFault.TheVariants.{NoMemory, At}
use Rattle.drv_graph.specs.declared.fault.NodeFault.{NodeFault}
use Rattle.drv_graph.specs.declared.fault.NodeFault.TheVariants.{Unreadable, TooMany, Text, Cycle, Outputs, OutputClash}
use Rattle.drv_graph.specs.declared.fault.OutputFault.{OutputFault}
use Rattle.drv_graph.specs.declared.fault.OutputFault.TheVariants.{NoMemory as NoRoom}
use Rattle.drv_graph.specs.declared.walks.walk_state.WalkState.{WalkState}
use Rattle.drv_graph.specs.declared.walks.walk_state.Visit.{Visit}
use Rattle.drv_graph.specs.declared.walks.reach.LoadedGraph.{LoadedGraph}
use Rattle.drv_graph.specs.declared.walks.walk.Meeting.{Meeting}
use Rattle.drv_graph.specs.declared.walks.walk.Meeting.TheVariants.{Done, New}
use Rattle.drv_graph.specs.declared.plans.node.PlanNode.{PlanNode}
use Rattle.drv_graph.specs.declared.profile.Profile.{Profile}

-- a path's mark: none where the path wasn't met, one without a number while its derivation is open,
-- and one with its number when that was left
abbrev pub marked : {S : Type 0} → IndexMap Path (Option ℕ) S → Path → Option (Option ℕ)
marked marks = get (pointwise nat_eq) marks

-- This path has this entry now, and each other path has the entry that it had.
pub record SetsEntry {X : Type 0} (before after : Path → Option X) (path : Path) (entry : X)
    : Type 0 where
  pub here : after path ≡ Some entry
  pub others : (other : Path) → other ≢ path → after other ≡ before other

-- The marks are right: of the paths that were left, in their order, and of the open ones.
pub record AreMarks (marks : Path → Option (Option ℕ)) (left pending : List Path)
    : Type 0 where
  pub numbered : (path : Path) (number : ℕ)
      → (marks path ≡ Some (Some number) ↔ slice_get left number ≡ Some path)
  pub is_pending : (path : Path) → (marks path ≡ Some None ↔ Contains pending path)

-- a derivation that is open, as the plan's definition has it
abbrev pub visited : Visit → Node
visited visit = record { path = visit.path; drv = visit.drv }

-- the paths of open derivations
abbrev pub pending_of : List Visit → List Path
pending_of visits = map (λ (v : Visit). v.path) visits

-- What is kept of an open derivation is right: the paths of its inputs, and the numbers of its
-- first inputs, which were left.
pub record IsVisit (nodes : List Node) (visit : Visit) : Type 0 where
  pub inputs : visit.inputs.items ≡ inputs_of visit.drv
  pub numbers : AreNumbers nodes visit.numbers.items
      (take (length visit.numbers.items) (inputs_of visit.drv))

-- an open derivation as it is kept when it is left
abbrev pub kept_visit : Visit → Kind → (hash : Hash) → (outputs sources : Vec Path)
    → (first : ℕ) → PlanNode
kept_visit visit kind hash outputs sources first =
    record {
      path = visit.path;
      drv = visit.drv;
      kind = kind;
      hash = hash;
      inputs = visit.numbers;
      outputs = outputs;
      sources = sources;
      first = first;
    }

-- What a walk found so far is right.
pub record IsWalkSoFar (profile : Profile) (dir : Dir) (found : WalkState) : Type 0 where
  pub kept : AreKept found.nodes.items
  pub distinct : AreDistinct (paths_of (nodes_of found.nodes.items))
  pub lawful : AreLawful profile dir (nodes_of found.nodes.items)
  pub own_outputs : All (λ (n : Node). AreDistinct (output_paths_of n.drv))
      (nodes_of found.nodes.items)
  pub owners : AreOwners (owned found.owners) (outputs_of found.nodes.items)

-- A derivation was left: it is the last node now.
pub record LeavesVisit (profile : Profile) (dir : Dir) (before after : WalkState)
    (visit : Visit) : Type 0 where
  pub nodes : nodes_of after.nodes.items ≡ nodes_of before.nodes.items ++ visited visit ∷ []
  pub found : IsWalkSoFar profile dir after
  pub marks : SetsEntry (marked before.marks) (marked after.marks) visit.path
      (Some (length before.nodes.items))
  pub count : length (keys after.marks) ≡ length (keys before.marks)

-- a fault in leaving a derivation is true of it
abbrev pub IsLeavingFault : (profile : Profile) → (dir : Dir) → (kept : List PlanNode) → Visit
    → GraphFault → Type 0
IsLeavingFault profile dir kept visit NoMemory = ⊤
IsLeavingFault profile dir kept visit (At path (Outputs fault)) = (path ≡ visit.path) ×
    (fault ≢ NoRoom)
    × MayAnswer profile dir (nodes_of kept) (visited visit) (Err fault)
IsLeavingFault profile dir kept visit (At path OutputClash) =
    (path ≡ visit.path)
    × ((kind : Kind) × MayAnswer profile dir (nodes_of kept) (visited visit) (Ok kind))
    × ((other : Node) × Contains (nodes_of kept) other × ShareOutput other.drv visit.drv
    × (AreTwins other.drv visit.drv → ⊥))
IsLeavingFault profile dir kept visit fault = ⊥

-- what leaving an open derivation answers
abbrev pub IsLeaving : (profile : Profile) → (dir : Dir) → (before after : WalkState) → Visit
    → Result ⊤ GraphFault
    → Type 0
IsLeaving profile dir before after visit (Ok _) = LeavesVisit profile dir before after visit
IsLeaving profile dir before after visit
    (Err fault) = IsLeavingFault profile dir before.nodes.items visit fault

-- An input, with its path, its derivation and its modulo hash, is the derivation with this number.
pub record IsUsed (kept : List PlanNode) (number : ℕ) (used : UsedInput) : Type 0 where
  pub node : PlanNode
  pub is_node : slice_get kept number ≡ Some node
  pub path : used.path.now ≡ node.path
  pub drv : used.drv.now ≡ node.drv
  pub hash : used.hash ≡ node.hash

-- what the check of an open derivation's outputs answers: their kind, and the derivation's modulo
-- hash
abbrev pub IsOutputsChecking : (profile : Profile) → (dir : Dir) → (kept : List PlanNode) → Visit
    → Result (Kind × Hash) GraphFault → Type 0
IsOutputsChecking profile dir kept visit (Ok made) =
    MayAnswer profile dir (nodes_of kept) (visited visit) (Ok made.0)
    × HasHash (nodes_of kept) visit.drv made.0 made.1
IsOutputsChecking profile dir kept visit (Err fault) = IsLeavingFault profile dir kept visit fault

-- this fault at this path, or refused memory
abbrev pub IsFaultAt : (path : Path) → NodeFault → GraphFault → Type 0
IsFaultAt path fault NoMemory = ⊤
IsFaultAt path fault (At at found) = (at ≡ path) × (found ≡ fault)
IsFaultAt path fault other = ⊥

-- what a fault of the outputs at a path becomes; refused memory has no path
abbrev pub IsOutputFaultAt : (path : Path) → OutputFault → GraphFault → Type 0
IsOutputFaultAt path fault NoMemory = fault ≡ NoRoom
IsOutputFaultAt path fault (At at found) = (at ≡ path) × (found ≡ Outputs fault) × (fault ≢ NoRoom)
IsOutputFaultAt path fault other = ⊥

-- what a fault of the text at a path becomes; refused memory has no path
abbrev pub IsTextFaultAt : (path : Path) → DrvFault → GraphFault → Type 0
IsTextFaultAt path fault NoMemory = fault ≡ NoSpace
IsTextFaultAt path fault (At at found) = (at ≡ path) × (found ≡ Text fault) × (fault ≢ NoSpace)
IsTextFaultAt path fault other = ⊥

-- a fault in reading the derivation at a path is true of it; `count` paths were met before
abbrev pub IsReadingFault : (dir : Dir) → (gives : Path → Answer → Type 0) → (path : Path)
    → (count : ℕ) → GraphFault → Type 0
IsReadingFault dir gives path count NoMemory = ⊤
IsReadingFault dir gives path count (At at Unreadable) = (at ≡ path)
    × (gives path (Err Missing) ⊎ gives path (Err Device))
IsReadingFault dir gives path count (At at TooMany) = (at ≡ path)
    × ((bytes : Bytes) × gives path (Ok bytes)) × (max_nodes ≤ count)
IsReadingFault dir gives path count (At at (Text fault)) = (at ≡ path) × (fault ≢ NoSpace)
    × (count < max_nodes)
    × ((bytes : Bytes) × gives path (Ok bytes) × IsCheck dir path bytes (Err fault))
IsReadingFault dir gives path count fault = ⊥

-- what fetching the bytes at a path answers
abbrev pub IsFetching : (gives : Answer → Type 0) → (path : Path) → Result (Vec ℕ) GraphFault
    → Type 0
IsFetching gives path (Ok bytes) = gives (Ok bytes.items)
IsFetching gives path (Err NoMemory) = ⊤
IsFetching gives path (Err (At at Unreadable)) = (at ≡ path)
    × (gives (Err Missing) ⊎ gives (Err Device))
IsFetching gives path result = ⊥

-- what reading the derivation at a path answers; `count` paths were met before
abbrev pub IsReadingOf : (dir : Dir) → (gives : Path → Answer → Type 0) → (path : Path)
    → (count : ℕ) → Result Drv GraphFault → Type 0
IsReadingOf dir gives path count (Ok drv) = MayBeAt dir gives path drv × (count < max_nodes)
IsReadingOf dir gives path count (Err fault) = IsReadingFault dir gives path count fault

-- A derivation was opened, and its path is marked as open.
pub record Opens {S : Type 0} (dir : Dir) (gives : Path → Answer → Type 0)
    (before after : IndexMap Path (Option ℕ) S) (path : Path) (visit : Visit) : Type 0 where
  pub is_path : visit.path ≡ path
  pub stands : MayBeAt dir gives path visit.drv
  pub inputs : visit.inputs.items ≡ inputs_of visit.drv
  pub none : visit.numbers.items ≡ []
  pub room : length (keys before) < max_nodes
  pub marks : SetsEntry (marked before) (marked after) path None
  pub is_new : marked before path ≡ None
  pub count : length (keys after) ≡ length (keys before) + 1

-- what opening the derivation at a path answers
abbrev pub IsOpening : {S : Type 0} → (dir : Dir) → (gives : Path → Answer → Type 0)
    → (before after : IndexMap Path (Option ℕ) S) → (path : Path) → Result Visit GraphFault
    → Type 0
IsOpening dir gives before after path (Ok visit) = Opens dir gives before after path visit
IsOpening dir gives before after path (Err fault) =
    IsReadingFault dir gives path (length (keys before)) fault × AreDistinct (keys before)

-- a fault in meeting a path is true of it
abbrev pub IsMeetingFault : {S : Type 0} → (dir : Dir) → (gives : Path → Answer → Type 0)
    → (before : IndexMap Path (Option ℕ) S) → (path : Path) → GraphFault → Type 0
IsMeetingFault dir gives before path fault =
    (IsFaultAt path Cycle fault × (marked before path ≡ Some None))
    ⊎ (IsReadingFault dir gives path (length (keys before)) fault × (marked before path ≡ None)
    × AreDistinct (keys before))

-- what meeting a path answers: its number where it was left, or the derivation that is opened for
-- it
abbrev pub IsMeeting : {S : Type 0} → (dir : Dir) → (gives : Path → Answer → Type 0)
    → (before after : IndexMap Path (Option ℕ) S) → (path : Path) → Result Meeting GraphFault
    → Type 0
IsMeeting dir gives before after path (Ok (Done number)) = (after ≡ before)
    × (marked before path ≡ Some (Some number))
IsMeeting dir gives before after path (Ok (New visit)) = Opens dir gives before after path visit
IsMeeting dir gives before after path (Err fault) = IsMeetingFault dir gives before path fault

-- The next input of an open derivation was left before: its number is added.
pub record Advances {S : Type 0} (before after : IndexMap Path (Option ℕ) S)
    (visit next : Visit) : Type 0 where
  pub input : Path
  pub number : ℕ
  pub is_input : slice_get visit.inputs.items (length visit.numbers.items) ≡ Some input
  pub is_number : marked before input ≡ Some (Some number)
  pub marks : after ≡ before
  pub path : next.path ≡ visit.path
  pub drv : next.drv ≡ visit.drv
  pub inputs : next.inputs ≡ visit.inputs
  pub numbers : next.numbers.items ≡ visit.numbers.items ++ number ∷ []

-- The next input of an open derivation is opened.
pub record Descends {S : Type 0} (dir : Dir) (gives : Path → Answer → Type 0)
    (before after : IndexMap Path (Option ℕ) S) (visit next child : Visit) : Type 0 where
  pub input : Path
  pub is_input : slice_get visit.inputs.items (length visit.numbers.items) ≡ Some input
  pub opens : Opens dir gives before after input child
  pub same : next ≡ visit

-- A fault is true of the next input of an open derivation.
pub record IsInputFault {S : Type 0} (dir : Dir) (gives : Path → Answer → Type 0)
    (before : IndexMap Path (Option ℕ) S) (visit : Visit) (fault : GraphFault) : Type 0 where
  pub input : Path
  pub is_input : slice_get visit.inputs.items (length visit.numbers.items) ≡ Some input
  pub is_true : IsMeetingFault dir gives before input fault

-- what meeting the next input of an open derivation answers: the derivation that is opened for it,
-- if any
abbrev pub IsStepping : {S : Type 0} → (dir : Dir) → (gives : Path → Answer → Type 0)
    → (before after : IndexMap Path (Option ℕ) S) → (visit next : Visit)
    → Result (Option Visit) GraphFault → Type 0
IsStepping dir gives before after visit next (Ok None) = Advances before after visit next
IsStepping dir gives before after visit next (Ok (Some child)) =
    Descends dir gives before after visit next child
IsStepping dir gives before after visit next (Err fault) = (fault ≡ NoMemory)
    ⊎ IsInputFault dir gives before visit fault

-- all inputs of an open derivation were left
abbrev pub HasAllNumbers : Visit → Type 0
HasAllNumbers visit = length visit.inputs.items ≤ length visit.numbers.items

-- No derivation was left.
pub record LeavesNone (before after : WalkState) : Type 0 where
  pub nodes : after.nodes ≡ before.nodes
  pub owners : after.owners ≡ before.owners

-- what going on with the innermost open derivation answers; the others, outermost first, stay below
-- it
abbrev pub IsGoingOn : (profile : Profile) → (dir : Dir) → (gives : Path → Answer → Type 0)
    → (before after : WalkState)
    → (below : List Visit) → (visit : Visit) → (visits : List Visit) → Result ⊤ GraphFault → Type 0
IsGoingOn profile dir gives before after below visit visits (Ok _) =
    (HasAllNumbers visit × LeavesVisit profile dir before after visit × (visits ≡ below))
    ⊎ ((next : Visit) × LeavesNone before after × Advances before.marks after.marks visit next
    × (visits ≡ below ++ next ∷ []))
    ⊎ ((child : Visit) × LeavesNone before after
    × Descends dir gives before.marks after.marks visit visit child
    × (visits ≡ (below ++ visit ∷ []) ++ child ∷ []))
IsGoingOn profile dir gives before after below visit visits (Err fault) =
    (fault ≡ NoMemory) ⊎
    (HasAllNumbers visit × IsLeavingFault profile dir before.nodes.items visit fault)
    ⊎ IsInputFault dir gives before.marks visit fault

-- What was left and what is open is right: the source may give it, and the roots reach it.
pub record IsWalked (profile : Profile) (dir : Dir) (gives : Path → Answer → Type 0)
    (roots : List Path)
    (found : WalkState) (pending : List Path) : Type 0 where
  pub right : IsWalkSoFar profile dir found
  pub given : All (λ (n : Node). MayBeAt dir gives n.path n.drv) (nodes_of found.nodes.items)
  pub reached : All (IsReachedBy (MayUse dir gives) roots) (paths_of (nodes_of found.nodes.items))
  pub marks : AreMarks (marked found.marks) (paths_of (nodes_of found.nodes.items)) pending
  pub count : length (keys found.marks) ≡ length found.nodes.items + length pending
  pub few : length (keys found.marks) ≤ max_nodes

-- These paths, and all that they reach, are left after others, in plan order.
pub record LeavesInOrder (before after : List Node) (paths : List Path) : Type 0 where
  pub more : List Node
  pub grown : after ≡ before ++ more
  pub in_order : (nodes : List Node) → All (Contains nodes) after
      → AreLeft nodes (paths_of before) paths (paths_of after)

-- A root and all that it reaches are left.
pub record IsVisited (profile : Profile) (dir : Dir) (gives : Path → Answer → Type 0)
    (roots : List Path)
    (root : Path) (before after : WalkState) (number : ℕ) : Type 0 where
  pub walked : IsWalked profile dir gives roots after []
  pub in_order : LeavesInOrder (nodes_of before.nodes.items) (nodes_of after.nodes.items)
      (root ∷ [])
  pub is_number : slice_get (paths_of (nodes_of after.nodes.items)) number ≡ Some root

-- what walking from a root answers
abbrev pub IsWalking : (profile : Profile) → (dir : Dir) → (gives : Path → Answer → Type 0)
    → (roots : List Path)
    → (root : Path) → (before after : WalkState) → Result ℕ GraphFault → Type 0
IsWalking profile dir gives roots root before after (Ok number) =
    IsVisited profile dir gives roots root before after number
IsWalking profile dir gives roots root before after (Err fault) = IsLoading profile dir gives roots
    (Err fault)

-- nothing was met
abbrev pub IsEmptyWalk : WalkState → Type 0
IsEmptyWalk found = (found.nodes.items ≡ []) × (found.marks.entries ≡ [])
    × (found.owners.entries ≡ [])

-- All that roots reach was left, in plan order, and these are the roots' numbers.
pub record IsReachedAll (profile : Profile) (dir : Dir) (gives : Path → Answer → Type 0)
    (roots : List Path)
    (found : WalkState) (numbers : List ℕ) : Type 0 where
  pub walked : IsWalked profile dir gives roots found []
  pub in_order : (nodes : List Node) → All (Contains nodes) (nodes_of found.nodes.items)
      → AreLeft nodes [] roots (paths_of (nodes_of found.nodes.items))
  pub are_numbers : AreNumbers (nodes_of found.nodes.items) numbers (each_once roots)
  pub once : IsDistinct nat_eq numbers

-- what walking from all roots answers
abbrev pub IsWalkingAll : (profile : Profile) → (dir : Dir) → (gives : Path → Answer → Type 0)
    → (roots : List Path) → Result LoadedGraph GraphFault → Type 0
IsWalkingAll profile dir gives roots
    (Ok reached) = IsReachedAll profile dir gives roots reached.found
    reached.roots.keys
IsWalkingAll profile dir gives roots (Err fault) = IsLoading profile dir gives roots (Err fault)
