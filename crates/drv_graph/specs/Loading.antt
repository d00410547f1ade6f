-- What `Plan::load_as` answers: the plan of the roots, or a fault that is true of the path that it
-- names (the faults are this product's own).
use Rattle.std.specs.Prelude.{◌≡◌, ◌≢◌, ◌⊎◌, ◌<◌, ⊤, ℕ, List, length, nat_eq, All, Contains, Result, Ok, Err}
use Rattle.std.specs.Cmp.Lexicographic.{pointwise}
use Rattle.std.specs.List.{IsDistinct}
use Rattle.nix_names.specs.Bytes.{Bytes, Dir, Path}
use Rattle.nix_drv.specs.Checked.{IsCheck}
use Rattle.nix_drv.specs.Derivation.{Drv}
use Rattle.nix_drv.specs.Sources.{Answer, most_failures}
use Rattle.nix_drv.specs.declared.fault.DrvFault.TheVariants.{NoMemory as NoSpace}
use Rattle.nix_drv.specs.declared.source.SourceFault.TheVariants.{Missing, Device}
use Rattle.drv_graph.specs.Nodes.{Node, paths_of}
use Rattle.drv_graph.specs.Plans.{AreLawful, AreTwins, Graph, IsPlan, IsReachedBy, LeadsBy, MayAnswer, MayBeAt, MayUse, ShareOutput}
use Rattle.drv_graph.specs.declared.fault.GraphFault.{GraphFault}
use Rattle.drv_graph.specs.declared.fault.GraphFault.TheVariants.{NoMemory, At}
use Rattle.drv_graph.specs.declared.fault.NodeFault.{NodeFault}
use Rattle.drv_graph.specs.declared.fault.NodeFault.TheVariants.{Unreadable, TooMany, Text, Cycle, Outputs, OutputClash}
use Rattle.drv_graph.specs.declared.fault.OutputFault.{OutputFault}
use Rattle.drv_graph.specs.declared.kinds.Kind.{Kind}
use Rattle.drv_graph.specs.declared.fault.OutputFault.TheVariants.{NoMemory as NoRoom}
use Rattle.drv_graph.specs.declared.profile.Profile.{Profile}

-- the greatest number of derivations in a plan
abbrev pub max_nodes : ℕ
max_nodes = 65536

-- no two of the paths are the same
abbrev pub AreDistinct : List Path → Type 0
AreDistinct paths = IsDistinct (pointwise nat_eq) paths

-- The roots reach more paths than a plan may have derivations.
pub record ReachTooMany (Step : (user input : Path) → Type 0) (roots : List Path) : Type 0 where
  pub paths : List Path
  pub distinct : AreDistinct paths
  pub many : max_nodes < length paths
  pub reached : All (IsReachedBy Step roots) paths

-- A path is reached from itself.
pub record IsOnCycle (Step : (user input : Path) → Type 0) (path : Path) : Type 0 where
  pub user : Path
  pub steps : List Path
  pub leads : LeadsBy Step path user steps
  pub closes : Step user path

-- What the check of the outputs of the derivation at a path may answer. Its inputs are among other
-- nodes: the source may give these, they are lawful, and with this one they are within the limit.
pub record MayCheck (profile : Profile) (dir : Dir) (gives : Path → Answer → Type 0) (path : Path)
    (answer : Result Kind OutputFault) : Type 0 where
  pub drv : Drv
  pub stands : MayBeAt dir gives path drv
  pub nodes : List Node
  pub distinct : AreDistinct (paths_of nodes)
  pub given : All (λ (n : Node). MayBeAt dir gives n.path n.drv) nodes
  pub lawful : AreLawful profile dir nodes
  pub few : length nodes < max_nodes
  pub check : MayAnswer profile dir nodes (record { path = path; drv = drv }) answer

-- The outputs of the derivation at the path are right, but it shares an output path with another
-- derivation. That one is reached too, was checked before, and isn't its twin.
pub record Clashes (profile : Profile) (dir : Dir) (gives : Path → Answer → Type 0)
    (roots : List Path)
    (path : Path) : Type 0 where
  pub kind : Kind
  pub checked : MayCheck profile dir gives path (Ok kind)
  pub earlier : Node
  pub is_earlier : Contains checked.nodes earlier
  pub reached : IsReachedBy (MayUse dir gives) roots earlier.path
  pub differs : earlier.path ≢ path
  pub shares : ShareOutput earlier.drv checked.drv
  pub no_twin : AreTwins earlier.drv checked.drv → ⊥

-- the fault is true of the path, by answers that the source may give
abbrev pub IsTrueAt : (profile : Profile) → (dir : Dir) → (gives : Path → Answer → Type 0)
    → (roots : List Path)
    → (path : Path) → NodeFault → Type 0
IsTrueAt profile dir gives roots path Unreadable = gives path (Err Missing) ⊎ gives path
    (Err Device)
IsTrueAt profile dir gives roots path TooMany = ((bytes : Bytes) × gives path (Ok bytes))
    × ReachTooMany (MayUse dir gives) roots
IsTrueAt profile dir gives roots path (Text fault) = (fault ≢ NoSpace)
    × ((bytes : Bytes) × gives path (Ok bytes) × IsCheck dir path bytes (Err fault))
IsTrueAt profile dir gives roots path Cycle = IsOnCycle (MayUse dir gives) path
IsTrueAt profile dir gives roots path (Outputs fault) = (fault ≢ NoRoom)
    × MayCheck profile dir gives path (Err fault)
IsTrueAt profile dir gives roots path OutputClash = Clashes profile dir gives roots path

-- what loading some roots under a profile answers
abbrev pub IsLoading : (profile : Profile) → (dir : Dir) → (gives : Path → Answer → Type 0)
    → (roots : List Path)
    → Result Graph GraphFault → Type 0
IsLoading profile dir gives roots (Ok graph) = IsPlan dir gives roots graph ×
    (graph.profile ≡ profile)
IsLoading profile dir gives roots (Err (At path fault)) = IsReachedBy (MayUse dir gives) roots path
    × IsTrueAt profile dir gives roots path fault
IsLoading profile dir gives roots (Err NoMemory) = ⊤
IsLoading profile dir gives roots result = ⊥

-- the count of the device's failures rose, or is the greatest count
abbrev pub HasRisen : (before after : ℕ) → Type 0
HasRisen before after = (before < after) ⊎ (after ≡ most_failures)

-- a derivation that could not be read is missing; or the device failed at it, and that was counted
abbrev pub IsCountedFault : (gives : Path → Answer → Type 0) → (before after : ℕ) → GraphFault
    → Type 0
IsCountedFault gives before after (At path Unreadable) = gives path (Err Missing)
    ⊎ (gives path (Err Device) × HasRisen before after)
IsCountedFault gives before after fault = ⊤
