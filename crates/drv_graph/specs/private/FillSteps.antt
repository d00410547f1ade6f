-- What the steps of filling a draft answer.
use Rattle.std.specs.Prelude.{◌≡◌, ◌≢◌, ◌<◌, ◌≤◌, ◌⊎◌, ℕ, List, length, All, IsTrue, Vec, Ok, Err}
use Rattle.std.specs.declared.alloc.Global.{Global}
use Rattle.nix_names.specs.Bytes.{Bytes, Dir, Path, Name, Hash}
use Rattle.nix_names.specs.Names.{is_name}
use Rattle.nix_names.specs.StorePaths.{IsPathOf}
use Rattle.nix_drv.specs.Checked.{IsFirstStray}
use Rattle.nix_drv.specs.Derivation.{Drv, IsDrvText}
use Rattle.nix_drv.specs.Outcome.{max_len}
use Rattle.nix_drv.specs.OwnPath.{referenced_paths, text_path}
use Rattle.nix_drv.specs.References.{IsReferencesOf}
use Rattle.nix_drv.specs.declared.fault.DrvFault.TheVariants.{TooLong, BadReference}
use Rattle.drv_graph.specs.private.Checking.{AreExpected}
use Rattle.drv_graph.specs.Expected.{IsExpected}
use Rattle.drv_graph.specs.Filling.{AreNames, IsFilled, file_name}
use Rattle.drv_graph.specs.Nodes.{AreHashes, Node, inputs_of}
use Rattle.drv_graph.specs.Outputs.{IsOutputsCheck, IsThePathOrEmpty}
use Rattle.drv_graph.specs.Plans.{AreDrvsOf}
use Rattle.drv_graph.specs.declared.fault.GraphFault.{GraphFault}
use Rattle.drv_graph.specs.declared.fault.GraphFault.TheVariants.{NoMemory, Draft, Name as NoName}
use Rattle.drv_graph.specs.declared.fault.NodeFault.TheVariants.{Text, Outputs}
use Rattle.drv_graph.specs.declared.fault.OutputFault.{OutputFault}
use Rattle.drv_graph.specs.declared.fault.OutputFault.TheVariants.{NoMemory as NoRoom}
use Rattle.drv_graph.specs.declared.drafts.fill.Target.{Target}
use Rattle.drv_graph.specs.declared.kinds.Kind.{Kind}
use Rattle.drv_graph.specs.declared.profile.Profile.{Profile}

-- the name, or the name of its file, is no name of a store path; or memory was refused for the name
-- of the file
abbrev pub IsNameRefused : (name : Name) → GraphFault → Type 0
IsNameRefused name fault = ((fault ≡ NoMemory) × IsTrue (is_name name))
    ⊎ ((fault ≡ NoName) × (AreNames name → ⊥))

-- the fault has the first of the paths that isn't in the folder, or memory was refused
abbrev pub IsStrayRefused : (dir : Dir) → (paths : List Path) → GraphFault → Type 0
IsStrayRefused dir paths fault = (fault ≡ NoMemory)
    ⊎ ((text : Vec ℕ Global) × (fault ≡ Draft (Text (BadReference text)))
    × IsFirstStray dir paths text.items)

-- What is known of the file of a filled derivation before the draft is filled: its name and its
-- references.
pub record IsTarget (dir : Dir) (name : Name) (draft : Drv) (target : Target) : Type 0 where
  pub names : AreNames name
  pub file : target.file.items ≡ file_name name
  pub in_store : All (IsPathOf dir) (referenced_paths draft)
  pub refs : IsReferencesOf (referenced_paths draft) target.refs.items

-- the name is refused; or the names are right, and a reference is refused
abbrev pub IsTargetRefused : (dir : Dir) → (name : Name) → Drv → GraphFault → Type 0
IsTargetRefused dir name draft fault = IsNameRefused name fault
    ⊎ (AreNames name × IsStrayRefused dir (referenced_paths draft) fault)

-- Among some nodes, these are the derivations of a draft's inputs and their modulo hashes.
pub record AreUsed (nodes : List Node) (draft : Drv) (used : List Drv) (hashes : List Hash)
    : Type 0 where
  pub are_used : AreDrvsOf nodes (inputs_of draft) used
  pub are_hashes : AreHashes nodes (inputs_of draft) hashes

-- the outputs of a draft are right, and their expected paths are these
abbrev pub AreDraftPaths : (profile : Profile) → (dir : Dir) → (name : Name) → Drv
    → (used : List Drv)
    → (hashes : List Hash) → (paths : List Path) → Type 0
AreDraftPaths profile dir name draft used hashes paths =
    (kind : Kind) × IsOutputsCheck IsThePathOrEmpty profile dir name draft used hashes (Ok kind)
    × AreExpected dir name kind draft hashes paths

-- something is wrong with the outputs of a draft, or memory was refused
abbrev pub AreOutputsRefused : (profile : Profile) → (dir : Dir) → (name : Name) → Drv
    → (used : List Drv)
    → (hashes : List Hash) → GraphFault → Type 0
AreOutputsRefused profile dir name draft used hashes fault =
    (fault ≡ NoMemory)
    ⊎ ((of : OutputFault) × (fault ≡ Draft (Outputs of)) × (of ≢ NoRoom)
    × IsOutputsCheck IsThePathOrEmpty profile dir name draft used hashes (Err of))

-- A draft whose inputs are among some nodes is filled.
pub record IsFilledAfter (profile : Profile) (dir : Dir) (name : Name) (nodes : List Node)
    (draft filled : Drv)
    : Type 0 where
  pub used : List Drv
  pub hashes : List Hash
  pub basis : AreUsed nodes draft used hashes
  pub kind : Kind
  pub right : IsOutputsCheck IsThePathOrEmpty profile dir name draft used hashes (Ok kind)
  pub filled_is : IsFilled (IsExpected dir name kind draft hashes) draft filled

-- something is wrong with the outputs of a draft whose inputs are among some nodes, or memory was
-- refused
abbrev pub IsFillRefused : (profile : Profile) → (dir : Dir) → (name : Name) → (nodes : List Node)
    → Drv → GraphFault
    → Type 0
IsFillRefused profile dir name nodes draft fault =
    (fault ≡ NoMemory)
    ⊎ ((used : List Drv) × (hashes : List Hash) × AreUsed nodes draft used hashes
    × AreOutputsRefused profile dir name draft used hashes fault)

-- the text of a derivation has too many bytes, or memory was refused
abbrev pub IsTextRefused : Drv → GraphFault → Type 0
IsTextRefused drv fault = (fault ≡ NoMemory)
    ⊎ ((fault ≡ Draft (Text TooLong))
    × ((bytes : Bytes) × IsDrvText drv bytes × (max_len < length bytes)))

-- The path of a derivation's text, by the name of its file and by its references.
pub record IsTextPath (dir : Dir) (file : Name) (refs : List Path) (drv : Drv) (path : Path)
    : Type 0 where
  pub bytes : Bytes
  pub is_text : IsDrvText drv bytes
  pub within : length bytes ≤ max_len
  pub is_path : path ≡ text_path dir file bytes refs
