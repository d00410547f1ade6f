-- What `fill_outputs_as` answers: a draft in which each empty output path is replaced by the
-- expected path (Nix manual, "Store Derivation"; keeping values that are right already is this
-- product's own).
use Rattle.std.specs.Prelude.{◌≡◌, ◌≢◌, ◌<◌, ◌≤◌, ◌++◌, List, length, codes, Contains, IsTrue, Result, Ok, Err}
use Rattle.std.specs.List.{AllZip}
use Rattle.nix_names.specs.Bytes.{Bytes, Dir, Path, Name, Hash}
use Rattle.nix_names.specs.Names.{is_name}
use Rattle.nix_drv.specs.Checked.{IsFirstStray}
use Rattle.nix_drv.specs.Derivation.{Drv, EnvEntry, IsDrvText, Output}
use Rattle.nix_drv.specs.Outcome.{max_len}
use Rattle.nix_drv.specs.OwnPath.{IsOwnPath, referenced_paths}
use Rattle.nix_drv.specs.Sources.{Answer}
use Rattle.nix_drv.specs.declared.fault.DrvFault.TheVariants.{TooLong, BadReference}
use Rattle.drv_graph.specs.Expected.{IsExpected}
use Rattle.drv_graph.specs.declared.kinds.Kind.{Kind}
use Rattle.drv_graph.specs.Loading.{IsTrueAt}
use Rattle.drv_graph.specs.Modulo.{names_of}
use Rattle.drv_graph.specs.Nodes.{AreHashes, inputs_of}
use Rattle.drv_graph.specs.Outputs.{IsOutputsCheck, IsThePathOrEmpty}
use Rattle.drv_graph.specs.Plans.{AreDrvsOf, Graph, IsPlan, IsReachedBy, MayUse}
use Rattle.drv_graph.specs.declared.fault.GraphFault.{GraphFault}
use Rattle.drv_graph.specs.declared.fault.GraphFault.TheVariants.{NoMemory, At, Draft, Name as NoName}
use Rattle.drv_graph.specs.declared.fault.NodeFault.{NodeFault}
use Rattle.drv_graph.specs.declared.fault.NodeFault.TheVariants.{Text, Outputs}
use Rattle.drv_graph.specs.declared.fault.OutputFault.TheVariants.{NoMemory as NoRoom}
use Rattle.drv_graph.specs.declared.profile.Profile.{Profile}

-- An output with its expected path; only an empty path is changed.
pub record IsFilledOutput (Expected : Output → Path → Type 0) (draft filled : Output)
    : Type 0 where
  pub name : filled.name ≡ draft.name
  pub algo : filled.algo ≡ draft.algo
  pub hash : filled.hash ≡ draft.hash
  pub expected : Expected draft filled.path
  pub kept : IsThePathOrEmpty draft.path filled.path

-- An entry of the environment. Under an output's name its value is that output's path, and only an
-- empty value is changed. Under another name the value is as it was.
pub record IsFilledEntry (outputs : List Output) (draft filled : EnvEntry) : Type 0 where
  pub key : filled.key ≡ draft.key
  pub named : (output : Output) → Contains outputs output → output.name ≡ draft.key
      → (filled.value ≡ output.path) × IsThePathOrEmpty draft.value output.path
  pub other : (Contains (names_of outputs) draft.key → ⊥) → filled.value ≡ draft.value

-- A draft with its outputs' expected paths where it has none, and nothing else changed.
pub record IsFilled (Expected : Output → Path → Type 0) (draft filled : Drv) : Type 0 where
  pub outputs : AllZip (IsFilledOutput Expected) draft.outputs filled.outputs
  pub inputs : filled.inputs ≡ draft.inputs
  pub sources : filled.sources ≡ draft.sources
  pub system : filled.system ≡ draft.system
  pub builder : filled.builder ≡ draft.builder
  pub args : filled.args ≡ draft.args
  pub env : AllZip (IsFilledEntry filled.outputs) draft.env filled.env

-- the name of the file of the derivation with this name
abbrev pub file_name : Name → Name
file_name name = name ++ codes ".drv"

-- the name, and the name of its file, are names of store paths
abbrev pub AreNames : Name → Type 0
AreNames name = IsTrue (is_name name) × IsTrue (is_name (file_name name))

-- A plan of a draft's inputs under a profile, by answers that the source may give, and the
-- derivations and the modulo hashes of these inputs.
pub record MayFill (profile : Profile) (dir : Dir) (gives : Path → Answer → Type 0) (name : Name)
    (draft : Drv)
    : Type 0 where
  pub graph : Graph
  pub is_plan : IsPlan dir gives (inputs_of draft) graph
  pub is_under : graph.profile ≡ profile
  pub used : List Drv
  pub hashes : List Hash
  pub are_used : AreDrvsOf graph.nodes (inputs_of draft) used
  pub are_hashes : AreHashes graph.nodes (inputs_of draft) hashes

-- The filled derivation of a draft, and its text.
pub record IsFilledText (profile : Profile) (dir : Dir) (gives : Path → Answer → Type 0)
    (name : Name)
    (draft filled : Drv) (bytes : Bytes) : Type 0 where
  pub basis : MayFill profile dir gives name draft
  pub kind : Kind
  pub right : IsOutputsCheck IsThePathOrEmpty profile dir name draft basis.used basis.hashes
      (Ok kind)
  pub filled_is : IsFilled (IsExpected dir name kind draft basis.hashes) draft filled
  pub is_text : IsDrvText filled bytes

-- a draft's references are all paths of the folder
abbrev pub AreInStore : (dir : Dir) → Drv → Type 0
AreInStore dir draft = (text : Bytes) → IsFirstStray dir (referenced_paths draft) text → ⊥

-- the fault is true of the draft, or of its filled text
abbrev pub IsTrueOfDraft : (profile : Profile) → (dir : Dir) → (gives : Path → Answer → Type 0)
    → (name : Name)
    → Drv → NodeFault → Type 0
IsTrueOfDraft profile dir gives name draft (Text (BadReference text)) =
    IsFirstStray dir (referenced_paths draft) text.items
IsTrueOfDraft profile dir gives name draft (Text TooLong) = AreInStore dir draft
    × ((filled : Drv) × (bytes : Bytes) × IsFilledText profile dir gives name draft filled bytes
    × (max_len < length bytes))
IsTrueOfDraft profile dir gives name draft (Outputs fault) =
    AreInStore dir draft × (fault ≢ NoRoom)
    × ((basis : MayFill profile dir gives name draft)
    × IsOutputsCheck IsThePathOrEmpty profile dir name draft basis.used basis.hashes (Err fault))
IsTrueOfDraft profile dir gives name draft fault = ⊥

-- What filling a draft under a name answers: the filled derivation with the path of its text, or
-- the first fault in this order: of the name, of the draft's references, of its inputs, of its
-- outputs, of its filled text. `NoMemory` comes only where `name` is a name of a store path.
abbrev pub IsFilling : (profile : Profile) → (dir : Dir) → (gives : Path → Answer → Type 0)
    → (name : Name) → Drv
    → Result (Drv × Path) GraphFault → Type 0
IsFilling profile dir gives name draft (Ok made) =
    AreNames name × AreInStore dir draft
    × ((bytes : Bytes) × IsFilledText profile dir gives name draft made.0 bytes × (length bytes ≤
    max_len)
    × IsOwnPath dir (file_name name) made.0 bytes made.1)
IsFilling profile dir gives name draft (Err NoName) = AreNames name → ⊥
IsFilling profile dir gives name draft (Err (At path fault)) =
    AreNames name × AreInStore dir draft × IsReachedBy (MayUse dir gives) (inputs_of draft) path
    × IsTrueAt profile dir gives (inputs_of draft) path fault
IsFilling profile dir gives name draft (Err (Draft fault)) = AreNames name
    × IsTrueOfDraft profile dir gives name draft fault
IsFilling profile dir gives name draft (Err NoMemory) = IsTrue (is_name name)
