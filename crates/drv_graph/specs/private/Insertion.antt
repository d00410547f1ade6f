-- Paths put into a draft where it has none.
use Rattle.std.specs.Prelude.{◌≡◌, ℕ, List, [], ◌∷◌, Contains, slice_get, Some}
use Rattle.std.specs.List.{AllZip}
use Rattle.nix_names.specs.Bytes.{Bytes, Path, Name}
use Rattle.nix_drv.specs.Derivation.{Drv, EnvEntry, Output}
use Rattle.drv_graph.specs.Modulo.{names_of}

-- a value, or the path where the value is empty
abbrev pub inserted : (value : Bytes) → (path : Path) → Bytes
inserted [] path = path
inserted (byte ∷ bytes) path = byte ∷ bytes

-- an output with this path, where its own is empty
abbrev pub inserted_output : Output → (path : Path) → Output
inserted_output output path = record {
  name = output.name;
  path = inserted output.path path;
  algo = output.algo;
  hash = output.hash;
}

-- outputs with these paths, where their own are empty; outputs after the last path stay as they are
abbrev pub inserted_outputs : List Output → (paths : List Path) → List Output
inserted_outputs outputs [] = outputs
inserted_outputs [] (path ∷ paths) = []
inserted_outputs (output ∷ outputs) (path ∷ paths) = inserted_output output path
    ∷ inserted_outputs outputs paths

-- An entry under one of the names has the path at that name's index, where its value was empty.
-- Another entry is as it was.
pub record IsInsertedEntry (names : List Name) (paths : List Path) (draft filled : EnvEntry)
    : Type 0 where
  pub key : filled.key ≡ draft.key
  pub named : (index : ℕ) (path : Path) → slice_get names index ≡ Some draft.key
      → slice_get paths index ≡ Some path → filled.value ≡ inserted draft.value path
  pub other : (Contains names draft.key → ⊥) → filled.value ≡ draft.value

-- A draft with these paths, one for each output, where it has none.
pub record IsInserted (paths : List Path) (draft filled : Drv) : Type 0 where
  pub outputs : filled.outputs ≡ inserted_outputs draft.outputs paths
  pub inputs : filled.inputs ≡ draft.inputs
  pub sources : filled.sources ≡ draft.sources
  pub system : filled.system ≡ draft.system
  pub builder : filled.builder ≡ draft.builder
  pub args : filled.args ≡ draft.args
  pub env : AllZip (IsInsertedEntry (names_of draft.outputs) paths) draft.env filled.env
