-- How inputs are united: gathered by their paths, and their names sorted.
use Rattle.std.specs.Prelude.{◌≡◌, ◌↔◌, ◌≢◌, ◌⊎◌, List, [], ◌∷◌, ◌++◌, map, Contains}
use Rattle.nix_names.specs.Bytes.{Path, Name}
use Rattle.nix_names.specs.Rising.{IsRising}
use Rattle.nix_drv.specs.Derivation.{Output, Input}
use Rattle.drv_graph.specs.Modulo.{IsNamed}

-- the paths of inputs
abbrev pub input_paths : List Input → List Path
input_paths inputs = map (λ (i : Input). i.path) inputs

-- Inputs gathered: each path of the given inputs once, in rising order. With it come all names that
-- the given inputs have for this path.
pub record IsGathered (given gathered : List Input) : Type 0 where
  pub rising : IsRising (input_paths gathered)
  pub paths : (path : Path)
      → (Contains (input_paths gathered) path ↔ Contains (input_paths given) path)
  pub names : (path : Path) (name : Name) → (IsNamed gathered path name ↔ IsNamed given path name)

-- An input's names were added to the last of the other inputs, which has the same path.
pub record IsJoined (old : List Input) (input : Input) (new : List Input) : Type 0 where
  pub front : List Input
  pub last : Input
  pub was : old ≡ front ++ last ∷ []
  pub same : last.path ≡ input.path
  pub is : new ≡ front ++ record { path = last.path; names = last.names ++ input.names } ∷ []

-- An input was put after the others. The last of them, if there is one, has another path.
pub record IsAppended (old : List Input) (input : Input) (new : List Input) : Type 0 where
  pub other : (front : List Input) (last : Input) → old ≡ front ++ last ∷ []
      → last.path ≢ input.path
  pub is : new ≡ old ++ input ∷ []

-- an input is added to some others
abbrev pub IsAdded : (old : List Input) → Input → (new : List Input) → Type 0
IsAdded old input new = IsJoined old input new ⊎ IsAppended old input new

-- An input with its names in rising order, each once.
pub record IsNameSorted (old new : Input) : Type 0 where
  pub path : new.path ≡ old.path
  pub rising : IsRising new.names
  pub names : (name : Name) → (Contains new.names name ↔ Contains old.names name)

-- an output without its path
abbrev pub masked_output : Output → Output
masked_output o = record { name = o.name; path = []; algo = o.algo; hash = o.hash }
