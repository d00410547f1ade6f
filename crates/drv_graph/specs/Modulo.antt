-- The texts of *Modulo hash* (Nix manual, "Derivation paths: hash modulo"; Dolstra's thesis,
-- section 5.4): a derivation's text in which each input's path is replaced by its modulo hash, with
-- or without the paths of the outputs. That inputs of one hash become one entry is this product's
-- own.
use Rattle.std.specs.Prelude.{◌≡◌, ◌↔◌, Bool, List, [], ◌∷◌, map, All, Contains, if◌then◌else◌}
use Rattle.std.specs.List.{list_any}
use Rattle.hex.specs.Hex.{encode_lower}
use Rattle.nix_names.specs.Bytes.{Bytes, Path, Name, Hash}
use Rattle.nix_names.specs.Names.{same_bytes}
use Rattle.nix_names.specs.Rising.{IsRising}
use Rattle.nix_drv.specs.Derivation.{Drv, Output, Input, EnvEntry, derivation_form, drv_value}
use Rattle.nix_drv.specs.Grammar.{text}

-- inputs whose paths are replaced by these hashes, in hex digits
abbrev pub replaced : List Input → (hashes : List Hash) → List Input
replaced [] hashes = []
replaced (input ∷ inputs) [] = []
replaced (input ∷ inputs) (hash ∷ hashes) = record { path = encode_lower hash; names = input.names }
    ∷ replaced inputs hashes

-- Some input with this path names this output.
pub record IsNamed (inputs : List Input) (path : Path) (name : Name) : Type 0 where
  pub input : Input
  pub is_input : Contains inputs input
  pub is_path : input.path ≡ path
  pub is_name : Contains input.names name

-- Inputs united: each path of the given inputs once, in rising order. With it come all names that
-- the given inputs have for this path, in rising order.
pub record IsUnited (given united : List Input) : Type 0 where
  pub rising : IsRising (map (λ (i : Input). i.path) united)
  pub names_rise : All (λ (i : Input). IsRising i.names) united
  pub paths : (path : Path)
      → (Contains (map (λ (i : Input). i.path) united) path
      ↔ Contains (map (λ (i : Input). i.path) given) path)
  pub names : (path : Path) (name : Name) → (IsNamed united path name ↔ IsNamed given path name)

-- the names of outputs
abbrev pub names_of : List Output → List Name
names_of outputs = map (λ (o : Output). o.name) outputs

-- an entry of the environment, with an empty value where its key is one of these names
abbrev pub masked_entry : (names : List Name) → EnvEntry → EnvEntry
masked_entry names entry = if list_any (same_bytes entry.key) names
    then record { key = entry.key; value = [] } else entry

-- a derivation in which its outputs' paths are empty, at the outputs and in the environment
abbrev pub masked : Drv → Drv
masked drv = record {
  outputs = map (λ (o : Output). record { name = o.name; path = []; algo = o.algo; hash = o.hash })
      drv.outputs;
  inputs = drv.inputs;
  sources = drv.sources;
  system = drv.system;
  builder = drv.builder;
  args = drv.args;
  env = map (masked_entry (names_of drv.outputs)) drv.env;
}

-- a derivation with other inputs
abbrev pub with_inputs : Drv → List Input → Drv
with_inputs drv inputs = record {
  outputs = drv.outputs;
  inputs = inputs;
  sources = drv.sources;
  system = drv.system;
  builder = drv.builder;
  args = drv.args;
  env = drv.env;
}

-- The bytes are a derivation's modulo text for these hashes of its inputs, in their order, with the
-- outputs' paths masked or not.
pub record IsModuloText (drv : Drv) (hashes : List Hash) (mask : Bool) (bytes : Bytes)
    : Type 0 where
  pub inputs : List Input
  pub united : IsUnited (replaced drv.inputs hashes) inputs
  pub is_text : bytes
      ≡ text derivation_form (drv_value (with_inputs (if mask then masked drv else drv) inputs))

-- a derivation has one modulo text for these hashes, masked or not
abbrev pub HasOneModuloText : Type 0
HasOneModuloText = (drv : Drv) (hashes : List Hash) (mask : Bool) (a b : Bytes)
    → IsModuloText drv hashes mask a → IsModuloText drv hashes mask b → a ≡ b
