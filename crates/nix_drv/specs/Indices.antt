-- The indices of outputs and entries of the environment in a derivation, by their keys.
use Rattle.std.specs.Prelude.{◌≡◌, ℕ, List, map, Contains, slice_get, Option, Some, None}
use Rattle.nix_names.specs.Bytes.{Name}
use Rattle.nix_drv.specs.Derivation.{Drv, Output, EnvEntry}

-- an index of a key among some keys, or none where it is not among them
abbrev pub IsIndexOfKey : (keys : List Name) → (key : Name) → Option ℕ → Type 0
IsIndexOfKey keys key None = Contains keys key → ⊥
IsIndexOfKey keys key (Some index) = slice_get keys index ≡ Some key

-- the names of a derivation's outputs
abbrev pub output_names : Drv → List Name
output_names drv = map (λ (o : Output). o.name) drv.outputs

-- the keys of a derivation's environment
abbrev pub env_keys : Drv → List Name
env_keys drv = map (λ (e : EnvEntry). e.key) drv.env
