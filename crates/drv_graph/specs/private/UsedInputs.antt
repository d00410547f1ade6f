-- The inputs of a derivation, in its text's order: their paths, their derivations and their modulo
-- hashes.
use Rattle.std.specs.Prelude.{List, map}
use Rattle.nix_names.specs.Bytes.{Path, Name, Hash}
use Rattle.nix_drv.specs.Derivation.{Drv}
use Rattle.drv_graph.specs.Outputs.{Use}
use Rattle.drv_graph.specs.declared.outputs.output_checks.UsedInput.{UsedInput}

-- the paths of inputs
abbrev pub paths_of_uses : List UsedInput → List Path
paths_of_uses used = map (λ (u : UsedInput). u.path.now) used

-- the derivations of inputs
abbrev pub drvs_of_uses : List UsedInput → List Drv
drvs_of_uses used = map (λ (u : UsedInput). u.drv.now) used

-- the modulo hashes of inputs
abbrev pub hashes_of : List UsedInput → List Hash
hashes_of used = map (λ (u : UsedInput). u.hash) used

-- the uses of an input's outputs with these names
abbrev pub uses_of : (path : Path) → Drv → (names : List Name) → List Use
uses_of path drv names = map (λ name. record { input = path; output = name; drv = drv }) names
