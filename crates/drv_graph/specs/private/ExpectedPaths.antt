-- The parts of expected paths.
use Rattle.std.specs.Prelude.{◌≡◌, true, List, ◌++◌, codes}
use Rattle.sha2.specs.Sha256.{sha256}
use Rattle.nix_names.specs.Bytes.{Bytes, Dir, Path, Name, Hash}
use Rattle.nix_names.specs.StorePaths.{store_path}
use Rattle.nix_drv.specs.Derivation.{Drv, Output}
use Rattle.drv_graph.specs.Expected.{path_name}
use Rattle.drv_graph.specs.Modulo.{IsModuloText}

-- The digest is the SHA-256 of a derivation's masked modulo text.
pub record IsMaskedDigest (drv : Drv) (hashes : List Hash) (digest : Hash) : Type 0 where
  pub bytes : Bytes
  pub is_text : IsModuloText drv hashes true bytes
  pub is_digest : digest ≡ sha256 bytes

-- the path of an input-addressed output with this inner digest
abbrev pub output_path : (dir : Dir) → (name : Name) → (inner : Hash) → Output → Path
output_path dir name inner output = store_path (codes "output:" ++ output.name) inner dir
    (path_name name output.name)
