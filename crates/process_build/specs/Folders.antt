-- Where a builder runs (this product's own, `FORMATS.md`).
use Rattle.std.specs.Prelude.{◌++◌, ℕ, List, Option, None, codes, decimal, get_or}
use Rattle.nix_names.specs.Bytes.{Bytes, Dir, Name}

-- the build folder of the lease with this number
abbrev pub build_folder_of : (store_dir : Dir) → (number : ℕ) → Bytes
build_folder_of store_dir number = store_dir ++ codes "/.build-" ++ decimal number

-- under `nix` the build folder of a derivation with this name, at a number at which nothing lay
abbrev pub nix_folder_of : (build_dir : Bytes) → (drv : Name) → (number : ℕ) → Bytes
nix_folder_of build_dir drv number =
    build_dir ++ codes "/nix-build-" ++ drv ++ codes "-" ++ decimal number

-- the number at the end of the name of the build folder that was kept under the lease with this
-- number, if it was kept
abbrev pub kept_suffix : (kept : List (Option ℕ)) → (number : ℕ) → Option ℕ
kept_suffix kept number = get_or kept number None
