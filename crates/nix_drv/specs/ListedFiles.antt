-- The files of a list as pairs of a path and bytes.
use Rattle.std.specs.Prelude.{List, ℕ, map}
use Rattle.std.specs.Global.{Vec}
use Rattle.nix_names.specs.Bytes.{Bytes, Path}
use Rattle.nix_drv.specs.declared.listing.ListedFile.{ListedFile}

-- each file's path and bytes
abbrev pub pairs_of : List ListedFile → List (Path × Bytes)
pairs_of files = map (λ file. (file.path.items, file.bytes.items)) files

-- the path and bytes of each entry of a map
abbrev pub entries_of : List (Vec ℕ × Vec ℕ) → List (Path × Bytes)
entries_of entries = map (λ entry. (entry.0.items, entry.1.items)) entries
