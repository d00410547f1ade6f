-- *Expected path*: the paths that a derivation's outputs must have (Nix manual, "Complete Store
-- Path Calculation" and "Store Derivation"; Dolstra's thesis, sections 5.1 and 5.4).
use Rattle.std.specs.Prelude.{◌≡◌, ◌-◌, true, List, ◌++◌, length, take, codes, if◌then◌else◌}
use Rattle.sha2.specs.Sha256.{sha256}
use Rattle.nix_names.specs.Bytes.{Bytes, Dir, Path, Name, Hash}
use Rattle.nix_names.specs.Digests.{text_of}
use Rattle.nix_names.specs.declared.digest.Digest.{Digest}
use Rattle.nix_names.specs.Names.{same_bytes}
use Rattle.nix_names.specs.StorePaths.{name_of, store_path}
use Rattle.nix_drv.specs.Derivation.{Drv, Output}
use Rattle.drv_graph.specs.declared.kinds.Kind.{Kind}
use Rattle.drv_graph.specs.declared.kinds.Kind.TheVariants.{Addressed, Fixed}
use Rattle.nix_names.specs.Methods.{mark_of}
use Rattle.nix_names.specs.declared.digest.Digest.TheVariants.{Sha256}
use Rattle.nix_names.specs.declared.method.Method.{Method}
use Rattle.nix_names.specs.declared.method.Method.TheVariants.{Recursive}
use Rattle.drv_graph.specs.Modulo.{IsModuloText}

-- the name of the derivation whose text stands at this path: the name of its file without `.drv`
abbrev pub drv_name_of : Path → Name
drv_name_of path = take (length (name_of path) - 4) (name_of path)

-- the name of an output's path: the derivation's name; for an output other than `out`, a dash and
-- the output's name follow it
abbrev pub path_name : (name output : Name) → Name
path_name name output = if same_bytes output (codes "out") then name else name ++ codes "-"
    ++ output

-- the text whose SHA-256 is the inner digest of a fixed output's path, but for a tree by SHA-256:
-- `fixed:out:<method and algorithm>:<digits>:`
abbrev pub fixed_inner_text : Method → Digest → Bytes
fixed_inner_text method digest = codes "fixed:out:" ++ mark_of method ++ text_of digest
    ++ codes ":"

-- the path of a fixed output with this method and digest: a tree by SHA-256 has the path of a
-- source with that digest
abbrev pub fixed_path : (dir : Dir) → (name : Name) → Method → Digest → Path
fixed_path dir name Recursive (Sha256 bytes) = store_path (codes "source") bytes dir name
fixed_path dir name method digest = store_path (codes "output:out")
    (sha256 (fixed_inner_text method digest)) dir name

-- the path is the expected path, in this folder, of an output of the derivation with this name and
-- kind, whose inputs have these modulo hashes
abbrev pub IsExpected : (dir : Dir) → (name : Name) → Kind → Drv → (hashes : List Hash) → Output
    → (path : Path) → Type 0
IsExpected dir name Addressed drv hashes output path =
    (bytes : Bytes) × IsModuloText drv hashes true bytes
    × (path ≡ store_path (codes "output:" ++ output.name) (sha256 bytes) dir
    (path_name name output.name))
IsExpected dir name (Fixed method digest) drv hashes output path = path
    ≡ fixed_path dir name method digest
