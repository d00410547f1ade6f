-- The content address that Nix tells of a path (Nix 2.8, `path-info.cc`: `isContentAddressed`;
-- `store-api.cc`: `makeTextPath`, `makeFixedOutputPath`; `content-address.cc`:
-- `renderContentAddress`). Nix keeps it beside the path. Here a path has it exactly where its
-- record makes the path itself.
use Rattle.std.specs.Prelude.{◌-◌, Option, Some, None, List, [], ◌∷◌, ◌++◌, codes, flat_map, if◌then◌else◌, length, option_and_then, take}
use Rattle.std.specs.List.{list_any}
use Rattle.std.specs.Option.{option_or}
use Rattle.nix_names.specs.Base32.{base32}
use Rattle.nix_names.specs.Bytes.{Bytes, Dir, Hash, Path}
use Rattle.nix_names.specs.Digests.{algorithm_of, bytes_of, name_of as algorithm_name}
use Rattle.nix_names.specs.Methods.{mark_of}
use Rattle.nix_names.specs.Names.{same_bytes}
use Rattle.nix_names.specs.StorePaths.{base_of, name_of, store_path}
use Rattle.nix_names.specs.declared.digest.Digest.{Digest}
use Rattle.nix_names.specs.declared.digest.Digest.TheVariants.{Sha256}
use Rattle.nix_names.specs.declared.method.Method.{Method}
use Rattle.nix_names.specs.declared.method.Method.TheVariants.{Flat}
use Rattle.nix_names.specs.declared.method.MethodDigest.{MethodDigest}
use Rattle.nix_drv.specs.OwnPath.{text_kind}
use Rattle.drv_graph.specs.Expected.{fixed_path}
use Rattle.valid_table.specs.PathInfos.{NarInfo}
use Rattle.valid_table.specs.declared.entry.Registration.{Registration}

-- ---- paths that are made

-- a path's folder: all before the slash and the base name
abbrev pub folder_of : Path → Dir
folder_of path = take (length path - length (base_of path) - 1) path

-- the path of a type and an inner digest, in a path's folder and with its name
abbrev pub path_beside : Path → (kind : Bytes) → (inner : Hash) → Path
path_beside path kind inner = store_path kind inner (folder_of path) (name_of path)

-- the type of a source's path: `source`, then each reference after a colon
abbrev pub source_kind : List Path → Bytes
source_kind references = codes "source" ++ flat_map (λ path. 58 ∷ path) references

-- ---- addresses

-- a digest in base-32, with its algorithm's name and a colon before it
abbrev pub digest_text : Digest → Bytes
digest_text digest = algorithm_name (algorithm_of digest) ++ 58 ∷ base32 (bytes_of digest)

-- an address where the path that was made is the path, and else none
abbrev pub where_same : (path made : Path) → (address : Bytes) → Option Bytes
where_same path made address = if same_bytes made path then Some address else None

-- the address of a text, by its references and the SHA-256 of its bytes
abbrev pub text_address : List Path → Path → Method → Digest → Option Bytes
text_address references path Flat (Sha256 hash) =
    where_same path (path_beside path (text_kind references) hash)
    (codes "text:" ++ digest_text (Sha256 hash))
text_address references path method digest = None

-- the address of a source, by its references and its archive; none where it refers to itself, since
-- the digest is then not that of the archive as it stands
abbrev pub source_address : List Path → Path → NarInfo → Option Bytes
source_address references path nar =
    if list_any (λ reference. same_bytes reference path) references then None
    else where_same path (path_beside path (source_kind references) nar.hash)
    (codes "fixed:r:" ++ digest_text (Sha256 nar.hash))

-- the address of a fixed output, which refers to nothing
abbrev pub fixed_address : List Path → Path → MethodDigest → Option Bytes
fixed_address [] path found =
    where_same path (fixed_path (folder_of path) (name_of path) found.method found.digest)
    (codes "fixed:" ++ mark_of found.method ++ digest_text found.digest)
fixed_address (reference ∷ references) path found = None

-- the content address of a path by its record, if it has one: as a text, as a source or as a fixed
-- output
abbrev pub content_address : Registration → Option Bytes
content_address row = option_or
    (option_and_then (λ (found : MethodDigest).
    text_address row.info.references row.path found.method found.digest) row.info.digest)
    (option_or
    (option_and_then (source_address row.info.references row.path) row.info.nar)
    (option_and_then (fixed_address row.info.references row.path) row.info.digest))
