-- *Scan*: which store paths a tree refers to, being those whose hash parts occur in it (Dolstra's
-- thesis, section 5.5; Nix manual, "Building").
use Rattle.std.specs.Prelude.{◌≡◌, ◌↔◌, List, ◌++◌, Any, Contains}
use Rattle.nix_names.specs.Bytes.{Bytes, Path}
use Rattle.nix_names.specs.Rising.{IsRising}
use Rattle.nix_names.specs.StorePaths.{hash_part_of}
use Rattle.ref_scan.specs.Trees.{pieces}
use Rattle.ref_scan.specs.declared.tree.Tree.{Tree}

-- a part occurs somewhere in some bytes
abbrev pub Within : (part bytes : Bytes) → Type 0
Within part bytes = (before : Bytes) × (after : Bytes) × (bytes ≡ before ++ (part ++ after))

-- a part occurs in one of some lists of bytes
abbrev pub OccursIn : (part : Bytes) → (lists : List Bytes) → Type 0
OccursIn part lists = Any (Within part) lists

-- The found paths rise strictly, and are just those permitted paths whose hash part occurs in one
-- of the lists.
pub record IsFoundIn (lists : List Bytes) (permitted found : List Path) : Type 0 where
  pub rising : IsRising found
  pub each : (path : Path) → Contains found path
      ↔ (Contains permitted path × OccursIn (hash_part_of path) lists)

-- What is found in a tree is what is found in its pieces.
abbrev pub IsFound : Tree → (permitted found : List Path) → Type 0
IsFound tree permitted found = IsFoundIn (pieces tree) permitted found
