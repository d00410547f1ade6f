-- *Own path*: the text path at which a derivation's file stands (Nix manual, "Store Path
-- Calculation"; Dolstra, "The Purely Functional Software Deployment Model", 2006, sections 5.1 and
-- 5.4).
use Rattle.std.specs.Prelude.{◌≡◌, ◌↔◌, List, ◌∷◌, ◌++◌, map, flat_map, codes, Contains}
use Rattle.sha2.specs.Sha256.{sha256}
use Rattle.nix_names.specs.Bytes.{Bytes, Dir, Path, Name}
use Rattle.nix_names.specs.Rising.{IsRising}
use Rattle.nix_names.specs.StorePaths.{store_path}
use Rattle.nix_drv.specs.Derivation.{Drv}

-- the type of a text path: `text`, then each reference after a colon
abbrev pub text_kind : List Path → Bytes
text_kind refs = codes "text" ++ flat_map (λ ref. 58 ∷ ref) refs

-- the path of a text in a folder, by its name, its bytes and its references
unfoldable pub text_path : (dir : Dir) (name : Name) (bytes : Bytes) → (refs : List Path) → Path
text_path dir name bytes refs = store_path (text_kind refs) (sha256 bytes) dir name

-- the paths that a derivation refers to, in the order of its text: those of its input derivations,
-- then its sources
unfoldable pub referenced_paths : Drv → List Path
referenced_paths drv = map (λ input. input.path) drv.inputs ++ drv.sources

-- The path is the own path of a derivation's text: its references are the derivation's paths, each
-- once, in rising order.
pub record IsOwnPath (dir : Dir) (name : Name) (drv : Drv) (bytes : Bytes) (path : Path)
    : Type 0 where
  pub refs : List Path
  pub rising : IsRising refs
  pub same : (ref : Path) → (Contains refs ref ↔ Contains (referenced_paths drv) ref)
  pub is_path : path ≡ text_path dir name bytes refs

-- a derivation's text has at most one own path in a folder, under a name
abbrev pub HasOneOwnPath : Type 0
HasOneOwnPath = (dir : Dir) (name : Name) (drv : Drv) (bytes : Bytes) (path other : Path)
    → IsOwnPath dir name drv bytes path → IsOwnPath dir name drv bytes other → path ≡ other
