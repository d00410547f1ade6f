-- The references of a derivation's text, from which its own path is made.
use Rattle.std.specs.Prelude.{◌↔◌, List, Contains}
use Rattle.nix_names.specs.Bytes.{Dir, Path}
use Rattle.nix_names.specs.Rising.{IsRising}
use Rattle.nix_drv.specs.Checked.{IsFirstStray}
use Rattle.nix_drv.specs.declared.fault.DrvFault.{DrvFault}
use Rattle.nix_drv.specs.declared.fault.DrvFault.TheVariants.{NoMemory, BadReference}

-- The references are the paths, each once, in rising order.
pub record IsReferencesOf (paths refs : List Path) : Type 0 where
  pub rising : IsRising refs
  pub same : (ref : Path) → (Contains refs ref ↔ Contains paths ref)

-- what is wrong with some paths: the first of them that is no path of the folder, or memory was
-- refused
abbrev pub IsStrayFault : (dir : Dir) → (paths : List Path) → DrvFault → Type 0
IsStrayFault dir paths (BadReference text) = IsFirstStray dir paths text.items
IsStrayFault dir paths NoMemory = Unit {0}
IsStrayFault dir paths other = ⊥
