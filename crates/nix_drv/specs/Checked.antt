-- What it means that the bytes at a path are a derivation whose own path this is, and what is wrong
-- first where they aren't.
use Rattle.std.specs.Prelude.{◌≢◌, ◌≤◌, List, length, All, Result, Ok, Err}
use Rattle.nix_names.specs.Bytes.{Bytes, Dir, Path}
use Rattle.nix_names.specs.Firsts.{IsFirst}
use Rattle.nix_names.specs.StorePaths.{IsDrvPath, IsPathOf, name_of}
use Rattle.nix_drv.specs.Derivation.{Drv, IsDrvText}
use Rattle.nix_drv.specs.Outcome.{IsReading, max_len}
use Rattle.nix_drv.specs.OwnPath.{IsOwnPath, referenced_paths}
use Rattle.nix_drv.specs.declared.fault.DrvFault.{DrvFault}
use Rattle.nix_drv.specs.declared.fault.DrvFault.TheVariants.{NoMemory, Syntax, Order, TooLong, TextPathMismatch, NotADrvName, NotSorted, BadReference}

-- The path is that of a derivation's file, and the bytes are within the limit and are the
-- derivation's text.
pub record IsReadAt (path : Path) (bytes : Bytes) (drv : Drv) : Type 0 where
  pub named : IsDrvPath path
  pub within : length bytes ≤ max_len
  pub is_text : IsDrvText drv bytes

-- the text is the first of some paths that is no path of the folder
abbrev pub IsFirstStray : (dir : Dir) (paths : List Path) (text : Path) → Type 0
IsFirstStray dir = IsFirst (IsPathOf dir) (λ text. IsPathOf dir text → ⊥)

-- The bytes at the path are the derivation's text, all paths that it refers to are in the folder,
-- and `own` is the text's own path.
pub record IsFoundAt (dir : Dir) (path : Path) (bytes : Bytes) (drv : Drv) (own : Path)
    : Type 0 where
  pub read : IsReadAt path bytes drv
  pub in_store : All (IsPathOf dir) (referenced_paths drv)
  pub own_path : IsOwnPath dir (name_of path) drv bytes own

-- What the check of the bytes at a path of the folder answers. It answers a fault exactly where it
-- is the first of these that holds: the name is no derivation's; the bytes are too many, no text of
-- the language, or out of order, as in reading; a reference is no path of the folder; the own path
-- is another one. Want of memory comes only where the name is a derivation's and the bytes are
-- within the limit.
abbrev pub IsCheck : (dir : Dir) (path : Path) (bytes : Bytes) → Result Drv DrvFault → Type 0
IsCheck dir path bytes (Ok drv) = IsFoundAt dir path bytes drv path
IsCheck dir path bytes (Err NotADrvName) = IsDrvPath path → ⊥
IsCheck dir path bytes (Err TooLong) = IsDrvPath path × IsReading bytes (Err TooLong)
IsCheck dir path bytes (Err (Syntax offset)) =
    IsDrvPath path × IsReading bytes (Err (Syntax offset))
IsCheck dir path bytes (Err (Order offset)) = IsDrvPath path × IsReading bytes (Err (Order offset))
IsCheck dir path bytes (Err (BadReference text)) = (drv : Drv) × IsReadAt path bytes drv
    × IsFirstStray dir (referenced_paths drv) text.items
IsCheck dir path bytes (Err (TextPathMismatch expected)) = (drv : Drv)
    × IsFoundAt dir path bytes drv expected × (expected ≢ path)
IsCheck dir path bytes (Err NoMemory) = IsDrvPath path × (length bytes ≤ max_len)
IsCheck dir path bytes (Err NotSorted) = ⊥
