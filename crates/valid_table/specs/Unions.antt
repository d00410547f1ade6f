-- Rising lists of paths, put together.
use Rattle.std.specs.Prelude.{◌⊎◌, ◌↔◌, List, Contains}
use Rattle.nix_names.specs.Bytes.{Path}
use Rattle.nix_names.specs.Rising.{IsRising}

-- a path is in one of two lists
abbrev pub IsInEither : (left right : List Path) → Path → Type 0
IsInEither left right path = Contains left path ⊎ Contains right path

-- The union of two lists, in rising order: just the paths of either.
pub record IsUnion (left right all : List Path) : Type 0 where
  pub rising : IsRising all
  pub each : (path : Path) → Contains all path ↔ IsInEither left right path
