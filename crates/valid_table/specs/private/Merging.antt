-- How two rising lists are merged: the least path is taken from their heads.
use Rattle.std.specs.Prelude.{◌≡◌, ◌⊎◌, ◌↔◌, ◌<◌, ◌+◌, ◌∷◌, List, length}
use Rattle.nix_names.specs.Bytes.{Path}
use Rattle.nix_names.specs.Rising.{IsRising}
use Rattle.valid_table.specs.Unions.{IsInEither}

-- A path is the least of two lists, and `more` and `others` are what is left of these: the path is
-- the first of one of the lists, and is less than each path that is left.
pub record IsLeastHead (left right : List Path) (path : Path) (more others : List Path)
    : Type 0 where
  pub head : (left ≡ path ∷ more) ⊎ (right ≡ path ∷ others)
  pub left_rises : IsRising left → IsRising (path ∷ more)
  pub right_rises : IsRising right → IsRising (path ∷ others)
  pub each : (p : Path) → IsInEither left right p ↔ IsInEither (path ∷ more) (path ∷ others) p
  pub shorter : length more + length others < length left + length right
