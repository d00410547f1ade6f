-- The links among outputs, between the indices of their paths in a list without repetition. Indices
-- count from 0.
use Rattle.std.specs.Prelude.{◌≡◌, ◌↔◌, ◌⊎◌, ◌<◌, ℕ, List, Some, Contains, length, nat_eq, slice_get}
use Rattle.std.specs.Cmp.Lexicographic.{pointwise}
use Rattle.std.specs.Global.{Vec}
use Rattle.std.specs.List.{IsDistinct}
use Rattle.nix_names.specs.Bytes.{Path}
use Rattle.valid_table.specs.PathInfos.{PathInfo}
use Rattle.build_outcome.specs.private.Walking.{IsLinked}

-- The keys are exactly these paths, each once.
pub record AreEachOnce (paths keys : List Path) : Type 0 where
  pub distinct : IsDistinct (pointwise nat_eq) keys
  pub same : (path : Path) → Contains keys path ↔ Contains paths path

-- one of the first `count` outputs has the path `from`, and refers to the path `to`
abbrev pub MayLink : (paths : List Path) → List PathInfo → (count : ℕ) → (from to : Path)
    → Type 0
MayLink paths infos count from to =
    (n : ℕ) × (info : PathInfo) × (n < count) × (slice_get paths n ≡ Some from)
    × (slice_get infos n ≡ Some info) × Contains info.references to

-- The links of the first `count` outputs: each from a key's index to the index of a key that it
-- refers to.
pub record AreLinks (paths : List Path) (infos : List PathInfo) (keys : List Path)
    (count : ℕ) (links : List (Vec ℕ)) : Type 0 where
  pub lengths : length links ≡ length keys
  pub sound : (from to : ℕ) → IsLinked links from to
      → (a : Path) × (b : Path) × (slice_get keys from ≡ Some a) × (slice_get keys to ≡ Some b)
      × MayLink paths infos count a b
  pub whole : (from to : ℕ) (a b : Path) → slice_get keys from ≡ Some a → slice_get keys to
      ≡ Some b → MayLink paths infos count a b → IsLinked links from to

-- The links among all outputs.
pub record HaveLinks (paths : List Path) (infos : List PathInfo) (links : List (Vec ℕ))
    : Type 0 where
  pub keys : List Path
  pub once : AreEachOnce paths keys
  pub are : AreLinks paths infos keys (length infos) links

-- the new links of an output are its old ones, and those to the indices of the keys that are among
-- the references
abbrev pub AddsLinks : (keys references : List Path) → (old new : List ℕ) → Type 0
AddsLinks keys references old new =
    (to : ℕ) → Contains new to
    ↔ (Contains old to
    ⊎ ((path : Path) × (slice_get keys to ≡ Some path) × Contains references path))

-- no number is linked to any
abbrev pub HaveNoLinks : List (Vec ℕ) → Type 0
HaveNoLinks links = (from to : ℕ) → IsLinked links from to → ⊥
