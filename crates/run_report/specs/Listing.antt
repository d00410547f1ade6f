-- How the code lists the derivations of which a text tells.
use Rattle.std.specs.Prelude.{◌≡◌, ◌<◌, ◌↔◌, Bool, true, false, ℕ, List, Some, map, slice_get, All, Contains}
use Rattle.std.specs.List.{slice_index_or}
use Rattle.nix_names.specs.Bytes.{Path}
use Rattle.drv_graph.specs.Loading.{AreDistinct}
use Rattle.drv_graph.specs.Nodes.{Node, paths_of}
use Rattle.run_report.specs.declared.report.listing.Keyed.{Keyed}
use Rattle.run_report.specs.declared.report.listing.Listed.{Listed}

-- the numbers of listed derivations
abbrev pub numbers_of : List Listed → List ℕ
numbers_of listed = map (λ (l : Listed). l.number) listed

-- the paths of listed derivations
abbrev pub listed_paths : List Listed → List Path
listed_paths listed = map (λ (l : Listed). l.path.now) listed

-- the derivations after their keys
abbrev pub listed_in : List Keyed → List Listed
listed_in keyed = map (λ (k : Keyed). k.listed) keyed

-- a derivation is listed with its path
abbrev pub HasItsPath : List Node → Listed → Type 0
HasItsPath nodes listed = slice_get (paths_of nodes) listed.number ≡ Some listed.path.now

-- one of the first `count` derivations has this number, and is marked
abbrev pub IsMarked : (marks : List Bool) → (count : ℕ) → ℕ → Type 0
IsMarked marks count d = (d < count) × (slice_index_or marks d false ≡ true)

-- Just these derivations are listed, each with its path, and no path twice.
pub record AreListed (nodes : List Node) (is_such : ℕ → Type 0) (listed : List Listed)
    : Type 0 where
  pub each : All (HasItsPath nodes) listed
  pub just : (d : ℕ) → Contains (numbers_of listed) d ↔ is_such d
  pub once : AreDistinct (listed_paths listed)

-- each listed derivation has a number below `count`
abbrev pub AreWithin : ℕ → List Listed → Type 0
AreWithin count listed = All (λ (l : Listed). l.number < count) listed
