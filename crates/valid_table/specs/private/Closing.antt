-- How a closure is found: rows are followed to the rows of their references. Rows are counted from
-- 0, in the order of what was registered.
use Rattle.std.specs.Prelude.{◌≡◌, ◌↔◌, ◌<◌, ◌++◌, ℕ, List, All, Contains, length, map, nat_eq, slice_index_or, take, []}
use Rattle.std.specs.List.{IsDistinct}
use Rattle.nix_names.specs.Bytes.{Path}
use Rattle.valid_table.specs.Closure.{Reaches}
use Rattle.valid_table.specs.Entries.{paths_registered}
use Rattle.valid_table.specs.PathInfos.{PathInfo}
use Rattle.valid_table.specs.Valid.{IsValid, RefersTo, Registers}
use Rattle.valid_table.specs.declared.entry.Registration.{Registration}

-- the path of a row
abbrev pub path_at : List Registration → (row : ℕ) → Path
path_at registrations row = slice_index_or (paths_registered registrations) row []

-- the paths of some rows
abbrev pub paths_at : List Registration → (rows : List ℕ) → List Path
paths_at registrations rows = map (path_at registrations) rows

-- a number is the row of a path
abbrev pub IsRowOf : List Registration → Path → (row : ℕ) → Type 0
IsRowOf registrations path row = (row < length registrations) × (path_at registrations row ≡ path)

-- Numbers are rows of a table, none twice.
pub record AreRows (registrations : List Registration) (rows : List ℕ) : Type 0 where
  pub distinct : IsDistinct nat_eq rows
  pub below : All (λ row. row < length registrations) rows

-- two lists have the same paths
abbrev pub HaveSame : (left right : List Path) → Type 0
HaveSame left right = (path : Path) → Contains left path ↔ Contains right path

-- Rows are added after old ones. Each added row is the row of one of the paths, and each of the
-- paths that is valid has its row among the old and the added ones.
pub record AddsRows (registrations : List Registration) (old : List ℕ) (paths : List Path)
    (new : List ℕ) : Type 0 where
  pub rows : AreRows registrations new
  pub added : List ℕ
  pub parts : new ≡ old ++ added
  pub asked : All (Contains paths) (paths_at registrations added)
  pub there : All (λ path. IsValid registrations path → Contains (paths_at registrations new) path)
      paths

-- The rows of the references of a row, by the record of its path, are added after old ones.
pub record AddsReferences (registrations : List Registration) (old : List ℕ) (row : ℕ)
    (new : List ℕ) : Type 0 where
  pub info : PathInfo
  pub registers : Registers registrations (path_at registrations row) info
  pub adds : AddsRows registrations old info.references new

-- a path is reached from one of the roots
abbrev pub IsReachedFrom : List Registration → (roots : List Path) → Path → Type 0
IsReachedFrom registrations roots path = (root : Path) × Contains roots root
    × Reaches registrations root path

-- each valid reference of a path is in a list
abbrev pub HasReferences : List Registration → (paths : List Path) → Path → Type 0
HasReferences registrations paths path = (next : Path) → RefersTo registrations path next
    → IsValid registrations next → Contains paths next

-- Rows were found from the rows of a start. The paths of the start are among their paths, each of
-- their paths is reached from a path of the start, and the valid references of the first `count` of
-- their paths are among their paths.
pub record IsFollowed (registrations : List Registration) (start found : List ℕ) (count : ℕ)
    : Type 0 where
  pub rows : AreRows registrations found
  pub kept : All (Contains (paths_at registrations found)) (paths_at registrations start)
  pub reached : All (IsReachedFrom registrations (paths_at registrations start))
      (paths_at registrations found)
  pub followed : All (HasReferences registrations (paths_at registrations found))
      (paths_at registrations (take count found))
