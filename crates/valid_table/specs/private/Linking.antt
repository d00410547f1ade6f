-- The references of rows by the numbers of their rows. They stand in one list, in the order of the
-- rows: those of a row end where those of the next one begin.
use Rattle.std.specs.Prelude.{◌≡◌, ◌+◌, ◌<◌, ◌≤◌, ℕ, List, ◌∷◌, All, length, slice_index_or, slice_range}
use Rattle.nix_names.specs.Bytes.{Path}
use Rattle.valid_table.specs.private.Closing.{path_at, paths_at}
use Rattle.valid_table.specs.PathInfos.{PathInfo}
use Rattle.valid_table.specs.Valid.{Registers}
use Rattle.valid_table.specs.declared.entry.Registration.{Registration}

-- where the numbers of a row begin: at 0, or at the end of the row before it
abbrev pub start_of : (ends : List ℕ) → (row : ℕ) → ℕ
start_of ends row = slice_index_or (0 ∷ ends) row 0

-- the numbers of a row
abbrev pub numbers_of : (ends numbers : List ℕ) → (row : ℕ) → List ℕ
numbers_of ends numbers row = slice_range numbers (start_of ends row) (start_of ends (row + 1))

-- Numbers are the rows of some paths, in the order of the paths.
pub record AreRowsOf (registrations : List Registration) (paths : List Path) (numbers : List ℕ)
    : Type 0 where
  pub below : All (λ row. row < length registrations) numbers
  pub same : paths_at registrations numbers ≡ paths

-- A row is *linked*: its numbers are those of the rows of its references.
pub record IsLinkedRow (registrations : List Registration) (ends numbers : List ℕ) (row : ℕ)
    : Type 0 where
  pub rises : start_of ends row ≤ start_of ends (row + 1)
  pub within : start_of ends (row + 1) ≤ length numbers
  pub info : PathInfo
  pub registers : Registers registrations (path_at registrations row) info
  pub links : AreRowsOf registrations info.references (numbers_of ends numbers row)

-- The first rows are linked, one for each end, and there are no numbers but theirs.
pub record AreLinked (registrations : List Registration) (ends numbers : List ℕ) : Type 0 where
  pub count : length ends ≤ length registrations
  pub whole : start_of ends (length ends) ≡ length numbers
  pub each : (row : ℕ) → row < length ends → IsLinkedRow registrations ends numbers row
