-- Which lines of a journal refer to paths that are not registered, or register paths again.
use Rattle.std.specs.Prelude.{◌≡◌, ◌⊎◌, ◌+◌, ◌≤◌, ℕ, List, ◌∷◌, ◌++◌, Option, length}
use Rattle.nix_names.specs.Bytes.{Path}
use Rattle.nix_names.specs.declared.method.MethodDigest.{MethodDigest}
use Rattle.valid_table.specs.Entries.{registered, registered_by}
use Rattle.valid_table.specs.PathInfos.{NarInfo}
use Rattle.valid_table.specs.Texts.{Line, Added, Output, Reference, lines, entry_lines}
use Rattle.valid_table.specs.Valid.{IsValid}
use Rattle.valid_table.specs.declared.entry.Entry.{Entry}

-- Line n of a journal is this line of this entry, which follows these entries. Lines are counted
-- from 1.
pub record StandsAt (entries : List Entry) (before : List Entry) (entry : Entry) (line : Line)
    (n : ℕ) : Type 0 where
  pub after : List Entry
  pub parts : entries ≡ before ++ entry ∷ after
  pub first : List Line
  pub last : List Line
  pub is_line : entry_lines entry ≡ first ++ line ∷ last
  pub number : n ≡ length (lines before) + length first + 1

-- line n refers to a path that neither an earlier entry nor its own registers
abbrev pub IsNotClosedAt : List Entry → ℕ → Type 0
IsNotClosedAt entries n =
    (before : List Entry) × (entry : Entry) × (path : Path)
    × StandsAt entries before entry (Reference path) n
    × (IsValid (registered before ++ registered_by entry) path → ⊥)

-- line n registers a path that an earlier entry registered
abbrev pub IsTwiceAt : List Entry → ℕ → Type 0
IsTwiceAt entries n =
    (before : List Entry) × (entry : Entry) × (path : Path) × (digest : Option MethodDigest)
    × (nar : Option NarInfo)
    × (StandsAt entries before entry (Added path digest nar) n
    ⊎ StandsAt entries before entry (Output path digest nar) n)
    × IsValid (registered before) path

-- no line before line n has one of these faults
abbrev pub IsLeastFault : List Entry → ℕ → Type 0
IsLeastFault entries n = (m : ℕ) → IsNotClosedAt entries m ⊎ IsTwiceAt entries m → n ≤ m
