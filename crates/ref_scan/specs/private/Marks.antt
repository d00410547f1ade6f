-- How a search for all hash parts at once changes their marks.
use Rattle.std.specs.Prelude.{◌≡◌, ◌↔◌, ◌⊎◌, ◌<◌, ℕ, Bool, true, false, List, length}
use Rattle.std.specs.List.{slice_index_or}
use Rattle.nix_names.specs.Bytes.{Bytes}
use Rattle.ref_scan.specs.private.Parts.{part_at}
use Rattle.ref_scan.specs.Scan.{Within}

-- the hash part with a number has its mark
abbrev pub IsPartMet : List Bool → ℕ → Type 0
IsPartMet met k = slice_index_or met k false ≡ true

-- Just those parts have a mark that had one before or occur in the bytes.
pub record Searched (parts : List Bytes) (old new : List Bool) (bytes : Bytes) : Type 0 where
  pub count : length new ≡ length old
  pub each : (k : ℕ) → k < length parts
      → IsPartMet new k ↔ (IsPartMet old k ⊎ Within (part_at parts k) bytes)

-- Just those parts have a mark that had one before or are the window.
pub record Marked (parts : List Bytes) (old new : List Bool) (window : Bytes) : Type 0 where
  pub count : length new ≡ length old
  pub each : (k : ℕ) → k < length parts → IsPartMet new k
      ↔ (IsPartMet old k ⊎ (window ≡ part_at parts k))
