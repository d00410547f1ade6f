-- What a scanner keeps of the bytes that it was fed.
use Rattle.std.specs.Prelude.{◌≡◌, ◌↔◌, ◌<◌, ℕ, Bool, List, [], ◌∷◌, ◌++◌, length}
use Rattle.nix_names.specs.Bytes.{Bytes, Path}
use Rattle.ref_scan.specs.private.Kept.{last_bytes}
use Rattle.ref_scan.specs.private.Marks.{IsPartMet}
use Rattle.ref_scan.specs.private.Parts.{ArePartsOf, part_at}
use Rattle.ref_scan.specs.Scan.{OccursIn}

-- The permitted paths, the hash parts that are sought, whether these are in the order of the paths,
-- the lists of bytes that a cut ended, and the list that goes on.
pub record Sought : Type 0 where
  pub permitted : List Path
  pub parts : List Bytes
  pub in_order : Bool
  pub ended : List Bytes
  pub present : Bytes

-- Just those parts have a mark that occur in one of the lists, and the last bytes of the present
-- list are kept.
pub record Scanned (sought : Sought) (met : List Bool) (tail : Bytes) : Type 0 where
  pub of_paths : ArePartsOf sought.permitted sought.parts sought.in_order
  pub count : length met ≡ length sought.parts
  pub marks : (k : ℕ) → k < length sought.parts
      → IsPartMet met k ↔ OccursIn (part_at sought.parts k) (sought.ended ++ sought.present ∷ [])
  pub kept : tail ≡ last_bytes sought.present
