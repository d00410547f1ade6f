-- Keys: numbers that compare as the texts after a folder do.
use Rattle.std.specs.Prelude.{◌≡◌, ◌⊎◌, ◌<◌, ◌+◌, ◌-◌, ◌++◌, ℕ, List, [], ◌∷◌, All, length, take}
use Rattle.std.specs.Int.{from_be_bytes, w64}
use Rattle.nix_names.specs.Bytes.{Bytes, Path}
use Rattle.nix_names.specs.StorePaths.{hash_part_of, name_of}
use Rattle.valid_table.specs.private.Closing.{path_at}
use Rattle.valid_table.specs.Entries.{paths_registered}
use Rattle.valid_table.specs.declared.entry.Registration.{Registration}

-- A number is the key of a text after a folder: the text begins with the folder, and the number is
-- its next eight bytes, big-endian.
pub record IsKey (folder text : Bytes) (key : ℕ) : Type 0 where
  pub bytes : Bytes
  pub rest : Bytes
  pub parts : text ≡ folder ++ bytes ++ rest
  pub eight : length bytes ≡ 8
  pub small : All (λ b. b < 256) bytes
  pub number : key ≡ from_be_bytes w64 bytes

-- all of a path before its base name
abbrev pub folder_part : Path → Bytes
folder_part path =
    take (length path - (length (hash_part_of path) + 1 + length (name_of path))) path

-- the folder of the first of some paths, with its slash
abbrev pub first_folder : List Path → Bytes
first_folder [] = []
first_folder (path ∷ paths) = folder_part path

-- the folder of the first path of a table, with its slash
abbrev pub folder_of : List Registration → Bytes
folder_of registrations = first_folder (paths_registered registrations)

-- each row is paired with 0, or with the key of its path in the folder of the first path
abbrev pub AreKeyed : List Registration → List (ℕ × ℕ) → Type 0
AreKeyed registrations keyed = All
    (λ k. (k.0 ≡ 0) ⊎ (IsKey (folder_of registrations) (path_at registrations k.1) k.0)) keyed

-- keys rise strictly, and the first is greater than a bound
abbrev pub KeysRiseAbove : ℕ → List (ℕ × ℕ) → Type 0
KeysRiseAbove bound [] = Unit {0}
KeysRiseAbove bound (k ∷ keyed) = (bound < k.0) × KeysRiseAbove k.0 keyed
