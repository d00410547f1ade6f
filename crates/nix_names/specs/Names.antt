-- The names of store paths and the folders that hold them (Nix manual, "Store Path").
use Rattle.std.specs.Prelude.{◌≡◌, ◌≢◌, ◌≤◌, ◌==◌, ◌&&◌, ◌||◌, not, Bool, ℕ, List, [], ◌∷◌, length, codes, nat_le, nat_lt, nat_eq, IsTrue, All}
use Rattle.std.specs.Char.{is_ascii_alphanumeric}
use Rattle.std.specs.List.{list_all, list_any, starts_with, ends_with, flat_map}
use Rattle.std.specs.Cmp.Lexicographic.{pointwise}
use Rattle.nix_names.specs.Bytes.{Bytes, Dir, Name}

-- whether a byte may stand in a name: A-Z a-z 0-9 + - . _ ? =
unfoldable pub is_name_char : ℕ → Bool
is_name_char b = is_ascii_alphanumeric b || list_any (λ c. c == b) (codes "+-._?=")

-- whether two lists of bytes are the same
abbrev pub same_bytes : Bytes → Bytes → Bool
same_bytes a b = pointwise nat_eq a b

-- whether a name would read as this folder or the one above it: `.`, `..`, or one of them before
-- the first dash
unfoldable pub is_dotted : Name → Bool
is_dotted name =
    same_bytes name (codes ".") || same_bytes name (codes "..")
    || starts_with nat_eq name (codes ".-") || starts_with nat_eq name (codes "..-")

-- whether some bytes are a store path's name: 1 to 211 of a name's characters, not dotted
unfoldable pub is_name : Name → Bool
is_name name = nat_le 1 (length name) && nat_le (length name) 211 && list_all is_name_char name
    && not (is_dotted name)

-- whether a name is that of a derivation's file: it ends in `.drv`, with at least one byte before
-- it
abbrev pub is_drv_name : Name → Bool
is_drv_name name = nat_lt 4 (length name) && ends_with nat_eq name (codes ".drv")

-- whether some bytes are one component of a store folder
unfoldable pub is_component : Bytes → Bool
is_component part =
    nat_le 1 (length part) && list_all is_name_char part
    && not (same_bytes part (codes ".")) && not (same_bytes part (codes ".."))

-- A store folder: one or more components, each after a slash, in at most 255 bytes.
pub record IsStoreDir (dir : Dir) : Type 0 where
  pub components : List Bytes
  pub some : components ≢ []
  pub each : All (λ part. IsTrue (is_component part)) components
  pub parts : dir ≡ flat_map (λ part. 47 ∷ part) components
  pub short : length dir ≤ 255
