-- *Store path*: how its text is made, and which texts are one (Nix manual, "Store Path" and
-- "Complete Store Path Calculation"; Dolstra's thesis, section 5.1).
use Rattle.std.specs.Prelude.{◌≡◌, ◌+◌, ◌%◌, ◌==◌, ◌&&◌, not, Bool, ℕ, [], ◌∷◌, ◌++◌, length, map, take, drop, codes, nat_eq, bit_xor, IsTrue, Option, Some, None, if◌then◌else◌}
use Rattle.std.specs.List.{list_all, starts_with, range_with_len, after_last}
use Rattle.hex.specs.Hex.{encode_lower}
use Rattle.sha2.specs.Sha256.{sha256}
use Rattle.nix_names.specs.Base32.{base32, is_digit}
use Rattle.nix_names.specs.Bytes.{Bytes, Dir, Path, Name, Hash}
use Rattle.nix_names.specs.Names.{is_drv_name, is_name, IsStoreDir}
use Rattle.nix_names.specs.declared.fault.NameFault.{NameFault}
use Rattle.nix_names.specs.declared.fault.NameFault.TheVariants.{NotInStore, BadHashPart, BadName}

-- the text of the path of a folder with this hash part and name
abbrev pub path_text : Dir → (hash : Bytes) → Name → Path
path_text dir hash name = dir ++ (47 ∷ hash ++ (45 ∷ name))

-- what a path's hash part is the digest of
unfoldable pub fingerprint : (kind : Bytes) → (inner : Hash) → Dir → Name → Bytes
fingerprint kind inner dir name =
    kind ++ codes ":sha256:" ++ encode_lower inner ++ codes ":" ++ dir ++ codes ":" ++ name

-- the XOR of those bytes of a list, beginning at index i, whose index leaves j when divided by 20
abbrev pub folded_at : ℕ → ℕ → Hash → ℕ
folded_at j i [] = 0
folded_at j i (b ∷ bs) = bit_xor (if i % 20 == j then b else 0) (folded_at j (i + 1) bs)

-- a digest folded to 20 bytes: byte j is the XOR of all bytes i with i mod 20 = j
unfoldable pub fold : Hash → Bytes
fold digest = map (λ j. folded_at j 0 digest) (range_with_len 0 20)

-- the store path of a type, an inner digest, a folder and a name
unfoldable pub store_path : (kind : Bytes) → (inner : Hash) → Dir → Name → Path
store_path kind inner dir name = path_text dir
    (base32 (fold (sha256 (fingerprint kind inner dir name)))) name

-- whether some bytes are a hash part: 32 characters of the base-32 alphabet
unfoldable pub is_hash_part : Bytes → Bool
is_hash_part hash = length hash == 32 && list_all is_digit hash

-- A text is a path of the folder: the folder, a slash, a hash part, a dash and a name.
pub record IsPathOf (dir : Dir) (text : Path) : Type 0 where
  pub hash : Bytes
  pub name : Name
  pub is_hash : IsTrue (is_hash_part hash)
  pub named : IsTrue (is_name name)
  pub parts : text ≡ path_text dir hash name

-- A text is a store path: a path of some store folder.
pub record IsStorePath (text : Path) : Type 0 where
  pub dir : Dir
  pub is_dir : IsStoreDir dir
  pub is_path : IsPathOf dir text

-- a path's base name: all after its last slash
abbrev pub base_of : Path → Bytes
base_of text = after_last (λ b. b == 47) text

-- a path's hash part: the 32 characters that its base name begins with
abbrev pub hash_part_of : Path → Bytes
hash_part_of text = take 32 (base_of text)

-- a path's name: all of its base name after the dash
abbrev pub name_of : Path → Name
name_of text = drop 33 (base_of text)

-- a path is that of a derivation's file, by its name
abbrev pub IsDrvPath : Path → Type 0
IsDrvPath text = IsTrue (is_drv_name (name_of text))

-- what is wrong with the base name of a path, if anything, the hash part before the name
unfoldable pub base_fault : Bytes → Option NameFault
base_fault base =
    if not (is_hash_part (take 32 base) && starts_with nat_eq (drop 32 base) (codes "-"))
    then Some BadHashPart
    else if not (is_name (drop 33 base)) then Some BadName
    else None

-- what is wrong first with a text as a path of the folder, if anything
unfoldable pub path_fault : Dir → Path → Option NameFault
path_fault dir text =
    if not (starts_with nat_eq text (dir ++ 47 ∷ [])) then Some NotInStore
    else base_fault (drop (length dir + 1) text)
