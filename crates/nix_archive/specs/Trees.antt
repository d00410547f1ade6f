-- Trees, as an archive has them: their times, owners and other modes are left out.
use Rattle.std.specs.Prelude.{◌≡◌, ◌≢◌, ◌<◌, ◌^◌, ◌==◌, ◌&&◌, not, ℕ, Bool, true, List, [], length, codes, nat_eq, slice_index}
use Rattle.std.specs.List.{list_all}
use Rattle.std.specs.Cmp.Lexicographic.{pointwise, slice_cmp}
use Rattle.std.specs.Ordering.{nat_cmp}
use Rattle.std.specs.declared.cmp.Ordering.TheVariants.{Less}

-- some bytes, in order
abbrev pub Bytes : Type 0
Bytes = List ℕ

mutual
  -- a file, which its owner may execute or not, with its bytes; a link with its target; or a folder
  pub data Tree : Type 0 where
    File : (executable : Bool) → (bytes : Bytes) → Tree
    Link : (target : Bytes) → Tree
    Folder : (entries : Entries) → Tree

  -- the entries of a folder, in order
  pub data Entries : Type 0 where
    NoEntries : Entries
    Entry : (name : Bytes) → (tree : Tree) → (rest : Entries) → Entries

-- each is a byte
abbrev pub AreBytes : List ℕ → Type 0
AreBytes bytes = (i : ℕ) → slice_index bytes i < 256

-- A string of an archive: bytes, of which the number has 64 bits.
pub record IsString (bytes : Bytes) : Type 0 where
  pub sized : length bytes < 2 ^ 64
  pub are_bytes : AreBytes bytes

-- whether a byte may stand in a name: neither zero nor `/`
unfoldable pub is_name_byte : ℕ → Bool
is_name_byte byte = not (byte == 0) && not (byte == 47)

-- whether some bytes may be a name, if they are any: not `.` or `..`, without `/` and zero
unfoldable pub may_be_name : Bytes → Bool
may_be_name name =
    list_all is_name_byte name && not (pointwise nat_eq name (codes "."))
    && not (pointwise nat_eq name (codes ".."))

-- A name of an entry.
pub record IsName (name : Bytes) : Type 0 where
  pub is_string : IsString name
  pub not_empty : name ≢ []
  pub allowed : may_be_name name ≡ true

-- the name comes by bytes after the one before it
abbrev pub IsAfter : (before name : Bytes) → Type 0
IsAfter before name = slice_cmp nat_cmp before name ≡ Less

abbrev mutual
  -- The tree may stand in an archive: it has strings, and each folder's entries have names that
  -- rise strictly by bytes.
  pub IsArchivable : Tree → Type 0
  IsArchivable (File executable bytes) = IsString bytes
  IsArchivable (Link target) = IsString target
  IsArchivable (Folder entries) = AreEntries [] entries

  -- the entries may follow one of the name `before`; where this is empty, they begin their folder
  pub AreEntries : (before : Bytes) → Entries → Type 0
  AreEntries before NoEntries = Unit {0}
  AreEntries before (Entry name tree rest) =
      IsName name × IsAfter before name × IsArchivable tree × AreEntries name rest
