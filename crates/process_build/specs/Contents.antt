-- What is read of an output: the bytes of a file, and the members of a folder.
use Rattle.std.specs.Prelude.{◌≡◌, ◌<◌, ◌≤◌, ◌==◌, ◌&&◌, ℕ, Bool, List, [], ◌∷◌, ◌++◌, All, IfSome, Option, bytes_eq, codes, filter, length, not}
use Rattle.std.specs.List.{concat, flat_map, slice_split}
use Rattle.std.specs.Io.KnownBytes.{Consumes, IsAtEnd}
use Rattle.std.specs.declared.alloc.Global.{Global}
use Rattle.std.specs.declared.vec.Vec.{Vec}
use Rattle.nix_names.specs.Bytes.{Bytes, Name}
use Rattle.drv_graph.specs.declared.profile.Profile.{Profile}
use Rattle.drv_graph.specs.declared.profile.Profile.TheVariants.{Plain}
use Rattle.ref_scan.specs.Links.{targets}
use Rattle.ref_scan.specs.Trees.{joined}
use Rattle.ref_scan.specs.declared.tree.Tree.{Tree}

-- The pieces are all bytes that a file had left, where those are known, and none is longer than
-- 65,536 bytes.
pub record IsWhole (old new : Option Bytes) (pieces : List (Vec ℕ Global)) : Type 0 where
  pub is_read : Consumes old new (joined pieces)
  pub is_ended : IsAtEnd new
  pub are_short : All (λ piece. length piece.items ≤ 65536) pieces

-- under `plain` a tree has no symbolic links
abbrev pub IsAllowed : Profile → Tree → Type 0
IsAllowed profile tree = profile ≡ Plain → targets tree ≡ []

-- a file has more bytes left than this number, where they are known
abbrev pub IsMoreThan : ℕ → (left : Option Bytes) → Type 0
IsMoreThan limit left = IfSome left (λ bytes. limit < length bytes)

-- whether a name in the listing of a folder is that of a member: it is not empty, and neither `.`,
-- which is the folder itself, nor `..`, the one above
abbrev pub is_member : Name → Bool
is_member name = not (length name == 0) && not (bytes_eq name (codes "."))
    && not (bytes_eq name (codes ".."))

-- the names of the members in a piece of a folder's listing, in its order; a zero byte ends each
-- name
abbrev pub members_in : (piece : Bytes) → List Name
members_in piece = filter is_member (slice_split (λ byte. byte == 0) piece)

-- The names of all members in what was read of a folder's listing, piece by piece, where that is
-- known.
pub record AreMembersRead (old new : Option Bytes) (names : List Name) : Type 0 where
  pub pieces : List Bytes
  pub is_read : Consumes old new (concat pieces)
  pub are_all : names ≡ flat_map members_in pieces

-- the path of a member of the folder at a path
abbrev pub child_of : (path : Bytes) → Name → Bytes
child_of path name = path ++ 47 ∷ name
