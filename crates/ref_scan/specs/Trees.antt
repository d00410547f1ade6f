-- Trees of files, symbolic links and folders: the pieces in which a reference may stand, and the
-- measures that an output's limits bound. In all of them a file that its owner may execute is a file
-- as any other: only an archive (NAR) and the rules on fixed outputs tell the two apart.
use Rattle.std.specs.Prelude.{ℕ, ◌+◌, ◌≤◌, max, List, [], ◌∷◌, ◌++◌, length}
use Rattle.std.specs.List.{flat_map}
use Rattle.std.specs.declared.alloc.Global.{Global}
use Rattle.std.specs.declared.vec.Vec.{Vec}
use Rattle.nix_names.specs.Bytes.{Bytes}
use Rattle.ref_scan.specs.declared.tree.Tree.{Tree, File, Pieces, Executable, Link, Dir', Row_of-Member, end_of-Member, more_of-Member}

-- the bytes that the pieces of a file make together; no pieces are the empty file
abbrev pub joined : List (Vec ℕ Global) → Bytes
joined parts = flat_map (λ part. part.items) parts

abbrev mutual
  -- the pieces of a tree: each file's bytes, each link's target and each entry's name, at any
  -- depth, apart; the root has no name. A file that was read in pieces is the one that they make
  -- together. What a target leads to is no part of the tree.
  pub pieces : Tree → List Bytes
  pieces (File bytes) = bytes.items ∷ []
  pieces (Pieces parts) = joined parts.items ∷ []
  pieces (Executable parts) = joined parts.items ∷ []
  pieces (Link target) = target.items ∷ []
  pieces (Dir' shape entries) = pieces_among entries

  -- the pieces of a folder's entries
  pub pieces_among : {m : _} → Row_of-Member m → List Bytes
  pieces_among end_of-Member = []
  pieces_among (more_of-Member name tree rest) = name.items ∷ (pieces tree ++ pieces_among rest)

abbrev mutual
  -- the levels of a tree: one for a file, a link or an empty folder
  pub depth_of : Tree → ℕ
  depth_of (File bytes) = 1
  depth_of (Pieces parts) = 1
  depth_of (Executable parts) = 1
  depth_of (Link target) = 1
  depth_of (Dir' shape entries) = 1 + depth_among entries

  -- the levels below a folder
  pub depth_among : {m : _} → Row_of-Member m → ℕ
  depth_among end_of-Member = 0
  depth_among (more_of-Member name tree rest) = max (depth_of tree) (depth_among rest)

abbrev mutual
  -- the named members of folders at any depth; the root is none
  pub entry_count : Tree → ℕ
  entry_count (File bytes) = 0
  entry_count (Pieces parts) = 0
  entry_count (Executable parts) = 0
  entry_count (Link target) = 0
  entry_count (Dir' shape entries) = entry_count_among entries

  -- a folder's members and those below them
  pub entry_count_among : {m : _} → Row_of-Member m → ℕ
  entry_count_among end_of-Member = 0
  entry_count_among (more_of-Member name tree rest) = 1 + entry_count tree + entry_count_among rest

abbrev mutual
  -- the bytes of all files and of all targets
  pub file_bytes : Tree → ℕ
  file_bytes (File bytes) = length bytes.items
  file_bytes (Pieces parts) = length (joined parts.items)
  file_bytes (Executable parts) = length (joined parts.items)
  file_bytes (Link target) = length target.items
  file_bytes (Dir' shape entries) = file_bytes_among entries

  -- the bytes of all files and targets of a folder's entries
  pub file_bytes_among : {m : _} → Row_of-Member m → ℕ
  file_bytes_among end_of-Member = 0
  file_bytes_among (more_of-Member name tree rest) = file_bytes tree + file_bytes_among rest

-- A tree keeps the limits of an output: 32 levels, 65,536 entries, 64 MiB of files and targets.
pub record Fits (tree : Tree) : Type 0 where
  pub depth : depth_of tree ≤ 32
  pub entries : entry_count tree ≤ 65536
  pub bytes : file_bytes tree ≤ 67108864
