-- What is scanned and counted of a tree in memory, as the tree of its archive has it; and which
-- trees of archives are those of trees in memory.
use Rattle.std.specs.Prelude.{◌↔◌, ◌+◌, ◌<◌, ◌≤◌, ◌^◌, max, ℕ, List, [], ◌∷◌, ◌++◌, length}
use Rattle.nix_archive.specs.Archive.{nar}
use Rattle.nix_archive.specs.Trees.{Bytes, Tree as Archived, Entries, File, Link, Folder, NoEntries, Entry, IsArchivable}
use Rattle.ref_scan.specs.Archives.{IsArchiveOf}
use Rattle.ref_scan.specs.Scan.{OccursIn}
use Rattle.ref_scan.specs.Trees.{Fits, pieces}
use Rattle.ref_scan.specs.declared.tree.Tree.{Tree}

abbrev mutual
  -- each file's bytes, each link's target and each entry's name
  pub archived_pieces : Archived → List Bytes
  archived_pieces (File executable bytes) = bytes ∷ []
  archived_pieces (Link target) = target ∷ []
  archived_pieces (Folder entries) = pieces_of_entries entries

  -- each file's bytes, each link's target and each entry's name, of a folder's entries
  pub pieces_of_entries : Entries → List Bytes
  pieces_of_entries NoEntries = []
  pieces_of_entries (Entry name tree rest) =
      name ∷ (archived_pieces tree ++ pieces_of_entries rest)

abbrev mutual
  -- the levels: one for a file, a link or an empty folder
  pub archived_depth : Archived → ℕ
  archived_depth (File executable bytes) = 1
  archived_depth (Link target) = 1
  archived_depth (Folder entries) = 1 + depth_of_entries entries

  -- the levels below a folder
  pub depth_of_entries : Entries → ℕ
  depth_of_entries NoEntries = 0
  depth_of_entries (Entry name tree rest) = max (archived_depth tree) (depth_of_entries rest)

abbrev mutual
  -- the entries of folders at any depth
  pub archived_entries : Archived → ℕ
  archived_entries (File executable bytes) = 0
  archived_entries (Link target) = 0
  archived_entries (Folder entries) = count_of_entries entries

  -- a folder's entries and those below them
  pub count_of_entries : Entries → ℕ
  count_of_entries NoEntries = 0
  count_of_entries (Entry name tree rest) = 1 + archived_entries tree + count_of_entries rest

abbrev mutual
  -- the bytes of all files and of all targets
  pub archived_bytes : Archived → ℕ
  archived_bytes (File executable bytes) = length bytes
  archived_bytes (Link target) = length target
  archived_bytes (Folder entries) = bytes_of_entries entries

  -- the bytes of all files and targets of a folder's entries
  pub bytes_of_entries : Entries → ℕ
  bytes_of_entries NoEntries = 0
  bytes_of_entries (Entry name tree rest) = archived_bytes tree + bytes_of_entries rest

-- A tree of an archive keeps the limits of an output.
pub record KeepsLimits (archived : Archived) : Type 0 where
  pub depth : archived_depth archived ≤ 32
  pub entries : archived_entries archived ≤ 65536
  pub bytes : archived_bytes archived ≤ 67108864

-- A tree in memory keeps the limits where the tree of its archive does, and the same parts occur in
-- the two.
pub record IsMeasuredAlike (tree : Tree) (archived : Archived) : Type 0 where
  pub limits : Fits tree ↔ KeepsLimits archived
  pub occurs : (part : Bytes) → OccursIn part (pieces tree)
      ↔ OccursIn part (archived_pieces archived)

-- the tree of an archive is measured as the tree in memory of which it is
abbrev pub ArchivesMeasureAlike : Type 0
ArchivesMeasureAlike = (tree : Tree) (archived : Archived) → IsArchiveOf tree archived
    → IsMeasuredAlike tree archived

-- the entries of a folder, without those below them
abbrev pub width : Entries → ℕ
width NoEntries = 0
width (Entry name tree rest) = 1 + width rest

abbrev mutual
  -- each name and each target is as short as what lies in memory is, and each folder has as few
  -- entries
  pub LiesInMemory : Archived → Type 0
  LiesInMemory (File executable bytes) = Unit {0}
  LiesInMemory (Link target) = length target < 2 ^ 63
  LiesInMemory (Folder entries) = (width entries < 2 ^ 63) × LieInMemory entries

  -- so it is with each of a folder's entries
  pub LieInMemory : Entries → Type 0
  LieInMemory NoEntries = Unit {0}
  LieInMemory (Entry name tree rest) =
      (length name < 2 ^ 63) × LiesInMemory tree × LieInMemory rest

-- A tree in memory of which this is the archive's tree.
pub record HasTree (archived : Archived) : Type 0 where
  pub tree : Tree
  pub archive : IsArchiveOf tree archived

-- there is a tree in memory for each tree of an archive that could lie in memory
abbrev pub ArchivesHaveTrees : Type 0
ArchivesHaveTrees = (archived : Archived) → IsArchivable archived → LiesInMemory archived
    → HasTree archived

-- the tree of an archive of fewer than 2^63 bytes could lie in memory
abbrev pub ShortArchivesLie : Type 0
ShortArchivesLie = (archived : Archived) → length (nar archived) < 2 ^ 63 → LiesInMemory archived
