-- What symbolic links add to a tree's files and names.
use Rattle.std.specs.Prelude.{◌≡◌, ◌↔◌, ◌⊎◌, ℕ, ◌+◌, List, [], ◌∷◌, ◌++◌, length, sum_by}
use Rattle.nix_names.specs.Bytes.{Bytes}
use Rattle.ref_scan.specs.Scan.{OccursIn}
use Rattle.ref_scan.specs.Trees.{file_bytes, joined, pieces}
use Rattle.ref_scan.specs.declared.tree.Tree.{Tree, File, Pieces, Executable, Link, Dir', Row_of-Member, end_of-Member, more_of-Member}

abbrev mutual
  -- the targets of a tree's links, at any depth
  pub targets : Tree → List Bytes
  targets (File bytes) = []
  targets (Pieces parts) = []
  targets (Executable parts) = []
  targets (Link target) = target.items ∷ []
  targets (Dir' shape entries) = targets_among entries

  -- the targets among a folder's entries
  pub targets_among : {m : _} → Row_of-Member m → List Bytes
  targets_among end_of-Member = []
  targets_among (more_of-Member name tree rest) = targets tree ++ targets_among rest

abbrev mutual
  -- the pieces of a tree's files and names, without the targets
  pub plain_pieces : Tree → List Bytes
  plain_pieces (File bytes) = bytes.items ∷ []
  plain_pieces (Pieces parts) = joined parts.items ∷ []
  plain_pieces (Executable parts) = joined parts.items ∷ []
  plain_pieces (Link target) = []
  plain_pieces (Dir' shape entries) = plain_pieces_among entries

  -- the pieces of a folder's entries, without the targets
  pub plain_pieces_among : {m : _} → Row_of-Member m → List Bytes
  plain_pieces_among end_of-Member = []
  plain_pieces_among (more_of-Member name tree rest) =
      name.items ∷ (plain_pieces tree ++ plain_pieces_among rest)

abbrev mutual
  -- the bytes of a tree's files, without the targets
  pub plain_bytes : Tree → ℕ
  plain_bytes (File bytes) = length bytes.items
  plain_bytes (Pieces parts) = length (joined parts.items)
  plain_bytes (Executable parts) = length (joined parts.items)
  plain_bytes (Link target) = 0
  plain_bytes (Dir' shape entries) = plain_bytes_among entries

  -- the bytes of the files of a folder's entries, without the targets
  pub plain_bytes_among : {m : _} → Row_of-Member m → ℕ
  plain_bytes_among end_of-Member = 0
  plain_bytes_among (more_of-Member name tree rest) = plain_bytes tree + plain_bytes_among rest

-- A part occurs in a tree where it occurs in a file's bytes, in a name, or in a target. The bytes of
-- the files and those of the targets are counted together. A tree without links has the pieces of
-- its files and names, in their order.
pub record LinksAdd (tree : Tree) : Type 0 where
  pub occurs : (part : Bytes) → OccursIn part (pieces tree)
      ↔ (OccursIn part (plain_pieces tree) ⊎ OccursIn part (targets tree))
  pub bytes : file_bytes tree ≡ plain_bytes tree + sum_by length (targets tree)
  pub plain : targets tree ≡ [] → pieces tree ≡ plain_pieces tree
