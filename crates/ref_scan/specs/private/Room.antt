-- The room that is left beside a tree, as `Tree::fits` counts it down.
use Rattle.std.specs.Prelude.{◌≡◌, ℕ, ◌+◌, ◌≤◌}
use Rattle.ref_scan.specs.Trees.{depth_of, entry_count, file_bytes}
use Rattle.ref_scan.specs.declared.tree.Room.{Room}
use Rattle.ref_scan.specs.declared.tree.Tree.{Tree}

-- A tree fits in the room, with at most `below` levels below its root.
pub record FitsIn (below : ℕ) (room : Room) (tree : Tree) : Type 0 where
  pub depth : depth_of tree ≤ below + 1
  pub entries : entry_count tree ≤ room.entries
  pub bytes : file_bytes tree ≤ room.bytes

-- A tree fits in the room, and this is what is left.
pub record Fills (below : ℕ) (room : Room) (tree : Tree) (left : Room) : Type 0 where
  pub depth : depth_of tree ≤ below + 1
  pub entries : left.entries + entry_count tree ≡ room.entries
  pub bytes : left.bytes + file_bytes tree ≡ room.bytes
