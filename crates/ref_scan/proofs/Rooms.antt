-- The room that is left while a folder's entries are taken up one after the other.
use Rattle.std.proofs.Common.{◌≡◌, ◌∙◌, ℕ, ◌+◌, ◌<◌, max, List, ◌∷◌, length, ap, arith, rules}
use Rattle.ref_scan.specs.private.Room.{FitsIn}
use Rattle.ref_scan.specs.Trees.{depth_of, entry_count, file_bytes}
use Rattle.ref_scan.specs.declared.tree.Room.{Room}
use Rattle.ref_scan.specs.declared.tree.Tree.{Tree, Dir}
use Rattle.ref_scan.specs.declared.tree.Member.{Member}
use Rattle.ref_scan.specs.private.Walk.{count_below}
use Rattle.ref_scan.proofs.Folders.{depth_below, bytes_below, depth_dir, count_dir, bytes_dir, depth_some, members_counted}

-- What is left beside a folder's entries but for these last ones; the room of all members was taken
-- up before the first.
pub record Counting (below : ℕ) (room left : Room) (tree : Tree) (rest : List Member) : Type 0 where
  pub depth : max (depth_of tree) (below + 1) ≡ max (1 + depth_below rest) (below + 1)
  pub entries : room.entries + count_below rest ≡ left.entries + length rest + entry_count tree
  pub bytes : room.bytes + bytes_below rest ≡ left.bytes + file_bytes tree

pub counting_start :
    (below : ℕ) (room left : Room) (tree : Tree) (entries : _) →
    tree ≡ Dir entries →
    left.entries + length entries.items ≡ room.entries →
    left.bytes ≡ room.bytes →
    Counting below room left tree entries.items
counting_start below room left tree entries is members same =
    let depth = ap depth_of is ∙ depth_dir entries in
    let count = ap entry_count is ∙ count_dir entries in
    let files = ap file_bytes is ∙ bytes_dir entries in
    record { depth = omega arith; entries = omega arith; bytes = omega arith }

-- an entry that doesn't fit in what is left
pub counting_full :
    (below b : ℕ) (room left : Room) (tree : Tree) (e : Member) (rest : List Member) →
    below ≡ b + 1 →
    Counting below room left tree (e ∷ rest) →
    ¬ FitsIn b left e.tree →
    ¬ FitsIn below room tree
counting_full below b room left tree e rest is before full fits =
    let more = members_counted rest in
    full (record {
      depth = omega (arith, before.depth, fits.depth);
      entries = omega (arith, before.entries, fits.entries);
      bytes = omega (arith, before.bytes, fits.bytes);
    })

-- an entry where no more levels are allowed
pub counting_deep :
    (below : ℕ) (room left : Room) (tree : Tree) (e : Member) (rest : List Member) →
    below ≡ 0 →
    Counting below room left tree (e ∷ rest) →
    ¬ FitsIn below room tree
counting_deep below room left tree e rest is before fits = search (rules, depth_some)

-- a folder with more members than there is room for
pub folder_wide :
    (below : ℕ) (room : Room) (tree : Tree) (entries : _) →
    tree ≡ Dir entries →
    room.entries < length entries.items →
    ¬ FitsIn below room tree
folder_wide below room tree entries is wide fits =
    search (rules, count_dir, entries, members_counted)
