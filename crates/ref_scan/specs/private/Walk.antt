-- A walk of a tree by a list of what it has put off: of each folder that it is in, the members
-- that it visits later. The last folder is the one in which it goes on.
use Rattle.std.specs.Prelude.{◌≡◌, ℕ, ◌+◌, ◌*◌, ◌≤◌, List, [], ◌∷◌, ◌++◌}
use Rattle.std.specs.Borrow.{Bor}
use Rattle.nix_names.specs.Bytes.{Bytes}
use Rattle.ref_scan.specs.Trees.{pieces, entry_count}
use Rattle.ref_scan.specs.declared.tree.Tree.{Tree}
use Rattle.ref_scan.specs.declared.tree.Member.{Member}

-- the pieces of some members of a folder
abbrev pub pieces_below : List Member → List Bytes
pieces_below [] = []
pieces_below (member ∷ members) = member.name.items ∷ (pieces member.tree ++ pieces_below members)

-- some members of a folder and those below them
abbrev pub count_below : List Member → ℕ
count_below [] = 0
count_below (member ∷ members) = 1 + entry_count member.tree + count_below members

-- the pieces that lie ahead, in the order of the walk
abbrev pub pieces_ahead : List (Bor (List Member)) → List Bytes
pieces_ahead [] = []
pieces_ahead (members ∷ folders) = pieces_ahead folders ++ pieces_below members.now

-- how much of the walk lies ahead at most: a step for each folder, and two for each entry
abbrev pub steps_ahead : List (Bor (List Member)) → ℕ
steps_ahead [] = 0
steps_ahead (members ∷ folders) = 1 + 2 * count_below members.now + steps_ahead folders

-- A tree was visited: what was fed and lies ahead is what was fed before, the tree's pieces, and
-- what lay ahead before.
pub record IsVisited (tree : Tree) (fed_before fed : List Bytes)
    (before folders : List (Bor (List Member))) : Type 0 where
  pub pieces : fed ++ pieces_ahead folders ≡ fed_before ++ (pieces tree ++ pieces_ahead before)
  pub steps : steps_ahead folders ≤ 1 + 2 * entry_count tree + steps_ahead before

-- The first of some members was visited, and the others were put off.
pub record IsFirstVisited (members : List Member) (fed_before fed : List Bytes)
    (before folders : List (Bor (List Member))) : Type 0 where
  pub pieces : fed ++ pieces_ahead folders
      ≡ fed_before ++ (pieces_below members ++ pieces_ahead before)
  pub steps : steps_ahead folders ≤ 2 * count_below members + steps_ahead before
