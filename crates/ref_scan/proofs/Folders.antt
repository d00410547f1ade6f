-- What `specs/Trees` and `specs/Links` say of a folder, over the list of its entries.
use Rattle.std.proofs.Common.{◌≡◌, ◌∙◌, ℕ, ◌+◌, ◌≤◌, ◌<◌, max, List, [], ◌∷◌, ◌++◌, length, drop, get_or, refl, ap, arith, rules}
use Rattle.std.proofs.lemmas.List.{drop_more}
use Rattle.ref_scan.specs.Links.{targets, targets_among}
use Rattle.ref_scan.specs.private.Walk.{count_below, pieces_below}
use Rattle.ref_scan.specs.Trees.{pieces, pieces_among, depth_of, depth_among, entry_count, entry_count_among, file_bytes, file_bytes_among}
use Rattle.ref_scan.specs.declared.tree.Tree.{Tree, File, Pieces, Executable, Link, Dir, Dir', Row_of-Member, end_of-Member, more_of-Member, items-the_row-Member}
use Rattle.ref_scan.specs.declared.tree.Tree.TheBlock.{hidden-the_row-Member-0, items_hidden-the_row-Member-0}
use Rattle.ref_scan.specs.declared.tree.Member.{Member}

abbrev pub depth_below : List Member → ℕ
depth_below [] = 0
depth_below (e ∷ es) = max (depth_of e.tree) (depth_below es)

abbrev pub bytes_below : List Member → ℕ
bytes_below [] = 0
bytes_below (e ∷ es) = file_bytes e.tree + bytes_below es

-- the targets of the links that some members of a folder are or have below them
abbrev pub targets_below : List Member → List (List ℕ)
targets_below [] = []
targets_below (e ∷ es) = targets e.tree ++ targets_below es

pieces_row : {m : _} (row : Row_of-Member m) → pieces_among row
    ≡ pieces_below (items-the_row-Member m row)
pieces_row end_of-Member = refl
pieces_row (more_of-Member name tree rest) = search (rules, pieces_row rest)

depth_row : {m : _} (row : Row_of-Member m) → depth_among row
    ≡ depth_below (items-the_row-Member m row)
depth_row end_of-Member = refl
depth_row (more_of-Member name tree rest) = ap (max (depth_of tree)) (depth_row rest)

count_row : {m : _} (row : Row_of-Member m) → entry_count_among row
    ≡ count_below (items-the_row-Member m row)
count_row end_of-Member = refl
count_row (more_of-Member name tree rest) = search (rules, count_row rest)

bytes_row : {m : _} (row : Row_of-Member m) → file_bytes_among row
    ≡ bytes_below (items-the_row-Member m row)
bytes_row end_of-Member = refl
bytes_row (more_of-Member name tree rest) = ap (λ n. file_bytes tree + n) (bytes_row rest)

targets_row : {m : _} (row : Row_of-Member m) → targets_among row
    ≡ targets_below (items-the_row-Member m row)
targets_row end_of-Member = refl
targets_row (more_of-Member name tree rest) = ap (λ l. targets tree ++ l) (targets_row rest)

pub targets_dir : (entries : _) → targets (Dir entries) ≡ targets_below entries.items
targets_dir entries =
    targets_row (hidden-the_row-Member-0 entries)
    ∙ ap targets_below (items_hidden-the_row-Member-0 entries)

pub pieces_dir : (entries : _) → pieces (Dir entries) ≡ pieces_below entries.items
pieces_dir entries =
    pieces_row (hidden-the_row-Member-0 entries)
    ∙ ap pieces_below (items_hidden-the_row-Member-0 entries)

pub depth_dir : (entries : _) → depth_of (Dir entries) ≡ 1 + depth_below entries.items
depth_dir entries =
    ap (λ n. 1 + n) (depth_row (hidden-the_row-Member-0 entries)
    ∙ ap depth_below (items_hidden-the_row-Member-0 entries))

pub count_dir : (entries : _) → entry_count (Dir entries) ≡ count_below entries.items
count_dir entries =
    count_row (hidden-the_row-Member-0 entries)
    ∙ ap count_below (items_hidden-the_row-Member-0 entries)

pub bytes_dir : (entries : _) → file_bytes (Dir entries) ≡ bytes_below entries.items
bytes_dir entries =
    bytes_row (hidden-the_row-Member-0 entries)
    ∙ ap bytes_below (items_hidden-the_row-Member-0 entries)

-- each tree has a level
pub depth_some : (tree : Tree) → 1 ≤ depth_of tree
depth_some (File bytes) = omega arith
depth_some (Pieces parts) = omega arith
depth_some (Executable parts) = omega arith
depth_some (Link target) = omega arith
depth_some (Dir' shape entries) = omega arith

-- a folder has no fewer entries than members
pub members_counted : (es : List Member) → length es ≤ count_below es
members_counted [] = omega arith
members_counted (e ∷ es) = omega (arith, members_counted es)

-- what is left of a list begins with the element at hand
pub left_from : {X : Type 0} (xs : List X) (i : ℕ) (x : X) → i < length xs → x ≡ get_or xs i x
    → drop i xs ≡ x ∷ drop (i + 1) xs
left_from xs i x lt is = search (rules, drop_more)
