-- A tree in memory for each tree of an archive that could lie in memory.
use Rattle.std.proofs.Common.{inl, ◌≡◌, ◌∙◌, ◌≤◌, ◌<◌, ◌+◌, ◌^◌, ◌-◌, ℕ, Bool, true, false, List, [], ◌∷◌, ◌++◌, length, take, drop, refl, ap, sym, subst, append-nil, arith, length-append, length-drop, length-take, take-append-drop}
use Rattle.std.specs.declared.alloc.Global.{Global}
use Rattle.std.specs.declared.vec.Vec.{Vec}
use Rattle.std.proofs.Math.Nat.{le_refl}
use Rattle.std.specs.Prelude.{codes}
use Rattle.nix_archive.specs.Archive.{magic, node, nodes, padding, size_text, str, strs}
use Rattle.nix_archive.specs.Tokens.{EntryEnded, FolderEnded, Token, tokens_of, tokens_among}
use Rattle.nix_archive.specs.Trees.{AreEntries, Bytes, Tree as Archived, File as ArchivedFile, Link as ArchivedLink, Folder, Entries, NoEntries, Entry, IsArchivable}
use Rattle.ref_scan.specs.ArchivedTrees.{ArchivesHaveTrees, HasTree, LieInMemory, LiesInMemory, ShortArchivesLie, archived_entries, count_of_entries, width}
use Rattle.ref_scan.specs.Hearing.{AreTokensShort, HeardTreesLie}
use Rattle.ref_scan.specs.Trees.{joined}
use Rattle.ref_scan.specs.private.Telling.{AreBelow}
use Rattle.ref_scan.specs.declared.tree.Tree.{Pieces, Executable, Link, Dir}
use Rattle.ref_scan.specs.declared.tree.Member.{Member}
use Rattle.ref_scan.proofs.Belows.{dir_from_below}
use denote.RawPtr.{null_ptr}

-- ---- vectors

pub heap : Global
heap = record { memory = record { seal = tt } }

abbrev pub vec_of : {X : Type 0} → (xs : List X) → length xs < 2 ^ 63 → Vec X Global
vec_of xs few = record {
  ptr = null_ptr;
  len = length xs;
  cap = length xs;
  alloc = heap;
  items = xs;
  ok = (refl, le_refl (length xs));
  small = few;
}

-- ---- a file, in three pieces

-- the most bytes of a piece
abbrev most : ℕ
most = 2 ^ 63 - 1

-- Pieces that make some bytes together.
record HasPieces (bytes : Bytes) : Type 0 where
  pub parts : Vec (Vec ℕ Global) Global
  pub are : joined parts.items ≡ bytes

in_three : (bytes : Bytes) → take most bytes ++ (take most (drop most bytes)
    ++ (drop most (drop most bytes) ++ [])) ≡ bytes
in_three bytes =
    ap (λ l. take most bytes ++ (take most (drop most bytes) ++ l))
    (append-nil (drop most (drop most bytes)))
    ∙ ap (λ l. take most bytes ++ l) (take-append-drop most (drop most bytes))
    ∙ take-append-drop most bytes

take_few : (n : ℕ) (bytes : Bytes) → n < 2 ^ 63 → length (take n bytes) < 2 ^ 63
take_few n bytes few = omega (arith, length-take n bytes)

rest_few : (bytes : Bytes) → length bytes < 2 ^ 64 → length (drop most (drop most bytes)) < 2 ^ 63
rest_few bytes few = omega (arith, length-drop most bytes, length-drop most (drop most bytes))

has_pieces : (bytes : Bytes) → length bytes < 2 ^ 64 → HasPieces bytes
has_pieces bytes few = record {
  parts = vec_of (vec_of (take most bytes) (take_few most bytes (omega arith))
      ∷ vec_of (take most (drop most bytes)) (take_few most (drop most bytes) (omega arith))
      ∷ vec_of (drop most (drop most bytes)) (rest_few bytes few) ∷ []) (omega arith);
  are = in_three bytes;
}

has_file : (executable : Bool) (bytes : Bytes) → HasPieces bytes
    → HasTree (ArchivedFile executable bytes)
has_file true bytes h = record {
  tree = Executable h.parts;
  archive = ap (ArchivedFile true) (sym h.are);
}
has_file false bytes h = record {
  tree = Pieces h.parts;
  archive = ap (ArchivedFile false) (sym h.are);
}

-- ---- a folder

-- Members of which these are the entries.
record HasMembers (entries : Entries) : Type 0 where
  pub members : List Member
  pub below : AreBelow members entries
  pub count : length members ≡ width entries

has_folder : (entries : Entries) → width entries < 2 ^ 63 → HasMembers entries
    → HasTree (Folder entries)
has_folder entries few h =
    let members : Vec Member Global =
    vec_of h.members (subst (λ n. n < 2 ^ 63) (sym h.count) few) in
    record { tree = Dir members; archive = dir_from_below members entries h.below }

has_entry : (name : Bytes) (node : Archived) (rest : Entries) → length name < 2 ^ 63
    → HasTree node → HasMembers rest → HasMembers (Entry name node rest)
has_entry name node rest few h more = record {
  members = record { name = vec_of name few; tree = h.tree } ∷ more.members;
  below = (node, rest, h.archive, inl (refl, refl, refl), more.below);
  count = omega (arith, more.count);
}

mutual
  has_tree : (a : Archived) → IsArchivable a → LiesInMemory a → HasTree a
  has_tree (ArchivedFile executable bytes) is lies =
      has_file executable bytes (has_pieces bytes is.sized)
  has_tree (ArchivedLink target) is lies =
      record { tree = Link (vec_of target lies); archive = refl }
  has_tree (Folder entries) is lies =
      has_folder entries lies.0 (has_members [] entries is lies.1)

  has_members : (before : Bytes) (entries : Entries) → AreEntries before entries
      → LieInMemory entries → HasMembers entries
  has_members before NoEntries is lie = record { members = []; below = refl; count = refl }
  has_members before (Entry name tree rest) is lie =
      has_entry name tree rest lie.0 (has_tree tree is.2 lie.1) (has_members name rest is.3 lie.2)

pub archives_have_trees : ArchivesHaveTrees
archives_have_trees archived is lies = has_tree archived is lies

-- ---- what was heard

short_left : (xs ys : List Token) → AreTokensShort (xs ++ ys) → AreTokensShort xs
short_left [] ys h = tt
short_left (x ∷ xs) ys h = (h.0, short_left xs ys h.1)

short_right : (xs ys : List Token) → AreTokensShort (xs ++ ys) → AreTokensShort ys
short_right [] ys h = h
short_right (x ∷ xs) ys h = short_right xs ys h.1

width_few : (entries : Entries) → width entries ≤ count_of_entries entries
width_few NoEntries = omega arith
width_few (Entry name tree rest) = omega (arith, width_few rest)

mutual
  heard_lies : (a : Archived) → AreTokensShort (tokens_of a) → archived_entries a < 2 ^ 63
      → LiesInMemory a
  heard_lies (ArchivedFile executable bytes) short few = tt
  heard_lies (ArchivedLink target) short few = short.0
  heard_lies (Folder entries) short few = (
    omega (arith, few, width_few entries),
    heard_lie entries (short_left (tokens_among entries) (FolderEnded ∷ []) short.1) few,
  )

  heard_lie : (entries : Entries) → AreTokensShort (tokens_among entries)
      → count_of_entries entries < 2 ^ 63 → LieInMemory entries
  heard_lie NoEntries short few = tt
  heard_lie (Entry name tree rest) short few = (
    short.0,
    heard_lies tree (short_left (tokens_of tree) (EntryEnded ∷ tokens_among rest) short.1)
        (omega (arith, few)),
    heard_lie rest (short_right (tokens_of tree) (EntryEnded ∷ tokens_among rest) short.1).1
        (omega (arith, few)),
  )

pub heard_trees_lie : HeardTreesLie
heard_trees_lie archived short keeps = heard_lies archived short (omega (arith, keeps.entries))

-- ---- the bytes of an archive

str_long : (bytes : Bytes) → length bytes ≤ length (str bytes)
unfolding str
str_long bytes =
    omega (
      arith,
      length-append (size_text (length bytes)) (bytes ++ padding (length bytes)),
      length-append bytes (padding (length bytes)),
    )

-- a string is as long as each of its parts
strs_long : (before after : List Bytes) (bytes : Bytes)
    → length bytes ≤ length (strs (before ++ bytes ∷ after))
strs_long [] after bytes =
    omega (arith, str_long bytes, length-append (str bytes) (strs after))
strs_long (b ∷ bs) after bytes =
    omega (
      arith,
      strs_long bs after bytes,
      length-append (str b) (strs (bs ++ bytes ∷ after)),
    )

-- the text before what stands under an entry's name
abbrev head : (name : Bytes) → Bytes
head name = strs (codes "entry" ∷ codes "(" ∷ codes "name" ∷ name ∷ codes "node" ∷ [])

-- The parts of an entry's text are not longer than all of it.
record IsEntryLong (name : Bytes) (tree : Archived) (rest : Entries) : Type 0 where
  pub name_long : length name ≤ length (nodes (Entry name tree rest))
  pub tree_long : length (node tree) ≤ length (nodes (Entry name tree rest))
  pub rest_long : 1 + length (nodes rest) ≤ length (nodes (Entry name tree rest))

three_long : (a b c d : Bytes)
    → length (a ++ (b ++ (c ++ d))) ≡ length a + length b + length c + length d
three_long a b c d =
    omega (arith, length-append a (b ++ (c ++ d)), length-append b (c ++ d), length-append c d)

entry_long : (name : Bytes) (tree : Archived) (rest : Entries) → IsEntryLong name tree rest
entry_long name tree rest =
    let all = three_long (head name) (node tree) (str (codes ")")) (nodes rest) in
    let word : 5 ≤ length (head name) = strs_long []
    (codes "(" ∷ codes "name" ∷ name ∷ codes "node" ∷ []) (codes "entry") in
    let of_name : length name ≤ length (head name) = strs_long
    (codes "entry" ∷ codes "(" ∷ codes "name" ∷ []) (codes "node" ∷ []) name in
    record {
      name_long = omega (arith, all, of_name);
      tree_long = omega (arith, all);
      rest_long = omega (arith, all, word);
    }

folder_long : (entries : Entries) → length (nodes entries) ≤ length (node (Folder entries))
folder_long entries =
    let begun : Bytes = strs (codes "(" ∷ codes "type" ∷ codes "directory" ∷ []) in
    omega (
      arith,
      length-append begun (nodes entries ++ str (codes ")")),
      length-append (nodes entries) (str (codes ")")),
    )

width_short : (entries : Entries) → width entries ≤ length (nodes entries)
width_short NoEntries = omega arith
width_short (Entry name tree rest) =
    omega (arith, width_short rest, (entry_long name tree rest).rest_long)

mutual
  node_lies : (a : Archived) → length (node a) < 2 ^ 63 → LiesInMemory a
  node_lies (ArchivedFile executable bytes) few = tt
  node_lies (ArchivedLink target) few = omega (
    arith,
    few,
    strs_long (codes "(" ∷ codes "type" ∷ codes "symlink" ∷ codes "target" ∷ [])
        (codes ")" ∷ []) target,
  )
  node_lies (Folder entries) few =
      let short : length (nodes entries) < 2 ^ 63 = omega (arith, few, folder_long entries) in
      (omega (arith, short, width_short entries), nodes_lie entries short)

  nodes_lie : (entries : Entries) → length (nodes entries) < 2 ^ 63 → LieInMemory entries
  nodes_lie NoEntries few = tt
  nodes_lie (Entry name tree rest) few =
      let long = entry_long name tree rest in (
        omega (arith, few, long.name_long),
        node_lies tree (omega (arith, few, long.tree_long)),
        nodes_lie rest (omega (arith, few, long.rest_long)),
      )

pub short_archives_lie : ShortArchivesLie
short_archives_lie archived few =
    node_lies archived (omega (arith, few, length-append magic (node archived)))
