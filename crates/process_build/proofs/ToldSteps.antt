-- The steps that make a tree tell which tree it is.
use Rattle.std.proofs.Common.{◌≡◌, ◌∙◌, Option, Some, None, List, [], ◌∷◌, ◌++◌, false, ap, append-nil, append_assoc, map, refl, subst, sym}
use Rattle.std.proofs.lemmas.List.{append_cancel_left}
use Rattle.nix_archive.specs.Trees.{AreEntries, Bytes, Entries, Entry, File, Folder, IsArchivable, IsName, Link, NoEntries, Tree, is_name_byte}
use Rattle.nix_archive.proofs.Names.{no_name_byte}
use Rattle.process_build.specs.MadeTrees.{Step, ByteWritten, FileClosed, FileMade, FolderMade, LinkMade, StepsTellTrees, steps_among, steps_of}
use Rattle.process_build.specs.Contents.{child_of}

-- the path at which a step makes something
path_of : Step → Option Bytes
path_of (FolderMade path) = Some path
path_of (FileMade path executable) = Some path
path_of (ByteWritten byte) = None
path_of FileClosed = None
path_of (LinkMade path target) = Some path

-- some steps begin with one that makes something below a path
record BeginsBelow (path : Bytes) (steps : List Step) : Type 0 where
  first : Step
  rest : List Step
  below : Bytes
  begins : steps ≡ first ∷ rest
  lies : path_of first ≡ Some (child_of path below)

-- a tree's steps begin with one at its path
record BeginsAt (path : Bytes) (steps : List Step) : Type 0 where
  first : Step
  rest : List Step
  begins : steps ≡ first ∷ rest
  lies : path_of first ≡ Some path

begins_at : (path : Bytes) (tree : Tree) → BeginsAt path (steps_of path tree)
unfolding path_of
begins_at path (File executable bytes) = record {
  first = FileMade path executable;
  rest = map ByteWritten bytes ++ FileClosed ∷ [];
  begins = refl;
  lies = refl;
}
begins_at path (Link target) = record {
  first = LinkMade path target;
  rest = [];
  begins = refl;
  lies = refl;
}
begins_at path (Folder entries) = record {
  first = FolderMade path;
  rest = steps_among path entries;
  begins = refl;
  lies = refl;
}

slash_apart : is_name_byte 47 ≡ false
unfolding is_name_byte
slash_apart = refl

-- what lies below an entry lies below its folder
deeper : (path name : Bytes) (more : List Step) → BeginsBelow (child_of path name) more
    → BeginsBelow path more
deeper path name more b = record {
  first = b.first;
  rest = b.rest;
  below = name ++ 47 ∷ b.below;
  begins = b.begins;
  lies = b.lies ∙ ap Some (append_assoc path (47 ∷ name) (47 ∷ b.below));
}

-- what comes after an entry begins with nothing below it
past : (path name : Bytes) (rest : Entries) (after : List Step) → AreEntries name rest
    → (BeginsBelow path after → ⊥)
    → BeginsBelow (child_of path name) (steps_among path rest ++ after) → ⊥
past path name NoEntries after are not b = not (deeper path name after b)
past path name (Entry next tree rest) after are not b =
    let at = begins_at (child_of path next) tree in
    let same : at.first ∷ (at.rest ++ (steps_among path rest ++ after)) ≡ b.first ∷ b.rest =
    ap (λ l. l ++ (steps_among path rest ++ after)) (sym at.begins)
    ∙ sym (append_assoc (steps_of (child_of path next) tree) (steps_among path rest) after)
    ∙ b.begins in
    let first : at.first ≡ b.first = cc in
    let lies : Some (child_of path next) ≡ Some (child_of (child_of path name) b.below) =
    sym at.lies ∙ ap path_of first ∙ b.lies in
    let paths : child_of path next ≡ child_of (child_of path name) b.below = cc in
    let below : child_of path next ≡ path ++ 47 ∷ (name ++ 47 ∷ b.below) =
    paths ∙ append_assoc path (47 ∷ name) (47 ∷ b.below) in
    let names : 47 ∷ next ≡ 47 ∷ (name ++ 47 ∷ b.below) = append_cancel_left path _ _ below in
    let is : next ≡ name ++ 47 ∷ b.below = cc in
    no_name_byte name b.below 47 slash_apart (subst IsName is are.0)

-- the bytes of a file, by the steps that write them
bytes_told : (some other : Bytes) (after later : List Step)
    → (map ByteWritten some ++ FileClosed ∷ []) ++ after
    ≡ (map ByteWritten other ++ FileClosed ∷ []) ++ later
    → (some ≡ other) × (after ≡ later)
bytes_told [] [] after later h = (refl, cc)
bytes_told [] (x ∷ xs) after later h = absurd cc
bytes_told (x ∷ xs) [] after later h = absurd cc
bytes_told (x ∷ xs) (y ∷ ys) after later h =
    let first : x ≡ y = cc in
    let more = bytes_told xs ys after later cc in
    let rest : xs ≡ ys = more.0 in
    (cc, more.1)

-- an entry's steps begin below its folder
entry_below : (path name : Bytes) (tree : Tree) (rest : Entries) (after more : List Step)
    → steps_among path (Entry name tree rest) ++ after ≡ more → BeginsBelow path more
entry_below path name tree rest after more h =
    let at = begins_at (child_of path name) tree in
    record {
      first = at.first;
      rest = (at.rest ++ steps_among path rest) ++ after;
      below = name;
      begins = sym h ∙ ap (λ l. (l ++ steps_among path rest) ++ after) at.begins;
      lies = at.lies;
    }

-- steps that are the same are of entries of the same name
same_name : (path name next : Bytes) (tree twin : Tree) (after later : List Step)
    → steps_of (child_of path name) tree ++ after ≡ steps_of (child_of path next) twin ++ later
    → name ≡ next
same_name path name next tree twin after later h =
    let at = begins_at (child_of path name) tree in
    let to = begins_at (child_of path next) twin in
    let same : at.first ∷ (at.rest ++ after) ≡ to.first ∷ (to.rest ++ later) =
    ap (λ l. l ++ after) (sym at.begins) ∙ h ∙ ap (λ l. l ++ later) to.begins in
    let first : at.first ≡ to.first = cc in
    let lies : Some (child_of path name) ≡ Some (child_of path next) =
    sym at.lies ∙ ap path_of first ∙ to.lies in
    let paths : child_of path name ≡ child_of path next = cc in
    let names : 47 ∷ name ≡ 47 ∷ next = append_cancel_left path _ _ paths in
    cc

mutual
  tree_told : (some other : Tree) (path : Bytes) (after later : List Step) → IsArchivable some
      → IsArchivable other → (BeginsBelow path after → ⊥) → (BeginsBelow path later → ⊥)
      → steps_of path some ++ after ≡ steps_of path other ++ later
      → (some ≡ other) × (after ≡ later)
  tree_told (File x bytes) (File y others) path after later a b not never h =
      let same : x ≡ y = cc in
      let more = bytes_told bytes others after later cc in
      let rest : bytes ≡ others = more.0 in
      (cc, more.1)
  tree_told (File x bytes) (Link target) path after later a b not never h = absurd cc
  tree_told (File x bytes) (Folder _) path after later a b not never h = absurd cc
  tree_told (Link target) (File y others) path after later a b not never h = absurd cc
  tree_told (Link target) (Link other) path after later a b not never h =
      let same : target ≡ other = cc in (cc, cc)
  tree_told (Link target) (Folder _) path after later a b not never h = absurd cc
  tree_told (Folder _) (File y others) path after later a b not never h = absurd cc
  tree_told (Folder _) (Link target) path after later a b not never h = absurd cc
  tree_told (Folder inside) (Folder others) path after later a b not never h =
      let more = among_told inside others [] [] path after later a b not never cc in
      let same : inside ≡ others = more.0 in
      (cc, more.1)

  among_told : (some other : Entries) (before above : Bytes) (path : Bytes)
      (after later : List Step) → AreEntries before some → AreEntries above other
      → (BeginsBelow path after → ⊥) → (BeginsBelow path later → ⊥)
      → steps_among path some ++ after ≡ steps_among path other ++ later
      → (some ≡ other) × (after ≡ later)
  among_told NoEntries NoEntries before above path after later a b not never h = (refl, h)
  among_told NoEntries (Entry name tree rest) before above path after later a b not never h =
      absurd (not (entry_below path name tree rest later after (sym h)))
  among_told (Entry name tree rest) NoEntries before above path after later a b not never h =
      absurd (never (entry_below path name tree rest after later h))
  among_told (Entry name tree rest) (Entry next twin more) before above path after later a b not
      never h =
      let whole : steps_of (child_of path name) tree ++ (steps_among path rest ++ after)
      ≡ steps_of (child_of path next) twin ++ (steps_among path more ++ later) =
      sym (append_assoc (steps_of (child_of path name) tree) (steps_among path rest) after) ∙ h
      ∙ append_assoc (steps_of (child_of path next) twin) (steps_among path more) later in
      let names : name ≡ next = same_name path name next tree twin _ _ whole in
      let inside = tree_told tree twin (child_of path name) (steps_among path rest ++ after)
      (steps_among path more ++ later) a.2 b.2 (past path name rest after a.3 not)
      (past path name more later (subst (λ n. AreEntries n more) (sym names) b.3) never)
      (whole ∙ ap (λ n. steps_of (child_of path n) twin ++ (steps_among path more ++ later))
      (sym names)) in
      let trees : tree ≡ twin = inside.0 in
      let others = among_told rest more name next path after later a.3 b.3 not never inside.1 in
      let rests : rest ≡ more = others.0 in
      (cc, others.1)

none_below : (path : Bytes) → BeginsBelow path [] → ⊥
none_below path b = let e : [] ≡ b.first ∷ b.rest = b.begins in absurd cc

pub steps_tell : StepsTellTrees
steps_tell path some other a b h =
    (tree_told some other path [] [] a b (none_below path) (none_below path)
    (append-nil (steps_of path some) ∙ h ∙ sym (append-nil (steps_of path other)))).0
