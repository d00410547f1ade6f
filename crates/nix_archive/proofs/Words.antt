-- The archive of a tree as a row of strings, before their lengths and padding.
use Rattle.std.proofs.Common.{◌≡◌, ◌∙◌, ℕ, ◌<◌, ◌^◌, Bool, true, false, List, [], ◌∷◌, ◌++◌, length, refl, ap, sym, append-nil, arith}
use Rattle.std.specs.Prelude.{codes}
use Rattle.std.proofs.lemmas.Grind.{flat_map-append}
use Rattle.nix_archive.specs.Trees.{Tree, Entries, Entry, File, Link, Folder, NoEntries, IsArchivable, AreEntries}
use Rattle.nix_archive.specs.Archive.{nar, node, nodes, str, strs, mark}

-- the mark of a file that may be executed
abbrev pub mark_words : Bool → List (List ℕ)
mark_words true = codes "executable" ∷ [] ∷ []
mark_words false = []

-- the string that ends a tree or an entry
abbrev pub close : List ℕ
close = codes ")"

abbrev mutual
  -- the strings of a tree
  pub words : Tree → List (List ℕ)
  words (File executable bytes) =
      codes "(" ∷ codes "type" ∷ codes "regular" ∷ (mark_words executable
      ++ codes "contents" ∷ bytes ∷ close ∷ [])
  words (Link target) =
      codes "(" ∷ codes "type" ∷ codes "symlink" ∷ codes "target" ∷ target ∷ close ∷ []
  words (Folder entries) =
      codes "(" ∷ codes "type" ∷ codes "directory" ∷ (words_among entries ++ close ∷ [])

  -- the strings of a folder's entries
  pub words_among : Entries → List (List ℕ)
  words_among NoEntries = []
  words_among (Entry name tree rest) =
      codes "entry" ∷ codes "(" ∷ codes "name" ∷ name ∷ codes "node"
      ∷ (words tree ++ close ∷ words_among rest)

-- each string's length is a number of 64 bits
abbrev pub AreSized : List (List ℕ) → Type 0
AreSized [] = Unit {0}
AreSized (word ∷ rest) = (length word < 2 ^ 64) × AreSized rest

sized_both : (xs ys : List (List ℕ)) → AreSized xs → AreSized ys → AreSized (xs ++ ys)
sized_both [] ys a b = b
sized_both (x ∷ xs) ys a b = (a.0, sized_both xs ys a.1 b)

sized_mark : (x : Bool) → AreSized (mark_words x)
sized_mark true = (omega arith, (omega arith, tt))
sized_mark false = tt

mutual
  pub sized_words : (t : Tree) → IsArchivable t → AreSized (words t)
  sized_words (File x bytes) a = (
    omega arith,
    (
      omega arith,
      (
        omega arith,
        sized_both (mark_words x) _ (sized_mark x)
            (omega arith, (a.sized, (omega arith, tt))),
      ),
    ),
  )
  sized_words (Link target) a =
      (omega arith, (omega arith, (omega arith, (omega arith, (a.sized, (omega arith, tt))))))
  sized_words (Folder entries) a = (
    omega arith,
    (
      omega arith,
      (
        omega arith,
        sized_both (words_among entries) (close ∷ [])
            (sized_among entries [] a) (omega arith, tt),
      ),
    ),
  )

  sized_among : (entries : Entries) (before : List ℕ) → AreEntries before entries
      → AreSized (words_among entries)
  sized_among NoEntries before a = tt
  sized_among (Entry name tree rest) before a = (
    omega arith,
    (
      omega arith,
      (
        omega arith,
        (
          a.0.is_string.sized,
          (
            omega arith,
            sized_both (words tree) _
                (sized_words tree a.2) (omega arith, sized_among rest name a.3),
          ),
        ),
      ),
    ),
  )

mark_strs : (x : Bool) → mark x ≡ strs (mark_words x)
mark_strs true = refl
mark_strs false = refl

abbrev file_words : List (List ℕ)
file_words = codes "(" ∷ codes "type" ∷ codes "regular" ∷ []

abbrev folder_words : List (List ℕ)
folder_words = codes "(" ∷ codes "type" ∷ codes "directory" ∷ []

abbrev entry_words : List ℕ → List (List ℕ)
entry_words name = codes "entry" ∷ codes "(" ∷ codes "name" ∷ name ∷ codes "node" ∷ []

mutual
  node_words : (s : Tree) → node s ≡ strs (words s)
  node_words (File x bytes) =
      ap (λ l. strs file_words ++ (l ++ strs (codes "contents" ∷ bytes ∷ close ∷ []))) (mark_strs x)
      ∙ ap (λ l. strs file_words ++ l)
      (sym (flat_map-append str (mark_words x) (codes "contents" ∷ bytes ∷ close ∷ [])))
      ∙ sym (flat_map-append str file_words (mark_words x ++ codes "contents" ∷ bytes ∷ close ∷ []))
  node_words (Link target) = refl
  node_words (Folder entries) =
      ap (λ l. strs folder_words ++ l)
      (ap (λ l. l ++ str close) (nodes_words entries)
      ∙ ap (λ l. strs (words_among entries) ++ l) (sym (append-nil (str close)))
      ∙ sym (flat_map-append str (words_among entries) (close ∷ [])))
      ∙ sym (flat_map-append str folder_words (words_among entries ++ close ∷ []))

  nodes_words : (entries : Entries) → nodes entries ≡ strs (words_among entries)
  nodes_words NoEntries = refl
  nodes_words (Entry name tree rest) =
      ap (λ l. strs (entry_words name) ++ l)
      (ap (λ l. l ++ (str close ++ nodes rest)) (node_words tree)
      ∙ ap (λ l. strs (words tree) ++ (str close ++ l)) (nodes_words rest)
      ∙ sym (flat_map-append str (words tree) (close ∷ words_among rest)))
      ∙ sym (flat_map-append str (entry_words name) (words tree ++ close ∷ words_among rest))

pub nar_words : (s : Tree) → nar s ≡ strs (codes "nix-archive-1" ∷ words s)
nar_words s = ap (λ l. str (codes "nix-archive-1") ++ l) (node_words s)
