-- What a maker makes of a tree that it hears.
use Rattle.std.proofs.Common.{◌≡◌, ◌∙◌, List, [], ◌∷◌, ◌++◌, ap, append-nil, length, map, refl, subst, sym}
use Rattle.nix_archive.specs.Trees.{Bytes, Entries, Entry, File, Folder, Link, NoEntries, Tree}
use Rattle.nix_archive.specs.Tokens.{Token, EntryEnded, FileByte, FileEnded, FolderEnded, tokens_among, tokens_of}
use Rattle.process_build.specs.MadeTrees.{Step, ByteWritten, FileClosed, FileMade, FolderMade, steps_among, steps_of}
use Rattle.process_build.specs.Contents.{child_of}
use Rattle.process_build.specs.Making.{AreTaken, MakesTrees, Position, position_along, steps_along}
use Rattle.process_build.specs.private.MakingLaws.{position_append, steps_append}

abbrev at : (path : Bytes) (around : List Bytes) → Position
at path around = record { path = path; around = around }

bytes_position : (position : Position) (bytes : Bytes)
    → position_along position (map FileByte bytes) ≡ position
bytes_position position [] = refl
bytes_position position (byte ∷ bytes) = bytes_position position bytes

bytes_steps : (position : Position) (bytes : Bytes)
    → steps_along position (map FileByte bytes) ≡ map ByteWritten bytes
bytes_steps position [] = refl
bytes_steps position (byte ∷ bytes) = ap (λ l. ByteWritten byte ∷ l) (bytes_steps position bytes)

-- a piece of a file was made
pub piece_taken : {M : Type 0} (made : M → List Step → M → Type 0) (position : Position) (s t : M)
    (bytes : Bytes) → made s (map ByteWritten bytes) t
    → AreTaken made position position s t (map FileByte bytes)
piece_taken made position s t bytes h = record {
  steps = subst (λ l. made s l t) (sym (bytes_steps position bytes)) h;
  position = sym (bytes_position position bytes);
}

mutual
  tree_position : (tree : Tree) (path : Bytes) (around : List Bytes)
      → position_along (at path around) (tokens_of tree) ≡ at path around
  tree_position (File executable bytes) path around =
      position_append (at path around) (map FileByte bytes) (FileEnded (length bytes) ∷ [])
      ∙ bytes_position (at path around) bytes
  tree_position (Link target) path around = refl
  tree_position (Folder entries) path around =
      position_append (at path around) (tokens_among entries) (FolderEnded ∷ [])
      ∙ among_position entries path around

  among_position : (entries : Entries) (path : Bytes) (around : List Bytes)
      → position_along (at path around) (tokens_among entries) ≡ at path around
  among_position NoEntries path around = refl
  among_position (Entry name tree rest) path around =
      let child : Bytes = child_of path name in
      let later : List Token = EntryEnded ∷ tokens_among rest in
      position_append (at child (path ∷ around)) (tokens_of tree) later
      ∙ ap (λ p. position_along p later) (tree_position tree child (path ∷ around))
      ∙ among_position rest path around

mutual
  tree_steps : (tree : Tree) (path : Bytes) (around : List Bytes)
      → steps_along (at path around) (tokens_of tree) ≡ steps_of path tree
  tree_steps (File executable bytes) path around =
      ap (λ l. FileMade path executable ∷ l)
      (steps_append (at path around) (map FileByte bytes) (FileEnded (length bytes) ∷ [])
      ∙ ap (λ l. l ++ FileClosed ∷ []) (bytes_steps (at path around) bytes))
  tree_steps (Link target) path around = refl
  tree_steps (Folder entries) path around =
      ap (λ l. FolderMade path ∷ l)
      (steps_append (at path around) (tokens_among entries) (FolderEnded ∷ [])
      ∙ append-nil (steps_along (at path around) (tokens_among entries))
      ∙ among_steps entries path around)

  among_steps : (entries : Entries) (path : Bytes) (around : List Bytes)
      → steps_along (at path around) (tokens_among entries) ≡ steps_among path entries
  among_steps NoEntries path around = refl
  among_steps (Entry name tree rest) path around =
      let child : Bytes = child_of path name in
      let inside : Position = at child (path ∷ around) in
      let later : List Token = EntryEnded ∷ tokens_among rest in
      steps_append inside (tokens_of tree) later
      ∙ ap (λ l. l ++ steps_along (position_along inside (tokens_of tree)) later)
      (tree_steps tree child (path ∷ around))
      ∙ ap (λ p. steps_of child tree ++ steps_along p later)
      (tree_position tree child (path ∷ around))
      ∙ ap (λ l. steps_of child tree ++ l) (among_steps rest path around)

pub makes_trees : MakesTrees
makes_trees tree path around = (tree_steps tree path around, tree_position tree path around)
