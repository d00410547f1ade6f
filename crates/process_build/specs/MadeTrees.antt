-- How a tree is made at a path, step by step. The steps are calls of the system, as open(2),
-- mkdir(2), symlink(2) and write(2) say what they do.
use Rattle.std.specs.Prelude.{◌≡◌, ℕ, Bool, List, [], ◌∷◌, ◌++◌, map}
use Rattle.nix_archive.specs.Trees.{Bytes, Entries, Entry, File, Folder, IsArchivable, Link, NoEntries, Tree}
use Rattle.process_build.specs.Contents.{child_of}

-- a step
pub data Step : Type 0 where
  -- an empty folder is made at a path
  FolderMade : (path : Bytes) → Step
  -- an empty file is made at a path, which its owner may execute or not; the bytes go into it
  FileMade : (path : Bytes) → (executable : Bool) → Step
  -- a byte is added to the file
  ByteWritten : (byte : ℕ) → Step
  -- the file is closed
  FileClosed : Step
  -- a link is made at a path
  LinkMade : (path target : Bytes) → Step

abbrev mutual
  -- the steps that make a tree at a path
  pub steps_of : (path : Bytes) → Tree → List Step
  steps_of path (File executable bytes) =
      FileMade path executable ∷ (map ByteWritten bytes ++ FileClosed ∷ [])
  steps_of path (Link target) = LinkMade path target ∷ []
  steps_of path (Folder entries) = FolderMade path ∷ steps_among path entries

  -- the steps that make the entries of the folder at a path, each below it under its name
  pub steps_among : (path : Bytes) → Entries → List Step
  steps_among path NoEntries = []
  steps_among path (Entry name tree rest) = steps_of (child_of path name) tree ++ steps_among path rest

-- trees that are made by the same steps at a path are the same tree, so nothing of it is left out
abbrev pub StepsTellTrees : Type 0
StepsTellTrees = (path : Bytes) (some other : Tree) → IsArchivable some → IsArchivable other
    → steps_of path some ≡ steps_of path other → some ≡ other
