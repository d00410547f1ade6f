-- The archive of a tree, called NAR (E. Dolstra, "The Purely Functional Software Deployment Model",
-- 2006, figure 5.2; Nix manual, "Nix Archive (NAR) format").
use Rattle.std.specs.Prelude.{ℕ, ◌-◌, ◌%◌, Bool, true, false, List, [], ◌∷◌, ◌++◌, length, codes}
use Rattle.std.specs.List.{flat_map}
use Rattle.std.specs.Int.{w64, to_le_bytes}
use Rattle.std.proofs.Math.ListN.{replicate}
use Rattle.nix_archive.specs.Trees.{Bytes, Tree, Entries, File, Link, Folder, NoEntries, Entry}

-- zero bytes from a length up to a multiple of eight
unfoldable pub padding : ℕ → Bytes
padding n = replicate ((8 - n % 8) % 8) 0

-- a length in eight bytes, the lowest first
unfoldable pub size_text : ℕ → Bytes
size_text n = to_le_bytes w64 n

-- a string: its length, its bytes, and the padding
unfoldable pub str : Bytes → Bytes
str bytes = size_text (length bytes) ++ (bytes ++ padding (length bytes))

-- some strings in a row
abbrev pub strs : List Bytes → Bytes
strs all = flat_map str all

-- the mark of a file that its owner may execute
abbrev pub mark : Bool → Bytes
mark true = strs (codes "executable" ∷ [] ∷ [])
mark false = []

abbrev mutual
  -- the text of a tree within an archive
  pub node : Tree → Bytes
  node (File executable bytes) =
      strs (codes "(" ∷ codes "type" ∷ codes "regular" ∷ []) ++ (mark executable
      ++ strs (codes "contents" ∷ bytes ∷ codes ")" ∷ []))
  node (Link target) =
      strs (codes "(" ∷ codes "type" ∷ codes "symlink" ∷ codes "target" ∷ target ∷ codes ")" ∷ [])
  node (Folder entries) =
      strs (codes "(" ∷ codes "type" ∷ codes "directory" ∷ []) ++ (nodes entries ++ str (codes ")"))

  -- the texts of a folder's entries
  pub nodes : Entries → Bytes
  nodes NoEntries = []
  nodes (Entry name tree rest) =
      strs (codes "entry" ∷ codes "(" ∷ codes "name" ∷ name ∷ codes "node" ∷ [])
      ++ (node tree ++ (str (codes ")") ++ nodes rest))

-- the string with which each archive begins
abbrev pub magic : Bytes
magic = str (codes "nix-archive-1")

-- the archive of a tree
abbrev pub nar : Tree → Bytes
nar tree = magic ++ node tree
