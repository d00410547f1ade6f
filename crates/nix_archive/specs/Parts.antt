-- Parts of archives, by what may follow them: the tokens that are still to be heard, with the bytes
-- that are still to be read.
use Rattle.std.specs.Prelude.{◌≡◌, ℕ, ◌⊎◌, Bool, true, false, List, [], ◌∷◌, ◌++◌, length, map, codes, reverse, Vec}
use Rattle.std.specs.declared.alloc.Global.{Global}
use Rattle.nix_archive.specs.Trees.{Bytes, Tree, Entries, IsArchivable, AreBytes, AreEntries, IsName, IsAfter, IsString}
use Rattle.nix_archive.specs.Archive.{mark, node, nodes, padding, str, strs}
use Rattle.nix_archive.specs.Tokens.{Token, FolderEnded, EntryBegun, EntryEnded, FileByte, FileEnded, LinkTo, file_tokens, tokens_among, tokens_of}

-- Some fixed bytes, and then what may follow them.
pub record After (text : Bytes) (P : List Token → Bytes → Type 0) (ts : List Token) (u : Bytes)
    : Type 0 where
  pub rest : Bytes
  pub begins : u ≡ text ++ rest
  pub follows : P ts rest

-- Some tokens are heard first.
pub record Says (said : List Token) (P : List Token → Bytes → Type 0) (ts : List Token) (u : Bytes)
    : Type 0 where
  pub later : List Token
  pub begins : ts ≡ said ++ later
  pub follows : P later u

-- either of two texts, each with what may follow it
abbrev pub Either : (a : Bytes) (P : List Token → Bytes → Type 0) (b : Bytes)
    (Q : List Token → Bytes → Type 0) → List Token → Bytes → Type 0
Either a P b Q ts u = After a P ts u ⊎ After b Q ts u

-- Some bytes of a known length with their padding, and then what may follow these bytes.
pub record Sized (size : ℕ) (Q : Bytes → List Token → Bytes → Type 0) (ts : List Token) (u : Bytes)
    : Type 0 where
  pub bytes : Bytes
  pub long : length bytes ≡ size
  pub are_bytes : AreBytes bytes
  pub follows : After bytes (After (padding size) (Q bytes)) ts u

-- Any string, and then what may follow it.
pub record Counted (Q : Bytes → List Token → Bytes → Type 0) (ts : List Token) (u : Bytes)
    : Type 0 where
  pub bytes : Bytes
  pub is_string : IsString bytes
  pub follows : After (str bytes) (Q bytes) ts u

-- the end of a tree or an entry
abbrev pub close : Bytes
close = str (codes ")")

-- how each tree begins
abbrev pub open_text : Bytes
open_text = strs (codes "(" ∷ codes "type" ∷ [])

-- A tree.
pub record Node (K : List Token → Bytes → Type 0) (ts : List Token) (u : Bytes) : Type 0 where
  pub tree : Tree
  pub archivable : IsArchivable tree
  pub follows : Says (tokens_of tree) (After (node tree) K) ts u

-- the end of the entry before, if there is one
abbrev pub ended : (before : Bytes) → List Token
ended [] = []
ended (byte ∷ bytes) = EntryEnded ∷ []

-- More entries of a folder, and its end. The one before has the name `before`.
pub record Nodes (before : Bytes) (K : List Token → Bytes → Type 0) (ts : List Token) (u : Bytes)
    : Type 0 where
  pub entries : Entries
  pub are : AreEntries before entries
  pub follows : Says (ended before ++ (tokens_among entries ++ FolderEnded ∷ []))
      (After (nodes entries) (After close K)) ts u

-- nothing
abbrev pub Nothing : List Token → Bytes → Type 0
Nothing ts u = (ts ≡ []) × (u ≡ [])

-- what follows a tree, by the names of the entries that it lies in, the innermost first
abbrev pub Outer : List Bytes → List Token → Bytes → Type 0
Outer [] = Nothing
Outer (before ∷ outer) = After close (Nodes before (Outer outer))

-- what follows a file's bytes
abbrev pub file : Bool → (K : List Token → Bytes → Type 0) → Bytes → List Token → Bytes → Type 0
file executable K bytes = Says (file_tokens executable bytes) (After close K)

-- what follows a link's target
abbrev pub link : (K : List Token → Bytes → Type 0) → Bytes → List Token → Bytes → Type 0
link K target = Says (LinkTo target ∷ []) (After close K)

-- what follows an entry's name
abbrev pub named : (before : Bytes) (outer : List Bytes) → Bytes → List Token → Bytes → Type 0
named before outer name ts u = IsName name × IsAfter before name
    × Says (EntryBegun name ∷ []) (After (str (codes "node")) (Node (Outer (name ∷ outer)))) ts u

-- The rest of a file's bytes, and what follows them.
pub record Bytewise (size left : ℕ) (K : List Token → Bytes → Type 0) (ts : List Token) (u : Bytes)
    : Type 0 where
  pub bytes : Bytes
  pub long : length bytes ≡ left
  pub are_bytes : AreBytes bytes
  pub follows : Says (map FileByte bytes ++ FileEnded size ∷ [])
      (After bytes (After (padding size) (After close K))) ts u

-- the rest of the type of a file or a link, and what follows
abbrev pub LetterRest : (K : List Token → Bytes → Type 0) → List Token → Bytes → Type 0
LetterRest K = Either (codes "regular" ++ 0 ∷ [])
    (Either (mark true ++ str (codes "contents")) (Counted (file true K)) (str (codes "contents"))
    (Counted (file false K)))
    (codes "symlink" ++ 0 ∷ str (codes "target")) (Counted (link K))

-- the mark and the bytes of a file
abbrev pub MarkRest : (K : List Token → Bytes → Type 0) → List Token → Bytes → Type 0
MarkRest K = Either (mark true ++ str (codes "contents")) (Counted (file true K))
    (str (codes "contents")) (Counted (file false K))

-- the names of the open entries, the innermost first
abbrev pub names_of : List (Vec ℕ Global) → List Bytes
names_of folders = reverse (map (λ (name : Vec ℕ Global). name.items) folders)
