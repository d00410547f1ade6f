-- What is heard of a tree: its events, with the pieces of a file as single bytes. So the same is
-- heard of a file however it is cut.
use Rattle.std.specs.Prelude.{ℕ, Bool, List, [], ◌∷◌, ◌++◌, length, map}
use Rattle.nix_archive.specs.declared.event.Event.{Event}
use Rattle.nix_archive.specs.declared.event.Event.TheVariants.{BeginFolder, BeginEntry, EndEntry, EndFolder, BeginFile, Piece, EndFile, Link}
use Rattle.nix_archive.specs.Trees.{Bytes, Tree, Entries, File, Link as LinkTree, Folder, NoEntries, Entry}

-- a part of a tree, or its end
pub data Token : Type 0 where
  FolderBegun : Token
  EntryBegun : (name : Bytes) → Token
  EntryEnded : Token
  FolderEnded : Token
  FileBegun : (executable : Bool) → (size : ℕ) → Token
  FileByte : (byte : ℕ) → Token
  FileEnded : (size : ℕ) → Token
  LinkTo : (target : Bytes) → Token

-- the tokens of an event
abbrev pub tokens : Event → List Token
tokens BeginFolder = FolderBegun ∷ []
tokens (BeginEntry name) = EntryBegun name.now ∷ []
tokens EndEntry = EntryEnded ∷ []
tokens EndFolder = FolderEnded ∷ []
tokens (BeginFile executable size) = FileBegun executable size ∷ []
tokens (Piece bytes) = map FileByte bytes.now
tokens (EndFile size) = FileEnded size ∷ []
tokens (Link target) = LinkTo target.now ∷ []

-- the tokens of a file
abbrev pub file_tokens : Bool → Bytes → List Token
file_tokens executable bytes = FileBegun executable (length bytes)
    ∷ (map FileByte bytes ++ FileEnded (length bytes) ∷ [])

abbrev mutual
  -- the tokens of a tree
  pub tokens_of : Tree → List Token
  tokens_of (File executable bytes) = file_tokens executable bytes
  tokens_of (LinkTree target) = LinkTo target ∷ []
  tokens_of (Folder entries) = FolderBegun ∷ (tokens_among entries ++ FolderEnded ∷ [])

  -- the tokens of a folder's entries
  pub tokens_among : Entries → List Token
  tokens_among NoEntries = []
  tokens_among (Entry name tree rest) =
      EntryBegun name ∷ (tokens_of tree ++ EntryEnded ∷ tokens_among rest)
