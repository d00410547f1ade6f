-- What is written at each token.
use Rattle.std.specs.Prelude.{List, [], ◌∷◌, ◌++◌, codes}
use Rattle.std.specs.List.{flat_map}
use Rattle.nix_archive.specs.Trees.{Bytes}
use Rattle.nix_archive.specs.Archive.{mark, padding, size_text, str, strs}
use Rattle.nix_archive.specs.Tokens.{Token, FolderBegun, EntryBegun, EntryEnded, FolderEnded, FileBegun, FileByte, FileEnded, LinkTo}

-- what is written at a token
abbrev pub token_text : Token → Bytes
token_text FolderBegun = strs (codes "(" ∷ codes "type" ∷ codes "directory" ∷ [])
token_text (EntryBegun name) =
    strs (codes "entry" ∷ codes "(" ∷ codes "name" ∷ name ∷ codes "node" ∷ [])
token_text EntryEnded = str (codes ")")
token_text FolderEnded = str (codes ")")
token_text (FileBegun executable size) =
    strs (codes "(" ∷ codes "type" ∷ codes "regular" ∷ []) ++ (mark executable
    ++ (str (codes "contents") ++ size_text size))
token_text (FileByte byte) = byte ∷ []
token_text (FileEnded size) = padding size ++ str (codes ")")
token_text (LinkTo target) =
    strs (codes "(" ∷ codes "type" ∷ codes "symlink" ∷ codes "target" ∷ target ∷ codes ")" ∷ [])

-- what is written at some tokens
abbrev pub text_of : List Token → Bytes
text_of said = flat_map token_text said
