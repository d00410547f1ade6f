-- What a scanner is fed at the tokens of a tree, and what it finds then.
use Rattle.std.specs.Prelude.{◌≡◌, ◌<◌, ◌^◌, List, [], ◌∷◌, ◌++◌, length}
use Rattle.nix_archive.specs.Tokens.{Token, FolderBegun, EntryBegun, EntryEnded, FolderEnded, FileBegun, FileByte, FileEnded, LinkTo, tokens_of}
use Rattle.nix_archive.specs.Trees.{Tree as Archived}
use Rattle.nix_names.specs.Bytes.{Bytes, Path}
use Rattle.ref_scan.specs.Archives.{IsArchiveOf}
use Rattle.ref_scan.specs.ArchivedTrees.{KeepsLimits, LiesInMemory}
use Rattle.ref_scan.specs.Feed.{Feed}
use Rattle.ref_scan.specs.Scan.{IsFound}
use Rattle.ref_scan.specs.declared.hearers.tree_scanner.TreeScanner.{TreeScanner}
use Rattle.ref_scan.specs.declared.tree.Tree.{Tree}

-- the list that goes on has more bytes
abbrev pub longer : Bytes → Feed → Feed
longer bytes feed = record feed { present = feed.present ++ bytes }

-- the list that goes on ends
abbrev pub cut : Feed → Feed
cut feed = record feed { ended = feed.ended ++ feed.present ∷ []; present = [] }

-- what a token feeds: a file's bytes, a link's target and an entry's name are a list each
abbrev pub fed_one : Token → Feed → Feed
fed_one FolderBegun feed = feed
fed_one (EntryBegun name) feed = cut (longer name feed)
fed_one EntryEnded feed = feed
fed_one FolderEnded feed = feed
fed_one (FileBegun executable size) feed = feed
fed_one (FileByte byte) feed = longer (byte ∷ []) feed
fed_one (FileEnded size) feed = cut feed
fed_one (LinkTo target) feed = cut (longer target feed)

-- what tokens feed
abbrev pub fed_by : List Token → Feed → Feed
fed_by [] feed = feed
fed_by (token ∷ tokens) feed = fed_by tokens (fed_one token feed)

-- a token's name or target is as short as what lies in memory is
abbrev pub IsTokenShort : Token → Type 0
IsTokenShort FolderBegun = Unit {0}
IsTokenShort (EntryBegun name) = length name < 2 ^ 63
IsTokenShort EntryEnded = Unit {0}
IsTokenShort FolderEnded = Unit {0}
IsTokenShort (FileBegun executable size) = Unit {0}
IsTokenShort (FileByte byte) = Unit {0}
IsTokenShort (FileEnded size) = Unit {0}
IsTokenShort (LinkTo target) = length target < 2 ^ 63

-- each is
abbrev pub AreTokensShort : List Token → Type 0
AreTokensShort [] = Unit {0}
AreTokensShort (token ∷ tokens) = IsTokenShort token × AreTokensShort tokens

-- A scanner became another one by hearing some tokens, each name and target of which lay in memory.
pub record IsScanHeard (before : TreeScanner) (tokens : List Token) (after : TreeScanner)
    : Type 0 where
  pub fed : after.scanner ≡ fed_by tokens before.scanner
  pub short : AreTokensShort tokens

-- a scanner for these paths has heard nothing
abbrev pub IsNewScanner : (permitted : List Path) → TreeScanner → Type 0
IsNewScanner permitted new =
    new.scanner ≡ record { permitted = permitted; ended = []; present = [] }

-- these paths are found in each tree whose archive a scanner heard, which had heard nothing before
abbrev pub IsFoundAtHearing : TreeScanner → (found : List Path) → Type 0
IsFoundAtHearing scanner found = (permitted : List Path) (new : TreeScanner) (tree : Tree)
    (archived : Archived) → IsNewScanner permitted new
    → IsScanHeard new (tokens_of archived) scanner → IsArchiveOf tree archived
    → IsFound tree permitted found

-- a tree that was heard and keeps the limits could lie in memory
abbrev pub HeardTreesLie : Type 0
HeardTreesLie = (archived : Archived) → AreTokensShort (tokens_of archived) → KeepsLimits archived
    → LiesInMemory archived
