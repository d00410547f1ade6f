-- What a maker of a tree does at each token that it hears.
use Rattle.std.specs.Prelude.{◌≡◌, Option, Some, None, List, [], ◌∷◌, ◌++◌, map, reverse, string_bytes}
use Rattle.std.specs.Io.KnownBytes.{Appends}
use Rattle.std.specs.declared.alloc.Global.{Global}
use Rattle.std.specs.declared.string.String.{String}
use Rattle.nix_archive.specs.Trees.{Bytes, Tree}
use Rattle.nix_archive.specs.Tokens.{Token, EntryBegun, EntryEnded, FileBegun, FileByte, FileEnded, FolderBegun, FolderEnded, LinkTo, tokens_of}
use Rattle.process_build.specs.MadeTrees.{Step, ByteWritten, FileClosed, FileMade, FolderMade, LinkMade, steps_of}
use Rattle.process_build.specs.Contents.{child_of}
use Rattle.process_build.specs.declared.tree_maker.part.Part.{Part}
use Rattle.process_build.specs.declared.tree_maker.part.Part.TheVariants as part
use Rattle.process_build.specs.declared.tree_maker.maker_fault.MakerFault.{MakerFault}
use Rattle.process_build.specs.declared.tree_maker.maker.TreeMaker.{TreeMaker}

-- the steps that a part stands for
abbrev pub steps : Part → List Step
steps (part.Folder path) = FolderMade path.now ∷ []
steps (part.File path executable) = FileMade path.now executable ∷ []
steps (part.Piece bytes) = map ByteWritten bytes.now
steps part.EndFile = FileClosed ∷ []
steps (part.Link path target) = LinkMade path.now target.now ∷ []

-- The file that is open has grown by these bytes, where its contents are known.
abbrev pub AreWritten : {W : Type 0} (contents : W → Option Bytes) (old new : Option W) → Bytes
    → Type 0
AreWritten contents (Some old) (Some new) bytes = Appends (contents old) (contents new) bytes
AreWritten contents (Some old) None bytes = ⊥
AreWritten contents None new bytes = ⊥

-- Where a maker is: at the path of what is made next, in the folders around it, the innermost
-- first.
pub record Position : Type 0 where
  pub path : Bytes
  pub around : List Bytes

-- the outermost path of a position, which is that of the whole tree
abbrev pub outermost : (path : Bytes) → (around : List Bytes) → Bytes
outermost path [] = path
outermost path (folder ∷ around) = outermost folder around

-- the position above another one, and the same position where there is none above it
abbrev pub above : (path : Bytes) → (around : List Bytes) → Position
above path [] = record { path = path; around = [] }
above path (outer ∷ around) = record { path = outer; around = around }

-- the position after a token
abbrev pub position_after : Position → Token → Position
position_after position (EntryBegun name) =
    record { path = child_of position.path name; around = position.path ∷ position.around }
position_after position EntryEnded = above position.path position.around
position_after position FolderBegun = position
position_after position FolderEnded = position
position_after position (FileBegun executable size) = position
position_after position (FileByte byte) = position
position_after position (FileEnded size) = position
position_after position (LinkTo target) = position

-- the steps at a token
abbrev pub steps_at : Position → Token → List Step
steps_at position FolderBegun = FolderMade position.path ∷ []
steps_at position (EntryBegun name) = []
steps_at position EntryEnded = []
steps_at position FolderEnded = []
steps_at position (FileBegun executable size) = FileMade position.path executable ∷ []
steps_at position (FileByte byte) = ByteWritten byte ∷ []
steps_at position (FileEnded size) = FileClosed ∷ []
steps_at position (LinkTo target) = LinkMade position.path target ∷ []

-- the position after some tokens
abbrev pub position_along : Position → List Token → Position
position_along position [] = position
position_along position (token ∷ said) = position_along (position_after position token) said

-- the steps at some tokens
abbrev pub steps_along : Position → List Token → List Step
steps_along position [] = []
steps_along position (token ∷ said) =
    steps_at position token ++ steps_along (position_after position token) said

-- the position of a maker with this path, in these folders, the outermost first
abbrev pub position_at : String Global → List (String Global) → Position
position_at path around =
    record { path = string_bytes path; around = map string_bytes (reverse around) }

-- The tokens were taken: the steps at them were made, and the position is the one after them.
pub record AreTaken {S : Type 0} (made : S → List Step → S → Type 0) (from to : Position)
    (before after : S) (said : List Token) : Type 0 where
  pub steps : made before (steps_along from said) after
  pub position : to ≡ position_along from said

-- the position where a maker is
abbrev pub position_of : {M : Type 0} → TreeMaker M → Position
position_of maker = position_at maker.path maker.around.items

-- both are positions in one tree
abbrev pub HaveOneTree : (before after : Position) → Type 0
HaveOneTree before after =
    outermost after.path after.around ≡ outermost before.path before.around

-- what a maker has heard, by its faults before and after: after a fault nothing is done
abbrev pub IsHeardBy : {M : Type 0} (made : M → List Step → M → Type 0) (before : TreeMaker M)
    (said : List Token) (after : TreeMaker M) → (was is : Option MakerFault) → Type 0
IsHeardBy made before said after (Some fault) is = after ≡ before
IsHeardBy made before said after None None =
    AreTaken made (position_of before) (position_of after) before.parts after.parts said
IsHeardBy made before said after None (Some fault) =
    HaveOneTree (position_of before) (position_of after)

-- what a maker has heard
abbrev pub IsHeard : {M : Type 0} (made : M → List Step → M → Type 0) (before : TreeMaker M)
    (said : List Token) (after : TreeMaker M) → Type 0
IsHeard made before said after = IsHeardBy made before said after before.fault after.fault

-- Once a maker has heard a tree, the steps are those of the tree at the maker's path, and the maker
-- is where it was.
abbrev pub MakesTrees : Type 0
MakesTrees = (tree : Tree) (path : Bytes) (around : List Bytes)
    → let position : Position = record { path = path; around = around } in
    (steps_along position (tokens_of tree) ≡ steps_of path tree)
    × (position_along position (tokens_of tree) ≡ position)
