-- What a walk over a tree on disk has told, and what it has still to tell.
use Rattle.std.specs.Prelude.{◌≡◌, ◌≢◌, ◌↔◌, ⊤, ℕ, Bool, false, IsTrue, Option, Some, None, Result, Ok, Err, List, [], ◌∷◌, ◌++◌, All, Contains, length, map, reverse}
use Rattle.std.specs.Fs.{IsDir, IsFile, IsSymlink, file_type, metadata_len, metadata_mode}
use Rattle.std.specs.Io.KnownBytes.{Consumes, IsAtEnd}
use Rattle.std.specs.declared.alloc.Global.{Global}
use Rattle.std.specs.declared.fs.attrs.Metadata.{Metadata}
use Rattle.std.specs.declared.io.Error.{Error}
use Rattle.std.specs.declared.vec.Vec.{Vec}
use Rattle.drv_graph.specs.declared.profile.Profile.{Profile}
use Rattle.drv_graph.specs.declared.profile.Profile.TheVariants.{Plain}
use Rattle.nix_archive.specs.Trees.{AreBytes, AreEntries, Bytes, Entries, Entry, IsAfter, IsName, IsString, NoEntries}
use Rattle.nix_archive.specs.Tokens.{Token, EntryBegun, FileByte, FolderBegun, file_tokens, tokens_among}
use Rattle.process_build.specs.Contents.{AreMembersRead}
use Rattle.process_build.specs.Errors.{IsNoMemory, IsNotFound}
use Rattle.process_build.specs.private.Answers.{IsExecutable}
use Rattle.process_build.specs.Walks.{IsPastLimits, IsTreeTold}
use Rattle.process_build.specs.declared.walk.fault.WalkFault.{WalkFault}
use Rattle.process_build.specs.declared.walk.fault.WalkFault.TheVariants.{NoMemory, Unreadable}
use Rattle.process_build.specs.declared.walk.found.Found.{Found}
use Rattle.process_build.specs.declared.walk.found.FoundFile.{FoundFile}
use Rattle.process_build.specs.declared.walk.found.Found.TheVariants.{File, Folder, Link}
use Rattle.process_build.specs.declared.walk.fault.Halt.{Halt}
use Rattle.process_build.specs.declared.walk.fault.Halt.TheVariants.{TooLarge}
use Rattle.process_build.specs.declared.walk.tree_walk.OpenFolder.{OpenFolder}
use Rattle.process_build.specs.declared.walk.tree_walk.Walk.{Walk}

-- ---- what lies at a path

-- what the system found is a file, with its bit and length, a folder or a link; anything else is
-- not read
abbrev pub IsFoundBy : Metadata → Result Found WalkFault → Type 0
IsFoundBy metadata (Ok (File file)) = IsFile (file_type metadata)
    × (IsTrue file.executable ↔ IsExecutable (metadata_mode metadata))
    × (file.size ≡ metadata_len metadata)
IsFoundBy metadata (Ok Folder) = IsDir (file_type metadata)
IsFoundBy metadata (Ok Link) = IsSymlink (file_type metadata)
IsFoundBy metadata (Err fault) = (fault ≡ Unreadable) × ¬ (IsFile (file_type metadata))
    × ¬ (IsDir (file_type metadata)) × ¬ (IsSymlink (file_type metadata))

-- what was found at a path where something lies, though the answer may be that nothing does
abbrev pub IsFoundAs : Metadata → Result (Option Found) WalkFault → Type 0
IsFoundAs metadata (Ok (Some found)) = IsFoundBy metadata (Ok found)
IsFoundAs metadata (Ok None) = ⊥
IsFoundAs metadata (Err fault) = IsFoundBy metadata (Err fault)

-- what lies at a path by an error of the system: nothing, exactly where the error is that nothing
-- is found
abbrev pub IsUnfound : Error → Result (Option Found) WalkFault → Type 0
IsUnfound error (Ok (Some found)) = ⊥
IsUnfound error (Ok None) = IsNotFound error
IsUnfound error (Err fault) = ¬ (IsNotFound error) × ((fault ≡ NoMemory) ↔ IsNoMemory error)

-- what was found as it is told of an output under a profile, or as it lies: under `plain` no file
-- is one that its owner may execute, and links are not read
abbrev pub as_told : Option Profile → Found → Result Found WalkFault
as_told (Some Plain) (File file) = Ok (File (record file { executable = false }))
as_told (Some Plain) Link = Err Unreadable
as_told profile found = Ok found

-- a file may be told so
abbrev pub IsFileAllowed : Option Profile → FoundFile → Type 0
IsFileAllowed profile file = profile ≡ Some Plain → file.executable ≡ false

-- links may be told
abbrev pub IsLinkAllowed : Option Profile → Type 0
IsLinkAllowed profile = profile ≢ Some Plain

-- what was found may be told so
abbrev pub IsFoundAllowed : Option Profile → Found → Type 0
IsFoundAllowed profile (File file) = IsFileAllowed profile file
IsFoundAllowed profile Folder = ⊤
IsFoundAllowed profile Link = IsLinkAllowed profile

-- ---- the names of entries

-- each is a name
abbrev pub AreNames : List (Vec ℕ Global) → Type 0
AreNames names = All (λ (name : Vec ℕ Global). IsName name.items) names

-- the names that are kept the last first, in the order in which they are told
abbrev pub first_first : List (Vec ℕ Global) → List Bytes
first_first names = map (λ (name : Vec ℕ Global). name.items) (reverse names)

-- both have the same names, in whatever order and however often
abbrev pub HaveSameNames : (some others : List (Vec ℕ Global)) → Type 0
HaveSameNames some others = (name : Bytes)
    → Contains (map (λ (n : Vec ℕ Global). n.items) some) name
    ↔ Contains (map (λ (n : Vec ℕ Global). n.items) others) name

-- These are the names of all members that a folder's listing had left, in whatever order.
pub record AreNamesLeft (old new : Option Bytes) (names : List (Vec ℕ Global)) : Type 0 where
  pub read : List (Vec ℕ Global)
  pub are_read : AreMembersRead old new (map (λ (n : Vec ℕ Global). n.items) read)
  pub is_ended : IsAtEnd new
  pub same : HaveSameNames names read

-- the names rise strictly by bytes, and come after another one
abbrev pub AreAhead : (before : Bytes) → (names : List Bytes) → Type 0
AreAhead before [] = Unit {0}
AreAhead before (name ∷ names) = IsName name × IsAfter before name × AreAhead name names

-- the names of a folder's entries that are still to be told
abbrev pub ahead_of : OpenFolder → List Bytes
ahead_of folder = first_first folder.names.items

-- ---- files

-- Bytes were told, as many as this, and they are what a file consumed.
pub record AreTold {S : Type 0} (heard : S → List Token → S → Type 0) (before after : S)
    (size : ℕ) (old new : Option Bytes) : Type 0 where
  pub bytes : Bytes
  pub sized : length bytes ≡ size
  pub are_bytes : AreBytes bytes
  pub hears : heard before (map FileByte bytes) after
  pub read : Consumes old new bytes

-- All bytes were told that a file had left.
pub record AreAllTold {S : Type 0} (heard : S → List Token → S → Type 0) (before after : S)
    (size : ℕ) (old new : Option Bytes) : Type 0 where
  pub told : AreTold heard before after size old new
  pub ended : IsAtEnd new

-- A file was told, with all bytes that it had left.
pub record IsFileTold {S : Type 0} (heard : S → List Token → S → Type 0) (before after : S)
    (executable : Bool) (size : ℕ) (old new : Option Bytes) : Type 0 where
  pub bytes : Bytes
  pub is_string : IsString bytes
  pub sized : length bytes ≡ size
  pub hears : heard before (file_tokens executable bytes) after
  pub read : Consumes old new bytes
  pub ended : IsAtEnd new

-- ---- folders

-- the last name of a folder's entries that were told, and `before` where none was
abbrev pub last_name : (before : Bytes) → Entries → Bytes
last_name before NoEntries = before
last_name before (Entry name tree rest) = last_name name rest

-- Some entries of a folder were told, and the names of the others come after theirs.
pub record IsPart (told : Entries) (ahead : List Bytes) : Type 0 where
  pub are : AreEntries [] told
  pub rise : AreAhead (last_name [] told) ahead

-- what was told before the begin of a folder that lies in others, the innermost first: of each the
-- entries before the one that the walk is in, and this one's name
abbrev pub IsWithin : List OpenFolder → List Token → Type 0
IsWithin [] outer = outer ≡ []
IsWithin (folder ∷ folders) outer = (above : List Token) × (told : Entries) × (name : Bytes)
    × IsWithin folders above × IsPart told (name ∷ ahead_of folder)
    × (outer ≡ above ++ FolderBegun ∷ (tokens_among told ++ EntryBegun name ∷ []))

-- The walk is in a folder, with these names ahead, which lies in others, the outermost first.
pub record IsAt {S : Type 0} (heard : S → List Token → S → Type 0) (before after : S)
    (ahead : List Bytes) (around : List OpenFolder) : Type 0 where
  pub outer : List Token
  pub within : IsWithin (reverse around) outer
  pub told : Entries
  pub part : IsPart told ahead
  pub hears : heard before (outer ++ FolderBegun ∷ tokens_among told) after

-- the walk is in a folder, or at its end
abbrev pub IsAtOrDone : {S : Type 0} (heard : S → List Token → S → Type 0) (before after : S)
    → Option OpenFolder → (around : List OpenFolder) → Type 0
IsAtOrDone heard before after None around = IsTreeTold heard before after
IsAtOrDone heard before after (Some folder) around =
    IsAt heard before after (ahead_of folder) around

-- The begin of a folder was told.
pub record IsFolderBegun {S : Type 0} (heard : S → List Token → S → Type 0) (before after : S)
    (folder : OpenFolder) : Type 0 where
  pub rise : AreAhead [] (ahead_of folder)
  pub hears : heard before (FolderBegun ∷ []) after

-- a file or a link was told, or the begin of a folder
abbrev pub IsFoundTold : {S : Type 0} (heard : S → List Token → S → Type 0) (before after : S)
    → Option OpenFolder → Type 0
IsFoundTold heard before after None = IsTreeTold heard before after
IsFoundTold heard before after (Some folder) = IsFolderBegun heard before after folder

-- ---- steps

-- A walk took a step, whatever it told: it is still over the same output, and under the same limit.
-- Where it answers `TooLarge`, it passed a limit.
pub record IsStepOf {S R L T : Type 0} (heard : S → List Token → S → Type 0)
    (keeps : L → S → Type 0) (old new : Walk R L) (before after : S) (result : Result T Halt)
    : Type 0 where
  pub same : new.profile ≡ old.profile
  pub limit : new.limit.now ≡ old.limit.now
  pub past : result ≡ Err TooLarge
      → IsPastLimits old.profile heard (keeps old.limit.now) before after
