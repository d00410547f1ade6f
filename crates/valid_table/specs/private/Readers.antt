-- What the readers of a journal's lines give, and where they stop.
use Rattle.std.specs.Prelude.{◌≡◌, ◌≢◌, ◌⊎◌, ℕ, List, [], ◌∷◌, ◌++◌, All, Option, Some, None, flat_map, length}
use Rattle.nix_names.specs.Bytes.{Bytes, Dir, Path}
use Rattle.nix_names.specs.Rising.{IsRising}
use Rattle.nix_names.specs.StorePaths.{IsDrvPath, IsPathOf}
use Rattle.nix_names.specs.declared.method.MethodDigest.{MethodDigest}
use Rattle.valid_table.specs.BadLines.{BeginsOutput}
use Rattle.valid_table.specs.Entries.{paths_registered}
use Rattle.valid_table.specs.PathInfos.{NarInfo}
use Rattle.valid_table.specs.private.LineTexts.{fields_text, lines_text, references_text, registration_text}
use Rattle.valid_table.specs.Reading.{BeginsVersion}
use Rattle.valid_table.specs.private.Steps.{IsAbove, Position, Start, Begun, Within, Stops}
use Rattle.valid_table.specs.Texts.{IsEntryIn, IsKnownOf, IsOf, entry_lines, lines, output_lines}
use Rattle.valid_table.specs.declared.entry.Entry.{Entry}
use Rattle.valid_table.specs.declared.entry.Entry.TheVariants.{Add, Done}
use Rattle.valid_table.specs.declared.entry.Registration.{Registration}
use Rattle.valid_table.specs.declared.journal_text.reading.LineFault.{LineFault}
use Rattle.valid_table.specs.declared.journal_text.reading.LineFault.TheVariants.{NoMemory, Left}
use Rattle.valid_table.specs.declared.path_table.version.Version.{Version}

-- the bytes begin with no line that has this letter
abbrev pub IsNoLine : (letter : ℕ) → Bytes → Type 0
IsNoLine letter bytes = (rest : Bytes) → bytes ≢ letter ∷ 32 ∷ rest

-- a reader stopped: with a number of bytes left for which `Where` holds, or for want of memory
abbrev pub StopsWhere : (ℕ → Type 0) → LineFault → Type 0
StopsWhere Where NoMemory = Unit {0}
StopsWhere Where (Left left) = Where left

-- The bytes are a path of the store folder, a newline and the rest.
pub record IsPathLine (dir : Dir) (bytes : Bytes) (path : Path) (rest : Bytes) : Type 0 where
  pub of_dir : IsPathOf dir path
  pub parts : bytes ≡ path ++ 10 ∷ rest

-- The bytes are the path of a derivation's file, a newline and the rest, which begins with an
-- output.
pub record IsDeriverLine (dir : Dir) (bytes : Bytes) (path : Path) (rest : Bytes) : Type 0 where
  pub line : IsPathLine dir bytes path rest
  pub named : IsDrvPath path
  pub ahead : BeginsOutput rest

-- The bytes are a path of the store folder, a space, the text of what is known of it, a newline and
-- the rest.
pub record IsFieldsLine (version : Version) (dir : Dir) (bytes : Bytes) (path : Path)
    (digest : Option MethodDigest) (nar : Option NarInfo) (rest : Bytes) : Type 0 where
  pub of_dir : IsPathOf dir path
  pub is_known : IsKnownOf version digest nar
  pub parts : bytes ≡ fields_text version path digest nar ++ rest

-- The bytes are the lines of these references and the rest.
pub record SoFarReferences (dir : Dir) (bytes : Bytes) (references : List Path) (rest : Bytes)
    : Type 0 where
  pub parts : bytes ≡ references_text references ++ rest
  pub of_dir : All (IsPathOf dir) references
  pub rising : IsRising references

-- The bytes are the lines of these references and the rest, which begins with no reference.
pub record ReadsReferences (dir : Dir) (bytes : Bytes) (references : List Path) (rest : Bytes)
    : Type 0 where
  pub so_far : SoFarReferences dir bytes references rest
  pub ends : IsNoLine 82 rest

-- The bytes are the lines of a registration, whose path is greater than the one before it, and the
-- rest, which begins with no reference.
pub record HasRegistration (version : Version) (dir : Dir) (letter : ℕ)
    (before : Option Path) (bytes : Bytes) (r : Registration) (rest : Bytes) : Type 0 where
  pub parts : bytes ≡ registration_text version letter r ++ rest
  pub of_dir : IsOf version dir r
  pub above : IsAbove before r.path
  pub ends : IsNoLine 82 rest

-- the bytes begin with no path and what is known of it, of which the path is greater than the one
-- before it
abbrev pub HasNoFields : Version → Dir → (before : Option Path) → Bytes → Type 0
HasNoFields version dir before bytes = (path : Path) (digest : Option MethodDigest)
    (nar : Option NarInfo) (rest : Bytes)
    → IsAbove before path → IsFieldsLine version dir bytes path digest nar rest → ⊥

-- reading references stops with `left` bytes left, in each version, for an added path as for an
-- output
abbrev pub StopsInReferences : (dir : Dir) (bytes : Bytes) → (left : ℕ) → Type 0
StopsInReferences dir bytes left = (version : Version) (output : Option Path)
    → Stops version dir (Within output None) bytes left

-- a line with this letter is bad
pub record IsBadFields (version : Version) (dir : Dir) (letter : ℕ) (before : Option Path)
    (bytes : Bytes) (left : ℕ) : Type 0 where
  pub fields : Bytes
  pub begins : bytes ≡ letter ∷ 32 ∷ fields
  pub is_left : length bytes ≡ left
  pub bad : HasNoFields version dir before fields

-- a line with this letter is good, and the line of one of its references is bad
pub record HasBadReference (version : Version) (dir : Dir) (letter : ℕ)
    (before : Option Path) (bytes : Bytes) (left : ℕ) : Type 0 where
  pub fields : Bytes
  pub begins : bytes ≡ letter ∷ 32 ∷ fields
  pub path : Path
  pub digest : Option MethodDigest
  pub nar : Option NarInfo
  pub rest : Bytes
  pub above : IsAbove before path
  pub line : IsFieldsLine version dir fields path digest nar rest
  pub stops : StopsInReferences dir rest left

-- reading a registration stops with `left` bytes left
abbrev pub StopsInRegistration : Version → Dir → (letter : ℕ) → (before : Option Path) → Bytes
    → (left : ℕ) → Type 0
StopsInRegistration version dir letter before bytes left =
    IsBadFields version dir letter before bytes left
    ⊎ HasBadReference version dir letter before bytes left

-- The bytes are the lines of these outputs and the rest, which begins with no reference if there is
-- an output.
pub record SoFarOutputs (version : Version) (dir : Dir) (bytes : Bytes)
    (outputs : List Registration) (rest : Bytes) : Type 0 where
  pub parts : bytes ≡ lines_text version (flat_map output_lines outputs) ++ rest
  pub of_dir : All (IsOf version dir) outputs
  pub rising : IsRising (paths_registered outputs)
  pub ended : (outputs ≡ []) ⊎ IsNoLine 82 rest

-- The bytes are the lines of these outputs, at least one, and the rest, which begins with neither
-- an output nor a reference.
pub record HasOutputs (version : Version) (dir : Dir) (bytes : Bytes) (outputs : List Registration)
    (rest : Bytes) : Type 0 where
  pub so_far : SoFarOutputs version dir bytes outputs rest
  pub some : outputs ≢ []
  pub no_output : IsNoLine 79 rest
  pub no_reference : IsNoLine 82 rest

-- the rest begins with no further line of the entry
abbrev pub IsEnd : Entry → (rest : Bytes) → Type 0
IsEnd (Add r) rest = IsNoLine 82 rest
IsEnd (Done deriver outputs) rest = IsNoLine 79 rest × IsNoLine 82 rest

-- The bytes are the lines of an entry and the rest, which begins with no further line of it.
pub record HasEntry (version : Version) (dir : Dir) (bytes : Bytes) (entry : Entry) (rest : Bytes)
    : Type 0 where
  pub parts : bytes ≡ lines_text version (entry_lines entry) ++ rest
  pub of_dir : IsEntryIn version dir entry
  pub ends : IsEnd entry rest

-- at a position, where the text goes on with these bytes, only an entry can come next
abbrev pub HasToBegin : Position → Bytes → Type 0
HasToBegin Begun bytes = Unit {0}
HasToBegin (Within None last) bytes = IsNoLine 82 bytes
HasToBegin (Within (Some output) last) bytes = IsNoLine 79 bytes × IsNoLine 82 bytes
HasToBegin position bytes = ⊥

-- The bytes are the lines of a journal with these entries, and the rest, where an entry has to
-- begin.
pub record SoFarEntries (version : Version) (dir : Dir) (bytes : Bytes) (entries : List Entry)
    (rest : Bytes) : Type 0 where
  pub parts : bytes ≡ lines_text version (lines entries) ++ rest
  pub of_dir : All (IsEntryIn version dir) entries
  pub leads : (left : ℕ)
      → ((from : Position) → HasToBegin from rest → Stops version dir from rest left)
      → Stops version dir Start bytes left

-- the bytes begin with the line of no version
abbrev pub BeginsNoVersion : Bytes → Type 0
BeginsNoVersion bytes = (version : Version) → BeginsVersion version bytes → ⊥

-- Reading a text stops with `left` bytes left: at a line of the version with whose line the text
-- begins, or at the first line, where the text begins with the line of no version.
abbrev pub StopsInText : (dir : Dir) (bytes : Bytes) → (left : ℕ) → Type 0
StopsInText dir bytes left =
    ((version : Version) × BeginsVersion version bytes × Stops version dir Start bytes left)
    ⊎ (BeginsNoVersion bytes × (bytes ≢ []) × (left ≡ length bytes))
