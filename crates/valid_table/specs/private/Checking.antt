-- How the lines of entries are checked one after the other, after the paths that earlier entries
-- register.
use Rattle.std.specs.Prelude.{◌≡◌, ◌+◌, ◌<◌, ◌≤◌, ℕ, List, [], ◌∷◌, ◌++◌, All, Contains, Result, Ok, Err, flat_map, length, take}
use Rattle.nix_names.specs.Bytes.{Path}
use Rattle.valid_table.specs.private.Entering.{IsFirstUnknownAt}
use Rattle.valid_table.specs.Texts.{Line, Added, Deriver, Output, Reference, output_lines}
use Rattle.valid_table.specs.Valid.{references_of}
use Rattle.valid_table.specs.declared.entry.Entry.{Entry}
use Rattle.valid_table.specs.declared.entry.Entry.TheVariants.{Add, Done}
use Rattle.valid_table.specs.declared.entry.Registration.{Registration}
use Rattle.valid_table.specs.declared.fault.TableFault.{TableFault}
use Rattle.valid_table.specs.declared.fault.TableFault.TheVariants.{NoMemory, NotClosed, Twice}

-- the lines of an entry before those of its registrations
abbrev pub header : Entry → List Line
header (Add r) = []
header (Done deriver outputs) = Deriver deriver ∷ []

-- a line is right: it registers no known path, and refers only to one of all paths
abbrev pub IsRight : (known all : List Path) → Line → Type 0
IsRight known all (Added path digest nar) = Contains known path → ⊥
IsRight known all (Output path digest nar) = Contains known path → ⊥
IsRight known all (Reference path) = Contains all path
IsRight known all line = Unit {0}

-- a line registers a known path
abbrev pub RegistersKnown : (known : List Path) → Line → Type 0
RegistersKnown known (Added path digest nar) = Contains known path
RegistersKnown known (Output path digest nar) = Contains known path
RegistersKnown known line = ⊥

-- a line refers to a path that is none of all paths
abbrev pub RefersToOther : (all : List Path) → Line → Type 0
RefersToOther all (Reference path) = Contains all path → ⊥
RefersToOther all line = ⊥

-- A line stands at an index among some lines, counted from 0, and all lines before it are right.
pub record IsRightUpTo (known all : List Path) (some : List Line) (line : Line) (index : ℕ)
    : Type 0 where
  pub before : List Line
  pub after : List Line
  pub parts : some ≡ before ++ line ∷ after
  pub is_index : index ≡ length before
  pub right : All (IsRight known all) before

-- What is answered for the lines of an entry, the first of which has the number `first`: the number
-- of the line after them, or that of the first wrong line.
abbrev pub IsEntryCheck : (known all : List Path) → (some : List Line) → (first : ℕ)
    → Result ℕ TableFault → Type 0
IsEntryCheck known all some first (Ok later) = All (IsRight known all) some
    × (later ≡ first + length some)
IsEntryCheck known all some first (Err (Twice n)) =
    (line : Line) × (index : ℕ) × IsRightUpTo known all some line index × RegistersKnown known line
    × (n ≡ first + index)
IsEntryCheck known all some first (Err (NotClosed n)) =
    (line : Line) × (index : ℕ) × IsRightUpTo known all some line index × RefersToOther all line
    × (n ≡ first + index)
IsEntryCheck known all some first (Err NoMemory) = Unit {0}
IsEntryCheck known all some first (Err other) = ⊥

-- what is answered for the lines of registrations: the first `new` of these have new paths, and the
-- first line has the number `first`
abbrev pub IsLineCheck : (all : List Path) → List Registration → (new first : ℕ)
    → Result ℕ TableFault → Type 0
IsLineCheck all rs new first (Ok later) =
    (length rs ≤ new) × All (Contains all) (references_of rs)
    × (later ≡ first + length (flat_map output_lines rs))
IsLineCheck all rs new first (Err (Twice n)) =
    (new < length rs) × All (Contains all) (references_of (take new rs))
    × (n ≡ first + length (flat_map output_lines (take new rs)))
IsLineCheck all rs new first (Err (NotClosed n)) =
    (before : List Registration) × (r : Registration) × (after : List Registration) × (index : ℕ)
    × (rs ≡ before ++ r ∷ after) × (length before < new) × All (Contains all) (references_of before)
    × IsFirstUnknownAt all r.info.references index
    × (n ≡ first + length (flat_map output_lines before) + 1 + index)
IsLineCheck all rs new first (Err other) = ⊥
