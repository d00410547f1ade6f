-- What is told of a list of specifiers, and how it is read.
use Rattle.std.specs.Prelude.{◌≡◌, ◌↔◌, ◌⊎◌, ◌++◌, List, [], ◌∷◌, Bool, IsTrue, Option, Some, None, Contains}
use Rattle.std.specs.Global.{Vec}
use Rattle.nix_names.specs.Bytes.{Bytes, Dir, Name, Path}
use Rattle.nix_names.specs.Rising.{IsRising}
use Rattle.nix_names.specs.StorePaths.{IsPathOf}
use Rattle.build_outcome.specs.Checks.{AreSpecifiers, Lists, Specifies}
use Rattle.build_outcome.specs.declared.job.Job.{Job}
use Rattle.build_outcome.specs.declared.job.JobOutput.{JobOutput}

-- The paths that a list names for an output, in rising order.
pub record AreListed (job : Job) (own : Path) (list : List Bytes) (named : List Path) : Type 0
  where
    pub specifiers : AreSpecifiers job own list
    pub rising : IsRising named
    pub each : (path : Path) → Contains named path ↔ Lists job own list path

-- what is told of a list: the paths that it names, or that something in it names none
abbrev pub TellsListed : Job → (own : Path) → List Bytes → Option (Vec Path) → Type 0
TellsListed job own list None = AreSpecifiers job own list → ⊥
TellsListed job own list (Some named) = AreListed job own list named.items

-- The paths that the front of a list names.
pub record AreListedSoFar (job : Job) (own : Path) (list : List Bytes) (named : List Path) : Type 0
  where
    pub specifiers : AreSpecifiers job own list
    pub each : (path : Path) → Contains named path ↔ Lists job own list path

-- What a specifier names is added, and it is told whether that is anything.
pub record AddsSpecified (job : Job) (own : Path) (specifier : Bytes) (old new : List Path)
    (some : Bool) : Type 0 where
  pub each : (path : Path) → Contains new path
      ↔ (Contains old path ⊎ Specifies job own specifier path)
  pub any : IsTrue some ↔ ((path : Path) × Specifies job own specifier path)

-- a path is that of an output with this name
abbrev pub IsNamed : List JobOutput → Name → Path → Type 0
IsNamed outputs name path = (output : JobOutput) × Contains outputs output
    × (output.name.items ≡ name) × (output.path ≡ path)

-- The paths of the outputs with a name are added, and it is told whether there are any.
pub record AddsNamed (outputs : List JobOutput) (name : Name) (old new : List Path) (some : Bool)
    : Type 0 where
  pub each : (path : Path) → Contains new path ↔ (Contains old path ⊎ IsNamed outputs name path)
  pub any : IsTrue some ↔ ((path : Path) × IsNamed outputs name path)

-- a text without a slash at its end
abbrev pub IsWithoutSlash : (text front : Bytes) → Type 0
IsWithoutSlash text front = (text ≡ front ++ 47 ∷ [])
    ⊎ ((text ≡ front) × ((other : Bytes) → text ≡ other ++ 47 ∷ [] → ⊥))

-- what is told of a text: the path of the folder that it is, save for a slash at its end; or that
-- it is none
abbrev pub TellsPath : Dir → (text : Bytes) → Option Path → Type 0
TellsPath dir text None = (path : Path) → IsPathOf dir path
    → (text ≡ path) ⊎ (text ≡ path ++ 47 ∷ []) → ⊥
TellsPath dir text (Some path) = IsPathOf dir path
    × ((text ≡ path) ⊎ (text ≡ path ++ 47 ∷ []))
