-- How the tests of outputs are answered.
use Rattle.std.specs.Prelude.{◌≡◌, ◌≢◌, ◌↔◌, ◌⊎◌, ◌&&◌, not, Bool, ℕ, List, [], ◌∷◌, All, Contains, Option, Some, Result, Ok, Err, length, option_map}
use Rattle.std.specs.Borrow.{Bor}
use Rattle.nix_names.specs.Bytes.{Path}
use Rattle.nix_names.specs.Firsts.{IsFirst}
use Rattle.nix_names.specs.Rising.{IsRising}
use Rattle.valid_table.specs.PathInfos.{PathInfo}
use Rattle.valid_table.specs.declared.entry.Registration.{Registration}
use Rattle.build_outcome.specs.Checks.{HaveClosures, IsPermittedClosure, IsRequisite, IsTestFault, Of, RefersAt, Test}
use Rattle.build_outcome.specs.declared.checks.check.Check.{Check}
use Rattle.build_outcome.specs.declared.checks.check.Check.TheVariants.{AllowedReferences, AllowedRequisites, DisallowedReferences, DisallowedRequisites}
use Rattle.build_outcome.specs.declared.checks.closure.OutputClosure.{OutputClosure}
use Rattle.build_outcome.specs.declared.job.Job.{Job}
use Rattle.build_outcome.specs.declared.reason.Reason.{Reason}
use Rattle.build_outcome.specs.declared.reason.Reason.TheVariants.{OutOfMemory}

-- What tests may read: the records of a job's outputs, which refer to permitted paths, and closures of
-- permitted paths.
pub record AreTestable (job : Job) (permitted : List Path) (infos : List PathInfo)
    (given : List OutputClosure) : Type 0 where
  pub rising : IsRising permitted
  pub count : length infos ≡ length job.outputs.items
  pub refer : All (λ (info : PathInfo). All (Contains permitted) info.references) infos
  pub closures : All (IsPermittedClosure permitted) given

-- where the closures of the outputs are given, a test is passed
abbrev pub IsPassed : Job → (permitted : List Path) → List PathInfo → List OutputClosure → Test
    → Type 0
IsPassed job permitted infos closures test = (registrations : List Registration) (why : Reason)
    → HaveClosures registrations job infos closures
    → IsTestFault registrations job permitted infos test why → ⊥

-- where they are given, a test isn't passed for this reason
abbrev pub IsFailed : Job → (permitted : List Path) → List PathInfo → List OutputClosure → Reason
    → Test → Type 0
IsFailed job permitted infos closures why test = (registrations : List Registration)
    → HaveClosures registrations job infos closures
    → IsTestFault registrations job permitted infos test why

-- what is answered of some tests: that each is passed, or why the first that isn't fails, or that
-- memory was refused
abbrev pub IsTesting : Job → (permitted : List Path) → List PathInfo → List OutputClosure
    → List Test → Result (Unit {0}) Reason → Type 0
IsTesting job permitted infos closures tests (Ok done) =
    All (IsPassed job permitted infos closures) tests
IsTesting job permitted infos closures tests (Err why) = (why ≡ OutOfMemory)
    ⊎ ((test : Test) × IsFirst (IsPassed job permitted infos closures)
    (IsFailed job permitted infos closures why) tests test)

-- the tests of an output by lists, in their order
abbrev pub lists_at : ℕ → List Test
lists_at n = Of n AllowedReferences ∷ Of n AllowedRequisites ∷ Of n DisallowedReferences
    ∷ Of n DisallowedRequisites ∷ []

-- the paths that an output may use by a check, where it is asked for: those to which it refers, or
-- those of its closure
abbrev pub AreUsed : List Registration → Job → List PathInfo → Check → ℕ → (own : Path)
    → (used : List Path) → Type 0
AreUsed registrations job infos AllowedReferences n own used =
    (path : Path) → Contains used path ↔ RefersAt infos n path
AreUsed registrations job infos DisallowedReferences n own used =
    (path : Path) → Contains used path ↔ RefersAt infos n path
AreUsed registrations job infos AllowedRequisites n own used =
    (path : Path) → Contains used path ↔ IsRequisite registrations job infos own path
AreUsed registrations job infos DisallowedRequisites n own used =
    (path : Path) → Contains used path ↔ IsRequisite registrations job infos own path

-- a path, if there is one
abbrev pub shown_path : Option (Bor Path) → Option Path
shown_path path = option_map (λ (p : Bor Path). p.now) path

-- a check whose list names these paths doesn't let an output have a path among those that it may use,
-- where one of these may be left out
abbrev pub IsBarred : (named : List Path) → Check → (left_out : Option Path) → (path : Path)
    → Type 0
IsBarred named AllowedReferences left_out path = Contains named path → ⊥
IsBarred named AllowedRequisites left_out path = (left_out ≢ Some path)
    × (Contains named path → ⊥)
IsBarred named DisallowedReferences left_out path = Contains named path
IsBarred named DisallowedRequisites left_out path = (left_out ≢ Some path) × Contains named path

-- whether a check bars a path, by whether its list names the path, and whether the path is left out
abbrev pub bars : Check → (is_named is_left_out : Bool) → Bool
bars AllowedReferences is_named is_left_out = not is_named
bars AllowedRequisites is_named is_left_out = not is_named && not is_left_out
bars DisallowedReferences is_named is_left_out = is_named
bars DisallowedRequisites is_named is_left_out = is_named && not is_left_out
