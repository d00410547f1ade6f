-- *Checks*: to which paths a derivation of the profile `nix` lets its outputs refer, and how large
-- it lets them be (Nix manual, "allowedReferences", "allowedRequisites", "disallowedReferences",
-- "disallowedRequisites", "outputChecks"; Nix 2.8, `local-derivation-goal.cc`: `checkOutputs`).
use Rattle.std.specs.Prelude.{◌≡◌, ◌≢◌, ◌⊎◌, ◌↔◌, ◌++◌, ◌<◌, ℕ, Option, Some, None, List, [], ◌∷◌, All, Contains, IsUtf8, Result, Ok, Err, codes, find, flat_map, length, map, option_and_then, option_map, slice_get, zip}
use Rattle.std.specs.List.{AllZip, range_with_len, sum_by}
use Rattle.serde_json.specs.Data.{Members, no_members}
use Rattle.serde_json.specs.Find.{get_member}
use Rattle.nix_names.specs.Bytes.{Bytes, Name, Path}
use Rattle.nix_names.specs.Firsts.{IsFirstWhere}
use Rattle.nix_names.specs.Names.{same_bytes}
use Rattle.nix_names.specs.Rising.{IsRising}
use Rattle.nix_names.specs.StorePaths.{IsPathOf}
use Rattle.nix_names.specs.declared.digest.Digest.{Digest}
use Rattle.nix_names.specs.declared.method.Method.{Method}
use Rattle.drv_graph.specs.Plans.{LeadsBy}
use Rattle.drv_graph.specs.declared.kinds.Kind.TheVariants.{Fixed}
use Rattle.drv_graph.specs.declared.profile.Profile.{Profile}
use Rattle.drv_graph.specs.declared.profile.Profile.TheVariants.{Plain, Nix}
use Rattle.valid_table.specs.Closure.{Reaches}
use Rattle.valid_table.specs.Entries.{paths_registered}
use Rattle.valid_table.specs.PathInfos.{NarInfo, PathInfo}
use Rattle.valid_table.specs.declared.entry.Registration.{Registration}
use Rattle.structured_attrs.specs.Checks as structured
use Rattle.structured_attrs.specs.Reading.{attributes_of}
use Rattle.structured_attrs.specs.declared.checks.OutputChecks.{OutputChecks}
use Rattle.build_outcome.specs.Attributes.{json_of, value_at}
use Rattle.build_outcome.specs.Tokens.{tokens}
use Rattle.build_outcome.specs.Verdicts.{IsFirstNumber, IsVerdict, OutputRefersTo, outputs_of}
use Rattle.build_outcome.specs.declared.checks.check.Check.{Check}
use Rattle.build_outcome.specs.declared.checks.check.Check.TheVariants.{AllowedReferences, AllowedRequisites, DisallowedReferences, DisallowedRequisites}
use Rattle.build_outcome.specs.declared.checks.closure.OutputClosure.{OutputClosure}
use Rattle.build_outcome.specs.declared.checks.job_checks.JobChecks.{JobChecks}
use Rattle.build_outcome.specs.declared.checks.job_checks.JobChecks.TheVariants.{Entries, Structured}
use Rattle.build_outcome.specs.declared.job.Answer.{Answer}
use Rattle.build_outcome.specs.declared.job.Job.{Job}
use Rattle.build_outcome.specs.declared.job.JobOutput.{JobOutput}
use Rattle.build_outcome.specs.declared.reason.Reason.{Reason}
use Rattle.build_outcome.specs.declared.reason.Reason.TheVariants.{NotAllowed, BadAttributes, BadSpecifier, PastMaxClosureSize, PastMaxSize, UnknownNar}

-- ---- what is asked for

-- The checks are those of a job's outputs, in the job's order, by the text of its structured
-- attributes.
pub record AreSaid (text : Bytes) (job : Job) (checks : List OutputChecks) : Type 0 where
  pub given : Members
  pub utf8 : IsUtf8 text
  pub read : attributes_of text ≡ Some given
  pub named : All (λ (output : JobOutput). IsUtf8 output.name.items) job.outputs.items
  pub each : AllZip (λ (output : JobOutput) (of : OutputChecks).
      structured.AreChecks (structured.said_of output.name.items given) of)
      job.outputs.items checks

-- these are a job's checks: those of its structured attributes, or else those that entries of its
-- environment ask for
abbrev pub AreJobChecks : Job → JobChecks → Type 0
AreJobChecks job Entries = json_of job ≡ None
AreJobChecks job (Structured checks) = (text : Bytes) × (json_of job ≡ Some text)
    × AreSaid text job checks.items

-- the checks of a job's structured attributes, if it has such, are what Nix takes
abbrev pub CanReadChecks : Job → Type 0
CanReadChecks job = (text : Bytes) → json_of job ≡ Some text
    → (checks : List OutputChecks) × AreSaid text job checks

-- what a text of structured attributes says of an output, if there is one
abbrev pub said_of_output : Bytes → Option JobOutput → Members
said_of_output text None = no_members
said_of_output text (Some output) = structured.said_of output.name.items
    (structured.members_or_none (attributes_of text))

-- what such a text says of the output with this number
abbrev pub said_at : Bytes → Job → ℕ → Members
said_at text job n = said_of_output text (slice_get job.outputs.items n)

-- the key of a check, in the environment of a derivation and in `outputChecks`
abbrev pub key_of : Check → Name
key_of AllowedReferences = codes "allowedReferences"
key_of AllowedRequisites = codes "allowedRequisites"
key_of DisallowedReferences = codes "disallowedReferences"
key_of DisallowedRequisites = codes "disallowedRequisites"

-- what is there, where two things have to be
abbrev pub joined : {A : Type 0} → Option (Option A) → Option A
joined found = option_and_then (λ inner. inner) found

-- the specifiers of a check: by the text of the structured attributes, where a job has such, those
-- of the output with this number; or else the tokens of the entry
abbrev pub list_under : Option Bytes → Job → ℕ → Check → Option (List Bytes)
list_under None job n check = option_map tokens (value_at (key_of check) job)
list_under (Some text) job n check =
    joined (structured.list_of (get_member (key_of check) (said_at text job n)))

-- the specifiers that a job lists for a check of an output, if it asks for that check
abbrev pub list_of : Job → ℕ → Check → Option (List Bytes)
list_of job n check = list_under (json_of job) job n check

-- a limit of the output with this number, by the text of the structured attributes; entries of the
-- environment give none
abbrev pub limit_under : Option Bytes → Job → ℕ → (key : Name) → Option ℕ
limit_under None job n key = None
limit_under (Some text) job n key = joined (structured.limit_of (get_member key (said_at text job n)))

-- the limit of the size of an output's archive, if there is one
abbrev pub size_limit : Job → ℕ → Option ℕ
size_limit job n = limit_under (json_of job) job n (codes "maxSize")

-- the limit of the size of the archives of an output's closure, if there is one
abbrev pub closure_limit : Job → ℕ → Option ℕ
closure_limit job n = limit_under (json_of job) job n (codes "maxClosureSize")

-- the closure of the output with this number is asked for
abbrev pub NeedsClosure : Job → ℕ → Type 0
NeedsClosure job n = (job.profile ≡ Nix)
    × ((list_of job n AllowedRequisites ≢ None) ⊎ (list_of job n DisallowedRequisites ≢ None)
    ⊎ (closure_limit job n ≢ None))

-- ---- specifiers

-- a text is a path, or a path with a slash at its end, of the folder in which an output stands
abbrev pub IsPathBeside : (own path : Path) → (text : Bytes) → Type 0
IsPathBeside own path text = (dir : Bytes) × IsPathOf dir own × IsPathOf dir path
    × ((text ≡ path) ⊎ (text ≡ path ++ 47 ∷ []))

-- a specifier names a path for an output of a job: it is the path's text; or else it is the name of
-- the job's output at that path
abbrev pub Specifies : Job → (own : Path) → (specifier : Bytes) → (path : Path) → Type 0
Specifies job own specifier path = IsPathBeside own path specifier
    ⊎ (((other : Path) → IsPathBeside own other specifier → ⊥)
    × ((output : JobOutput) × Contains job.outputs.items output
    × (output.name.items ≡ specifier) × (output.path ≡ path)))

-- each specifier of a list names a path
abbrev pub AreSpecifiers : Job → (own : Path) → List Bytes → Type 0
AreSpecifiers job own list = All (λ specifier. (path : Path) × Specifies job own specifier path) list

-- a list names a path
abbrev pub Lists : Job → (own : Path) → List Bytes → (path : Path) → Type 0
Lists job own list path = (specifier : Bytes) × Contains list specifier
    × Specifies job own specifier path

-- an output leads to an output by references among a job's outputs, or is that output
abbrev pub LeadsAmong : Job → List PathInfo → (from to : Path) → Type 0
LeadsAmong job infos from to = (steps : List Path)
    × LeadsBy (OutputRefersTo (outputs_of job) infos) from to steps

-- by its record, the output with this number refers to a path
abbrev pub RefersAt : List PathInfo → ℕ → (path : Path) → Type 0
RefersAt infos n path = (info : PathInfo) × (slice_get infos n ≡ Some info)
    × Contains info.references path

-- an output to which one leads refers to a path that is no output of the job
abbrev pub RefersOutside : Job → List PathInfo → (own path : Path) → Type 0
RefersOutside job infos own path = (n : ℕ) × (last : Path) × LeadsAmong job infos own last
    × (slice_get (outputs_of job) n ≡ Some last) × RefersAt infos n path
    × (Contains (outputs_of job) path → ⊥)

-- Where the closure of an output begins, in rising order: the outputs to which it leads, among
-- which it is itself, and the paths that are no outputs and to which one of those refers.
pub record AreRootsOf (job : Job) (infos : List PathInfo) (own : Path)
    (inside outside : List Path) : Type 0 where
  pub inside_rises : IsRising inside
  pub outside_rises : IsRising outside
  pub inside_each : (path : Path) → Contains inside path
      ↔ (Contains (outputs_of job) path × LeadsAmong job infos own path)
  pub outside_each : (path : Path) → Contains outside path ↔ RefersOutside job infos own path

-- a path is in the closure of an output: the output leads to it among the job's outputs; or a path
-- that is none of them, and to which one of those refers, reaches it by valid paths
abbrev pub IsRequisite : List Registration → Job → List PathInfo → (own path : Path) → Type 0
IsRequisite registrations job infos own path = (Contains (outputs_of job) path
    × LeadsAmong job infos own path)
    ⊎ ((outside : Path) × RefersOutside job infos own outside
    × Reaches registrations outside path)

-- The closure of an output, in rising order.
pub record AreRequisites (registrations : List Registration) (job : Job) (infos : List PathInfo)
    (own : Path) (all : List Path) : Type 0 where
  pub rising : IsRising all
  pub each : (path : Path) → Contains all path ↔ IsRequisite registrations job infos own path

-- ---- sizes

-- the record of a path: that of the first registration of it
abbrev pub record_at : List Registration → Path → Option Registration
record_at registrations path =
    find (λ (r : Registration). same_bytes r.path path) registrations

-- the archive of a path, by the first registration of it, where that tells of one
abbrev pub nar_at : List Registration → Path → Option NarInfo
nar_at registrations path =
    option_and_then (λ (r : Registration). r.info.nar) (record_at registrations path)

-- a path as it would be registered with a record
abbrev pub registration_of : Path × PathInfo → Registration
registration_of of = record { path = of.0; info = of.1 }

-- the outputs of a job with their records, and then what is valid
abbrev pub with_outputs : List Registration → Job → List PathInfo → List Registration
with_outputs registrations job infos =
    map registration_of (zip (outputs_of job) infos) ++ registrations

-- the length of an archive, 0 where none is known
abbrev pub size_of : Option NarInfo → ℕ
size_of None = 0
size_of (Some nar) = nar.size

-- the lengths of the archives of some paths together
abbrev pub size_of_all : List Registration → List Path → ℕ
size_of_all registrations paths = sum_by (λ path. size_of (nar_at registrations path)) paths

-- ---- closures that are given

-- A closure has permitted paths in rising order, and records in rising order of paths.
pub record IsPermittedClosure (permitted : List Path) (closure : OutputClosure) : Type 0 where
  pub rising : IsRising closure.paths.items
  pub within : All (Contains permitted) closure.paths.items
  pub records : IsRising (paths_registered closure.records.items)

-- The records of those paths of a closure that are no outputs of the job, in rising order of paths.
pub record AreOuterRecords (registrations : List Registration) (job : Job) (paths : List Path)
    (records : List Registration) : Type 0 where
  pub rising : IsRising (paths_registered records)
  pub known : All (λ (r : Registration). record_at registrations r.path ≡ Some r) records
  pub each : (path : Path) → Contains paths path → (Contains (outputs_of job) path → ⊥)
      → Contains (paths_registered records) path

-- The closure of the output with this number, at `own`, with records where its size is asked for.
pub record IsClosureOf (registrations : List Registration) (job : Job) (infos : List PathInfo)
    (n : ℕ) (own : Path) (closure : OutputClosure) : Type 0 where
  pub paths : AreRequisites registrations job infos own closure.paths.items
  pub records : closure_limit job n ≢ None
      → AreOuterRecords registrations job closure.paths.items closure.records.items

-- these are the closures of the outputs, in the job's order, where they are asked for
abbrev pub HaveClosures : List Registration → Job → List PathInfo → List OutputClosure → Type 0
HaveClosures registrations job infos closures = (n : ℕ) (own : Path)
    → slice_get (outputs_of job) n ≡ Some own → NeedsClosure job n
    → (closure : OutputClosure) × (slice_get closures n ≡ Some closure)
    × IsClosureOf registrations job infos n own closure

-- ---- faults

-- an output counts among its own requisites where the attributes are structured, and else not
abbrev pub IsCounted : Job → (own path : Path) → Type 0
IsCounted job own path = json_of job ≡ None → path ≢ own

-- a path is used by the output with this number, at `own`, as a check counts it: the output refers
-- to it, or it is in the output's closure and counts
abbrev pub IsUsed : List Registration → Job → List PathInfo → Check → ℕ → (own path : Path)
    → Type 0
IsUsed registrations job infos AllowedReferences n own path = RefersAt infos n path
IsUsed registrations job infos DisallowedReferences n own path = RefersAt infos n path
IsUsed registrations job infos AllowedRequisites n own path =
    IsRequisite registrations job infos own path × IsCounted job own path
IsUsed registrations job infos DisallowedRequisites n own path =
    IsRequisite registrations job infos own path × IsCounted job own path

-- a check with a list doesn't let an output use a path
abbrev pub Forbids : Job → (own : Path) → Check → List Bytes → (path : Path) → Type 0
Forbids job own AllowedReferences list path = Lists job own list path → ⊥
Forbids job own AllowedRequisites list path = Lists job own list path → ⊥
Forbids job own DisallowedReferences list path = Lists job own list path
Forbids job own DisallowedRequisites list path = Lists job own list path

-- A test: that the checks can be read; or, of an output by its number, that it refers to nothing
-- where it is fixed, that it or its closure isn't too large, or one of the checks with lists.
pub data Test : Type 0 where
  OfAttributes : Test
  OfFixed : ℕ → Test
  OfSize : ℕ → Test
  OfClosureSize : ℕ → Test
  Of : ℕ → Check → Test

-- the tests of an output that a job may ask for, in their order
abbrev pub checks_at : ℕ → List Test
checks_at n = OfSize n ∷ OfClosureSize n ∷ Of n AllowedReferences ∷ Of n AllowedRequisites
    ∷ Of n DisallowedReferences ∷ Of n DisallowedRequisites ∷ []

-- the tests of this many outputs, in their order; none under `plain`
abbrev pub tests_under : Profile → (count : ℕ) → List Test
tests_under Plain count = []
tests_under Nix count = OfAttributes ∷ map OfFixed (range_with_len 0 count)
    ++ flat_map checks_at (range_with_len 0 count)

-- the permitted path with this number has a property, and none before it
abbrev pub IsFirstPath : (permitted : List Path) → (Holds : Path → Type 0) → ℕ → Type 0
IsFirstPath permitted Holds index = IsFirstNumber
    (λ n. (path : Path) × (slice_get permitted n ≡ Some path) × Holds path)
    (length permitted) index

-- a job's output is fixed
abbrev pub IsFixedJob : Job → Type 0
IsFixedJob job = (method : Method) × (digest : Digest) × (job.kind ≡ Fixed method digest)

-- a path is in the closure of an output, and the length of its archive isn't known
abbrev pub IsUnmeasured : List Registration → Job → List PathInfo → (own path : Path) → Type 0
IsUnmeasured registrations job infos own path = IsRequisite registrations job infos own path
    × (nar_at (with_outputs registrations job infos) path ≡ None)

-- the archive of the output with this number is longer than a limit
abbrev pub IsPast : List PathInfo → ℕ → (limit : ℕ) → Type 0
IsPast infos n limit = (info : PathInfo) × (slice_get infos n ≡ Some info)
    × ((nar : NarInfo) × (info.nar ≡ Some nar) × (limit < nar.size))

-- the archives of the closure of an output, which are known, are longer than a limit together
abbrev pub IsClosurePast : List Registration → Job → List PathInfo → (own : Path) → (limit : ℕ)
    → Type 0
IsClosurePast registrations job infos own limit = (all : List Path)
    × AreRequisites registrations job infos own all
    × ((path : Path) → IsUnmeasured registrations job infos own path → ⊥)
    × (limit < size_of_all (with_outputs registrations job infos) all)

-- why a test isn't passed: the checks can't be read; an output, or its closure, is larger than its
-- limit, or the size of a path of the closure isn't known, the first such of the permitted ones; an
-- output refers to a path to which it may not, the first of the permitted ones; or a check lists
-- what names no path
abbrev pub IsTestFault : List Registration → Job → (permitted : List Path) → List PathInfo → Test
    → Reason → Type 0
IsTestFault registrations job permitted infos OfAttributes BadAttributes = CanReadChecks job → ⊥
IsTestFault registrations job permitted infos (OfFixed n) (NotAllowed output index) = (output ≡ n)
    × IsFixedJob job × IsFirstPath permitted (RefersAt infos n) index
IsTestFault registrations job permitted infos (OfSize n) (PastMaxSize output) = (output ≡ n)
    × ((limit : ℕ) × (size_limit job n ≡ Some limit) × IsPast infos n limit)
IsTestFault registrations job permitted infos (OfClosureSize n) (PastMaxClosureSize output) =
    (output ≡ n)
    × ((own : Path) × (limit : ℕ) × (slice_get (outputs_of job) n ≡ Some own)
    × (closure_limit job n ≡ Some limit) × IsClosurePast registrations job infos own limit)
IsTestFault registrations job permitted infos (OfClosureSize n) (UnknownNar index) =
    (own : Path) × (limit : ℕ) × (slice_get (outputs_of job) n ≡ Some own)
    × (closure_limit job n ≡ Some limit)
    × IsFirstPath permitted (IsUnmeasured registrations job infos own) index
IsTestFault registrations job permitted infos (Of n check) (BadSpecifier output) = (output ≡ n)
    × ((own : Path) × (list : List Bytes) × (slice_get (outputs_of job) n ≡ Some own)
    × (list_of job n check ≡ Some list) × (AreSpecifiers job own list → ⊥))
IsTestFault registrations job permitted infos (Of n check) (NotAllowed output index) = (output ≡ n)
    × ((own : Path) × (list : List Bytes) × (slice_get (outputs_of job) n ≡ Some own)
    × (list_of job n check ≡ Some list) × AreSpecifiers job own list
    × IsFirstPath permitted (λ path. IsUsed registrations job infos check n own path
    × Forbids job own check list path) index)
IsTestFault registrations job permitted infos test reason = ⊥

-- the tests of a job's outputs
abbrev pub tests_of : Job → List Test
tests_of job = tests_under job.profile (length job.outputs.items)

-- each test is passed
abbrev pub ArePassed : List Registration → Job → (permitted : List Path) → List PathInfo → Type 0
ArePassed registrations job permitted infos = (test : Test) (why : Reason)
    → Contains (tests_of job) test → IsTestFault registrations job permitted infos test why → ⊥

-- some test isn't passed, and the first such for this reason
abbrev pub IsFirstTestFault : List Registration → Job → (permitted : List Path) → List PathInfo
    → Reason → Type 0
IsFirstTestFault registrations job permitted infos reason = (test : Test)
    × IsFirstWhere (λ t. (why : Reason) × IsTestFault registrations job permitted infos t why)
    (tests_of job) test × IsTestFault registrations job permitted infos test reason

-- *Verdict* with the tests, by the paths that are valid: the records of the outputs, which pass
-- each test; or the first reason why there are none
abbrev pub IsTestedVerdict : List Registration → Job → (permitted : List Path) → Answer
    → Result (List PathInfo) Reason → Type 0
IsTestedVerdict registrations job permitted answer (Ok infos) =
    IsVerdict job permitted answer (Ok infos) × ArePassed registrations job permitted infos
IsTestedVerdict registrations job permitted answer (Err reason) =
    IsVerdict job permitted answer (Err reason)
    ⊎ ((infos : List PathInfo) × IsVerdict job permitted answer (Ok infos)
    × IsFirstTestFault registrations job permitted infos reason)

-- there is one verdict with the tests
abbrev pub HasOneTestedVerdict : Type 0
HasOneTestedVerdict = (registrations : List Registration) (job : Job) (permitted : List Path)
    (answer : Answer) (a b : Result (List PathInfo) Reason)
    → IsTestedVerdict registrations job permitted answer a
    → IsTestedVerdict registrations job permitted answer b → a ≡ b

-- The permitted paths that are no outputs reach the same by two lists of valid paths, with the same
-- records.
pub record ReachAlike (registrations others : List Registration) (job : Job) (permitted : List Path)
    : Type 0 where
  pub reach : (from to : Path) → Contains permitted from → (Contains (outputs_of job) from → ⊥)
      → Reaches registrations from to ↔ Reaches others from to
  pub records : (from to : Path) → Contains permitted from → (Contains (outputs_of job) from → ⊥)
      → Reaches registrations from to → record_at registrations to ≡ record_at others to

-- then so is the verdict
abbrev pub TestedVerdictStays : Type 0
TestedVerdictStays = (registrations others : List Registration) (job : Job)
    (permitted : List Path) (answer : Answer) (verdict : Result (List PathInfo) Reason)
    → ReachAlike registrations others job permitted
    → IsTestedVerdict registrations job permitted answer verdict
    → IsTestedVerdict others job permitted answer verdict
