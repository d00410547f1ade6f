-- What `plan` and `realise` take from a request and its files: a plan and a journal, or the first
-- fault.
use Rattle.std.specs.Prelude.{◌≡◌, ◌⊎◌, List, All, Some, None, Result, Ok, Err, map}
use Rattle.std.specs.Borrow.{Bor}
use Rattle.std.specs.Global.{Vec}
use Rattle.nix_names.specs.Bytes.{Bytes, Dir, Path}
use Rattle.nix_names.specs.Firsts.{IsFirst}
use Rattle.nix_names.specs.Names.{IsStoreDir}
use Rattle.nix_names.specs.StorePaths.{path_fault}
use Rattle.nix_names.specs.declared.fault.NameFault.{NameFault}
use Rattle.nix_drv.specs.Sources.{Answer}
use Rattle.drv_graph.specs.Loading.{IsLoading}
use Rattle.drv_graph.specs.Plans.{Graph}
use Rattle.drv_graph.specs.declared.fault.GraphFault.TheVariants as graph
use Rattle.drv_graph.specs.declared.profile.Profile.{Profile}
use Rattle.command_line.specs.declared.options.RunRequest.{RunRequest}
use Rattle.nix_realise.specs.AddedText.{IsJournalOf}
use Rattle.nix_realise.specs.Files.{FileBytes}
use Rattle.nix_realise.specs.declared.cli.run_error.RunError.{RunError}
use Rattle.nix_realise.specs.declared.cli.run_error.RunError.TheVariants.{BadStoreDir, NoPath, BadDrv}
use Rattle.nix_realise.specs.declared.cli.run_error.RunError.TheVariants.{NoMemory}
use Rattle.nix_realise.specs.declared.queries.task.Task.{Task}

-- the words are paths of the folder
abbrev pub ArePaths : (dir : Dir) → (words : List Bytes) → Type 0
ArePaths dir words = All (λ word. path_fault dir word ≡ None) words

-- a word is the first that is no path of the folder, and has this fault
abbrev pub IsFirstBadWord : (dir : Dir) → (words : List Bytes) → (word : Bytes) → NameFault
    → Type 0
IsFirstBadWord dir words word fault =
    IsFirst (λ w. path_fault dir w ≡ None) (λ w. path_fault dir w ≡ Some fault) words word

-- The path that a word spells, or a fault.
abbrev pub IsWordsPath : (dir : Dir) → Bor Bytes → Result Path RunError → Type 0
IsWordsPath dir word (Ok path) = (path ≡ word.now) × (path_fault dir word.now ≡ None)
IsWordsPath dir word (Err (NoPath blamed fault)) =
    (blamed ≡ word) × (path_fault dir word.now ≡ Some fault)
IsWordsPath dir word (Err NoMemory) = Unit {0}
IsWordsPath dir word (Err stop) = ⊥

-- The paths that some words spell, or a fault.
abbrev pub ArePathsOf : (dir : Dir) → (words : List Bytes) → Result (Vec Path) RunError
    → Type 0
ArePathsOf dir words (Ok paths) = (paths.items ≡ words) × ArePaths dir words
ArePathsOf dir words (Err (NoPath blamed fault)) = IsFirstBadWord dir words blamed.now fault
ArePathsOf dir words (Err NoMemory) = Unit {0}
ArePathsOf dir words (Err stop) = ⊥

-- The plan of some roots under a profile, or a fault.
abbrev pub IsPlanOf : Profile → (dir : Dir) → (gives : Path → Answer → Type 0)
    → (roots : List Path) → Result Graph RunError → Type 0
IsPlanOf profile dir gives roots (Ok plan) = IsLoading profile dir gives roots (Ok plan)
IsPlanOf profile dir gives roots (Err (BadDrv path fault)) =
    IsLoading profile dir gives roots (Err (graph.At path fault))
IsPlanOf profile dir gives roots (Err NoMemory) = Unit {0}
IsPlanOf profile dir gives roots (Err stop) = ⊥

-- the words DRV of a request
abbrev pub words_of : RunRequest → List Bytes
words_of request = map (λ w. w.now) request.drvs.items

-- The store folder is well-formed, and the words DRV are paths of it.
abbrev pub HasRoots : RunRequest → Type 0
HasRoots request =
    IsStoreDir request.store_dir.now × ArePaths request.store_dir.now (words_of request)

-- And this is the plan of these derivations under the request's profile.
abbrev pub HasPlan : (gives : Path → Answer → Type 0) → RunRequest → Graph → Type 0
HasPlan gives request plan =
    HasRoots request
    × IsLoading request.profile request.store_dir.now gives (words_of request) (Ok plan)

-- Why there is no plan. The store folder is tested first, then the words DRV, then the plan. Each
-- fault comes only where nothing is wrong with what is tested before it, by answers that the source
-- may give. Want of memory is never answered in place of a refused folder.
abbrev pub IsNotPlanned : (gives : Path → Answer → Type 0) → RunRequest → RunError → Type 0
IsNotPlanned gives request (BadStoreDir blamed) =
    (blamed ≡ request.store_dir) × ¬ (IsStoreDir request.store_dir.now)
IsNotPlanned gives request (NoPath blamed fault) =
    IsStoreDir request.store_dir.now
    × IsFirstBadWord request.store_dir.now (words_of request) blamed.now fault
IsNotPlanned gives request (BadDrv path fault) =
    HasRoots request
    × IsLoading request.profile request.store_dir.now gives (words_of request)
    (Err (graph.At path fault))
IsNotPlanned gives request NoMemory = ¬ (¬ (IsStoreDir request.store_dir.now))
IsNotPlanned gives request stop = ⊥

-- The plan and the journal of a request, or the first fault. A fault of the journal comes only
-- where there is a plan.
abbrev pub IsTaskTaken : (gives : Path → Answer → Type 0) → RunRequest → (gave : FileBytes)
    → Result Task RunError → Type 0
IsTaskTaken gives request gave (Ok task) =
    HasPlan gives request task.plan × IsJournalOf request.store_dir.now gave (Ok task.journal)
IsTaskTaken gives request gave (Err stop) =
    IsNotPlanned gives request stop
    ⊎ (((plan : Graph) × HasPlan gives request plan)
    × IsJournalOf request.store_dir.now gave (Err stop))
