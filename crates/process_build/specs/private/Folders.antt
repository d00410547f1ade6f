-- The program's own files and folders in a store folder, and what lies at a path. Their names begin
-- with a dot, so that they are no store paths' names.
use Rattle.std.specs.Prelude.{◌≡◌, ℕ, Bool, true, false, List, [], ◌∷◌, ◌++◌, codes, decimal, map}
use Rattle.std.specs.Prelude.{◌⊎◌, Result, Ok, Err, string_bytes}
use Rattle.std.specs.declared.alloc.Global.{Global}
use Rattle.std.specs.declared.string.String.{String}
use Rattle.std.specs.declared.io.Error.{Error}
use Rattle.nix_names.specs.Bytes.{Bytes, Dir}
use Rattle.drv_graph.specs.declared.profile.Profile.{Profile}
use Rattle.drv_graph.specs.declared.profile.Profile.TheVariants.{Nix, Plain}
use Rattle.process_build.specs.Errors.{IsFailure, IsNotFound}
use Rattle.process_build.specs.declared.failures.Failure.{Failure}
use Rattle.process_build.specs.declared.failures.Failure.TheVariants.{NoMemory, NotFound}
use Rattle.build_outcome.specs.declared.job.Job.{Job}

-- the path to which something is moved that is not removed at once
abbrev pub aside_of : (store_dir : Dir) → (number : ℕ) → Bytes
aside_of store_dir number = store_dir ++ codes "/.nix_realise-left-" ++ decimal number

-- the path is one to which something is moved
abbrev pub IsAside : (store_dir : Dir) → String Global → Type 0
IsAside store_dir path = (number : ℕ) × (string_bytes path ≡ aside_of store_dir number)

-- the paths that are noted stay, and at most one such path is added
abbrev pub NotesAside : (store_dir : Dir) → (old new : List (String Global)) → Type 0
NotesAside store_dir old new =
    (new ≡ old) ⊎ ((path : String Global) × IsAside store_dir path × (new ≡ old ++ path ∷ []))

-- the paths of a job's outputs
abbrev pub paths_of_outputs : Job → List Bytes
paths_of_outputs job = map (λ output. output.path) job.outputs.items

-- a build folder that may lie there already: only under `plain`, since under `nix` it is made anew
abbrev pub old_folder_of : Profile → (folder : Bytes) → List Bytes
old_folder_of Plain folder = folder ∷ []
old_folder_of Nix folder = []

-- the paths that are cleared before a job's builder runs, in this order: those of its outputs, and
-- its build folder where it may lie there already
abbrev pub cleared_paths_of : Job → (folder : Bytes) → List Bytes
cleared_paths_of job folder = paths_of_outputs job ++ old_folder_of job.profile folder

-- whether nothing is left at a path, by what its removal gave; want of memory stays a failure
abbrev pub gone_after : Result (Unit {0}) Failure → Result Bool Failure
gone_after (Ok done) = Ok true
gone_after (Err NotFound) = Ok true
gone_after (Err NoMemory) = Err NoMemory
gone_after (Err failure) = Ok false

-- whether something lies at a path, by an error of the system: nothing does, exactly where the
-- error is that nothing is found; else the answer is what the error means
abbrev pub IsThere : Error → Result Bool Failure → Type 0
IsThere error (Ok there) = (there ≡ false) × IsNotFound error
IsThere error (Err failure) = ¬ (IsNotFound error) × IsFailure error failure
