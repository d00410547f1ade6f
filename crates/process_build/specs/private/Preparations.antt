-- What is made for a lease before anything is changed, by the options of its builder (this product's
-- own, `FORMATS.md`).
use Rattle.std.specs.Prelude.{◌≡◌, ◌≤◌, ℕ, List, Option, Some, None, map, option_map, slice_get, string_bytes}
use Rattle.nix_names.specs.Bytes.{Bytes, Path}
use Rattle.nix_drv.specs.Derivation.{EnvEntry}
use Rattle.nix_drv.specs.Parts.{entry_of}
use Rattle.drv_graph.specs.declared.profile.Profile.{Profile}
use Rattle.drv_graph.specs.declared.profile.Profile.TheVariants.{Nix, Plain}
use Rattle.process_build.specs.Folders.{build_folder_of, nix_folder_of}
use Rattle.process_build.specs.Leases.{drv_name}
use Rattle.process_build.specs.Options.{log_path_of}
use Rattle.process_build.specs.Setups.{IsSetup}
use Rattle.process_build.specs.declared.disk.folders.BuildFolder.{BuildFolder}
use Rattle.process_build.specs.declared.disk.logs.LogPath.{LogPath}
use Rattle.process_build.specs.declared.process.options.OwnOptions.{OwnOptions}
use Rattle.process_build.specs.declared.process.processes.Preparation.{Preparation}
use Rattle.process_build.specs.declared.process.surroundings.Surroundings.{Surroundings}
use Rattle.build_outcome.specs.declared.job.Job.{Job}
use Rattle.build_outcome.specs.declared.preparation.Prepared.{Prepared}

-- the log of the derivation with this number: none without a folder of logs
abbrev pub IsLogOf : OwnOptions → (derivation : ℕ) → Option LogPath → Type 0
IsLogOf own derivation None = option_map string_bytes own.logs ≡ None
IsLogOf own derivation (Some log) = (logs : Bytes) × (drv : Path)
    × (option_map string_bytes own.logs ≡ Some logs)
    × (slice_get own.drvs derivation ≡ Some drv)
    × (string_bytes log.text ≡ log_path_of logs (string_bytes own.store_dir) drv)

-- the build folder of the lease of a job with this number, under a profile
abbrev pub IsFolderOf : OwnOptions → (number : ℕ) → Job → Profile → BuildFolder → Type 0
IsFolderOf own number job Plain folder = (folder.number ≡ number) × (folder.suffix ≡ number)
    × (string_bytes folder.path ≡ build_folder_of (string_bytes own.store_dir) number)
IsFolderOf own number job Nix folder = (drv : Path) × (folder.number ≡ number)
    × (slice_get own.drvs job.derivation ≡ Some drv) × (number ≤ folder.suffix)
    × (string_bytes folder.path
    ≡ nix_folder_of (string_bytes own.build_dir) (drv_name drv) folder.suffix)

-- What the setup of a builder depends on that runs in a folder, by the options and the entries of
-- the caller's environment that are asked for.
pub record AreAround (own : OwnOptions) (folder : BuildFolder) (caller : List EnvEntry)
    (around : Surroundings) : Type 0 where
  pub store_dir : around.store_dir.now ≡ string_bytes own.store_dir
  pub folder_is : around.folder.now ≡ string_bytes folder.path
  pub cores : around.cores ≡ own.cores
  pub caller_is : map entry_of around.caller.now ≡ caller
  pub builtins : around.builtins.now ≡ own.builtins.items

-- What is made for a job whose builder runs in a folder: its setup, by what was prepared for it,
-- and its log.
pub record IsPreparationOf (own : OwnOptions) (folder : BuildFolder) (caller : List EnvEntry)
    (job : Job) (prepared : Prepared) (preparation : Preparation) : Type 0 where
  pub around : Surroundings
  pub are_around : AreAround own folder caller around
  pub setup : IsSetup around job prepared preparation.setup
  pub log : IsLogOf own job.derivation preparation.log
