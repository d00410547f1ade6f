-- What a run makes of the system's answers on the program that starts its builders, and on the
-- folder of logs; and how its builders build.
use Rattle.std.specs.Prelude.{◌≡◌, ◌≢◌, ◌⊎◌, IfSome, List, Option, Some, Result, Ok, Err, bit_and, is_some, slice_get}
use Rattle.std.specs.Borrow.{Bor}
use Rattle.std.specs.Fs.{IsFile, file_type, metadata_mode}
use Rattle.std.specs.declared.fs.Metadata.{Metadata}
use Rattle.nix_names.specs.Bytes.{Bytes, Path}
use Rattle.process_build.specs.declared.failures.Failure.{Failure}
use Rattle.process_build.specs.declared.failures.Failure.TheVariants as failure
use Rattle.process_build.specs.declared.process.options.BuildOptions.{BuildOptions}
use Rattle.command_line.specs.declared.options.RealiseRequest.{RealiseRequest}
use Rattle.nix_realise.specs.Tools.{ArePrograms}
use Rattle.nix_realise.specs.declared.io.logs_folder.LogsFolder.{LogsFolder}
use Rattle.nix_realise.specs.declared.io.runner.RunnerFinding.{RunnerFinding}
use Rattle.nix_realise.specs.declared.io.runner.RunnerFinding.TheVariants.{Program, NoProgram}
use Rattle.nix_realise.specs.declared.io.runner.RunnerFinding.TheVariants as finding
use Rattle.nix_realise.specs.declared.io.runner.Runner.{Runner}
use Rattle.nix_realise.specs.declared.cli.run_error.RunError.{RunError}
use Rattle.nix_realise.specs.declared.cli.run_error.RunError.TheVariants.{NoLogs, NoMemory, NoRunner}

-- it is of a file that its owner, its group or anybody may execute
abbrev pub IsExecutable : Metadata → Type 0
IsExecutable metadata =
    IsFile (file_type metadata) × (bit_and (metadata_mode metadata) 0o111 ≢ 0)

-- the path is absolute: it begins with a slash
abbrev pub IsAbsolute : (path : Bytes) → Type 0
IsAbsolute path = slice_get path 0 ≡ Some 47

-- the runner that a request names, by the look at its path
abbrev pub IsRunnerBy : (word : Bor Bytes) → RunnerFinding → Result Runner RunError → Type 0
IsRunnerBy word seen (Ok runner) =
    (seen ≡ Program) × IsAbsolute word.now × (runner.path ≡ Some word)
IsRunnerBy word seen (Err (NoRunner blamed)) =
    ((seen ≡ NoProgram) ⊎ ¬ (IsAbsolute word.now)) × (blamed ≡ word)
IsRunnerBy word seen (Err NoMemory) = seen ≡ finding.NoMemory
IsRunnerBy word seen (Err stop) = ⊥

-- Why a run has no runner: the request names one, and that can't be; or memory is refused.
abbrev pub IsNoRunner : (word : Option (Bor Bytes)) → RunError → Type 0
IsNoRunner word (NoRunner blamed) = word ≡ Some blamed
IsNoRunner word NoMemory = Unit {0}
IsNoRunner word stop = ⊥

-- the folder of logs that a request names, by what came of making it
abbrev pub IsMadeBy : (word : Bor Bytes) → Result (Unit {0}) Failure → Result LogsFolder RunError
    → Type 0
IsMadeBy word (Ok done) (Ok folder) = folder.path ≡ Some word
IsMadeBy word (Ok done) (Err stop) = ⊥
IsMadeBy word (Err fault) (Ok folder) = ⊥
IsMadeBy word (Err failure.NoMemory) (Err stop) = stop ≡ NoMemory
IsMadeBy word (Err fault) (Err stop) = stop ≡ NoLogs word

-- Why a run has no folder of logs: the request names one, and that can't be made; or memory is
-- refused.
abbrev pub IsNoFolder : (word : Option (Bor Bytes)) → RunError → Type 0
IsNoFolder word (NoLogs blamed) = word ≡ Some blamed
IsNoFolder word NoMemory = Unit {0}
IsNoFolder word stop = ⊥

-- The options are those that a request asks for, over a plan's derivations with these paths.
pub record AreOptionsFor (request : RealiseRequest) (drvs : List Path) (options : BuildOptions)
    : Type 0 where
  pub store_dir : options.store_dir.now ≡ request.run.store_dir.now
  pub runner : options.runner ≡ request.runner
  pub logs : options.logs ≡ request.logs
  pub kept : is_some options.kept ≡ request.keep_failed
  pub drvs_are : options.drvs.now ≡ drvs
  pub build_dir : IfSome request.build_dir (λ d. options.build_dir.now ≡ d.now)
  pub cores : IfSome request.cores (λ n. options.cores ≡ n)
  pub builtins : ArePrograms request.run.builtins.items options.builtins.now
