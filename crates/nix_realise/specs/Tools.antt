-- What starts the builders of a run: its runner, the programs of builtin builders, the folder that
-- gets the build folders, and how many processors a builder may use (this product's own).
use Rattle.std.specs.Prelude.{◌≡◌, ◌⊎◌, ◌++◌, ◌∷◌, [], List, Contains, IfSome, map, string_bytes}
use Rattle.nix_names.specs.Bytes.{Bytes}
use Rattle.process_build.specs.declared.process.builtins.BuiltinProgram.{BuiltinProgram}
use Rattle.command_line.specs.declared.options.Builtin.{Builtin}
use Rattle.command_line.specs.declared.options.RealiseRequest.{RealiseRequest}
use Rattle.nix_realise.specs.declared.runs.tools.Tools.{Tools}
use Rattle.nix_realise.specs.declared.cli.run_error.RunError.{RunError}
use Rattle.nix_realise.specs.declared.cli.run_error.RunError.TheVariants.{NoBuildDir, NoMemory, NoRunner}

-- the builtin builders have these programs
pub record ArePrograms (builtins : List Builtin) (programs : List BuiltinProgram) : Type 0 where
  pub names : map (λ p. p.name.now) programs ≡ map (λ b. b.name.now) builtins
  pub programs_are : map (λ p. p.program.now) programs ≡ map (λ b. b.program.now) builtins

-- What a run has by its words: the runner and the programs that they name; and a folder and a number
-- that are those of the words, where they name them.
pub record AreTools (request : RealiseRequest) (tools : Tools) : Type 0 where
  pub runner : tools.runner.path ≡ request.runner
  pub builtins : ArePrograms request.run.builtins.items tools.builtins.items
  pub build_dir : IfSome request.build_dir (λ d. string_bytes tools.build_dir ≡ d.now)
  pub cores : IfSome request.cores (λ n. tools.cores ≡ n)

-- why one of some programs can't be started: it is no absolute path of a file that may be executed;
-- or memory is refused
abbrev pub IsNoProgram : (programs : List Bytes) → RunError → Type 0
IsNoProgram programs (NoRunner blamed) = Contains programs blamed.now
IsNoProgram programs NoMemory = Unit {0}
IsNoProgram programs stop = ⊥

-- a program that is named: the runner, or that of a builtin builder
abbrev pub IsNamedProgram : RealiseRequest → (word : Bytes) → Type 0
IsNamedProgram request word =
    IfSome request.runner (λ r. r.now ≡ word)
    ⊎ Contains (map (λ (b : Builtin). b.program.now) request.run.builtins.items) word

-- Why a run hasn't what starts its builders: a program that is named can't be; the folder that gets
-- the build folders can't be; or memory is refused.
abbrev pub IsNoTool : RealiseRequest → RunError → Type 0
IsNoTool request (NoRunner blamed) = IsNamedProgram request blamed.now
IsNoTool request (NoBuildDir folder) =
    IfSome request.build_dir (λ d. string_bytes folder ≡ d.now)
IsNoTool request NoMemory = Unit {0}
IsNoTool request stop = ⊥

-- a path is a folder or lies below it, by the texts of both: after the folder's nothing follows, or a
-- slash
abbrev pub IsWithin : (folder path : Bytes) → Type 0
IsWithin folder path =
    (path ≡ folder) ⊎ ((rest : Bytes) × (path ≡ folder ++ 47 ∷ rest))
