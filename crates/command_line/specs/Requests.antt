-- What a command line asks for: the subcommand that `clap` finds, and its words and options, with
-- the default values of options that aren't given (the documentation of clap 4, `ArgMatches`).
use Rattle.std.specs.Prelude.{◌≡◌, ◌≤◌, ⊤, Bool, false, ℕ, List, [], Option, Some, None, codes, map}
use Rattle.std.specs.Prelude.{option_map, unwrap_or}
use Rattle.std.specs.Str.Parse.{IsNumeral, digits_value, without_leading_plus}
use Rattle.clap.specs.Words.{Row, all_of, first_of, subcommand_of}
use Rattle.nix_names.specs.Bytes.{Bytes, Dir, Name}
use Rattle.nix_names.specs.Names.{same_bytes}
use Rattle.drv_graph.specs.declared.profile.Profile.{Profile}
use Rattle.drv_graph.specs.declared.profile.Profile.TheVariants.{Nix, Plain}
use Rattle.command_line.specs.Builtins.{AreBuiltins}
use Rattle.command_line.specs.CommandLine.{command_line}
use Rattle.command_line.specs.declared.options.AddDrvRequest.{AddDrvRequest}
use Rattle.command_line.specs.declared.options.AddTextRequest.{AddTextRequest}
use Rattle.command_line.specs.declared.options.CheckRequest.{CheckRequest}
use Rattle.command_line.specs.declared.options.DumpRequest.{DumpRequest}
use Rattle.command_line.specs.declared.options.HashRequest.{HashRequest}
use Rattle.command_line.specs.declared.options.PlanRequest.{PlanRequest}
use Rattle.command_line.specs.declared.options.RealiseRequest.{RealiseRequest}
use Rattle.command_line.specs.declared.options.RestoreRequest.{RestoreRequest}
use Rattle.command_line.specs.declared.options.RunRequest.{RunRequest}
use Rattle.command_line.specs.declared.options.VerifyRequest.{VerifyRequest}
use Rattle.command_line.specs.declared.options.Request.{Request}
use Rattle.command_line.specs.declared.options.Request.TheVariants.{Check, AddText, AddDrv, Plan}
use Rattle.command_line.specs.declared.options.Request.TheVariants.{Realise, Dump, Restore, Hash}
use Rattle.command_line.specs.declared.options.Request.TheVariants.{Verify, Faults}

-- the store folder among the words and options that were found
abbrev pub store_dir_in : List Row → Dir
store_dir_in rows = unwrap_or (first_of (codes "store-dir") rows) (codes "/nix/store")

-- the system among them
abbrev pub system_in : List Row → Bytes
system_in rows = unwrap_or (first_of (codes "system") rows) (codes "x86_64-linux")

-- the number of builders among them, as a text
abbrev pub jobs_in : List Row → Bytes
jobs_in rows = unwrap_or (first_of (codes "jobs") rows) (codes "1")

-- the profile among them, as a text
abbrev pub profile_in : List Row → Bytes
profile_in rows = unwrap_or (first_of (codes "profile") rows) (codes "plain")

-- the text names this profile (this product's own)
abbrev pub NamesProfile : (text : Bytes) → Profile → Type 0
NamesProfile text Plain = text ≡ codes "plain"
NamesProfile text Nix = text ≡ codes "nix"

-- the text names no profile
abbrev pub NamesNoProfile : (text : Bytes) → Type 0
NamesNoProfile text = (profile : Profile) → ¬ NamesProfile text profile

-- the word with this name
abbrev pub word_in : (name : Name) → List Row → Bytes
word_in name rows = unwrap_or (first_of name rows) []

-- the words with this name, in their order
abbrev pub words_in : (name : Name) → List Row → List Bytes
words_in name rows = unwrap_or (all_of name rows) []

-- whether a flag was given, by its value
abbrev pub is_yes : Option Bytes → Bool
is_yes (Some text) = same_bytes text (codes "true")
is_yes None = false

-- whether the flag with this name was given
abbrev pub is_flagged : (name : Name) → List Row → Bool
is_flagged name rows = is_yes (first_of name rows)

-- the text is this number in decimal, without a sign or after a plus
abbrev pub IsNumber : (text : Bytes) → ℕ → Type 0
IsNumber text number =
    let digits : Bytes = without_leading_plus text in
    IsNumeral 10 digits × (number ≡ digits_value 10 digits)

-- a number of builders is from 1 to 64 (this product's own)
abbrev pub IsJobCount : ℕ → Type 0
IsJobCount number = (1 ≤ number) × (number ≤ 64)

-- the text is this number of builders
abbrev pub AreJobs : (text : Bytes) → ℕ → Type 0
AreJobs text number = IsNumber text number × IsJobCount number

-- a number of processors is at most 65,535 (this product's own)
abbrev pub IsCoreCount : ℕ → Type 0
IsCoreCount number = number ≤ 65535

-- the text is this number of processors, where there is a text, and there is none else
abbrev pub AreCores : (text : Option Bytes) → Option ℕ → Type 0
AreCores None None = ⊤
AreCores (Some text) (Some number) = IsNumber text number × IsCoreCount number
AreCores text number = ⊥

-- what is asked of `check`
pub record IsCheckRequest (rows : List Row) (request : CheckRequest) : Type 0 where
  pub store_dir : request.store_dir.now ≡ store_dir_in rows
  pub drvs : map (λ w. w.now) request.drvs.items ≡ words_in (codes "DRV") rows

-- what is asked of `add-text`
pub record IsAddText (rows : List Row) (request : AddTextRequest) : Type 0 where
  pub store_dir : request.store_dir.now ≡ store_dir_in rows
  pub journal : option_map (λ f. f.now) request.journal ≡ first_of (codes "journal") rows
  pub name : request.name.now ≡ word_in (codes "NAME") rows
  pub file : request.file.now ≡ word_in (codes "FILE") rows
  pub wait : request.wait ≡ is_flagged (codes "wait") rows
  pub profile : NamesProfile (profile_in rows) request.profile

-- what is asked of `add-drv`
pub record IsAddDrv (rows : List Row) (request : AddDrvRequest) : Type 0 where
  pub store_dir : request.store_dir.now ≡ store_dir_in rows
  pub name : request.name.now ≡ word_in (codes "NAME") rows
  pub file : request.file.now ≡ word_in (codes "FILE") rows
  pub profile : NamesProfile (profile_in rows) request.profile

-- what is asked of `plan` beside the form of its text, and of `realise` beside the number of its
-- builders
pub record IsRunRequest (rows : List Row) (request : RunRequest) : Type 0 where
  pub store_dir : request.store_dir.now ≡ store_dir_in rows
  pub journal : option_map (λ f. f.now) request.journal ≡ first_of (codes "journal") rows
  pub system : request.system.now ≡ system_in rows
  pub profile : NamesProfile (profile_in rows) request.profile
  pub features : option_map (λ f. f.now) request.features ≡ first_of (codes "system-features") rows
  pub builtins : AreBuiltins (words_in (codes "builtin") rows) request.builtins.items
  pub drvs : map (λ w. w.now) request.drvs.items ≡ words_in (codes "DRV") rows

-- what is asked of `plan`
pub record IsPlanned (rows : List Row) (request : PlanRequest) : Type 0 where
  pub run : IsRunRequest rows request.run
  pub dot : request.dot ≡ is_flagged (codes "dot") rows

-- what is asked of `realise`
pub record IsRealise (rows : List Row) (request : RealiseRequest) : Type 0 where
  pub run : IsRunRequest rows request.run
  pub jobs : AreJobs (jobs_in rows) request.jobs
  pub wait : request.wait ≡ is_flagged (codes "wait") rows
  pub in_nix_store : request.in_nix_store ≡ is_flagged (codes "in-nix-store") rows
  pub logs : option_map (λ f. f.now) request.logs ≡ first_of (codes "logs") rows
  pub keep_failed : request.keep_failed ≡ is_flagged (codes "keep-failed") rows
  pub runner : option_map (λ p. p.now) request.runner ≡ first_of (codes "runner") rows
  pub trace : option_map (λ f. f.now) request.trace ≡ first_of (codes "trace") rows
  pub build_dir : option_map (λ d. d.now) request.build_dir ≡ first_of (codes "build-dir") rows
  pub cores : AreCores (first_of (codes "cores") rows) request.cores

-- what is asked of `dump`, of `restore` and of `hash`: what lies at the word PATH, or shall lie there
abbrev pub IsDump : List Row → DumpRequest → Type 0
IsDump rows request = request.path.now ≡ word_in (codes "PATH") rows

abbrev pub IsRestore : List Row → RestoreRequest → Type 0
IsRestore rows request = request.path.now ≡ word_in (codes "PATH") rows

abbrev pub IsHash : List Row → HashRequest → Type 0
IsHash rows request = request.path.now ≡ word_in (codes "PATH") rows

-- what is asked of `verify`
pub record IsVerify (rows : List Row) (request : VerifyRequest) : Type 0 where
  pub store_dir : request.store_dir.now ≡ store_dir_in rows
  pub journal : option_map (λ f. f.now) request.journal ≡ first_of (codes "journal") rows
  pub paths : map (λ w. w.now) request.paths.items ≡ words_in (codes "PATH") rows

-- what is asked by a subcommand with this name and these words and options
abbrev pub IsAskedBy : (name : Name) → List Row → Request → Type 0
IsAskedBy name rows (Check request) = (name ≡ codes "check") × IsCheckRequest rows request
IsAskedBy name rows (AddText request) = (name ≡ codes "add-text") × IsAddText rows request
IsAskedBy name rows (AddDrv request) = (name ≡ codes "add-drv") × IsAddDrv rows request
IsAskedBy name rows (Plan request) = (name ≡ codes "plan") × IsPlanned rows request
IsAskedBy name rows (Realise request) = (name ≡ codes "realise") × IsRealise rows request
IsAskedBy name rows (Dump request) = (name ≡ codes "dump") × IsDump rows request
IsAskedBy name rows (Restore request) = (name ≡ codes "restore") × IsRestore rows request
IsAskedBy name rows (Hash request) = (name ≡ codes "hash") × IsHash rows request
IsAskedBy name rows (Verify request) = (name ≡ codes "verify") × IsVerify rows request
IsAskedBy name rows Faults = ⊥

-- what is asked by the subcommand that was found, if there is one
abbrev pub IsAskedIn : Option (Name × List Row) → Request → Type 0
IsAskedIn None request = ⊥
IsAskedIn (Some (name, rows)) request = IsAskedBy name rows request

-- what is asked by the words of a command line, whose first one is the program's own name
abbrev pub IsRequest : (words : List Bytes) → Request → Type 0
IsRequest words request = IsAskedIn (subcommand_of command_line words) request
