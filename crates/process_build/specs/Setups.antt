-- What a builder is started with: its name, arguments, environment and files. Those of the profile
-- `plain` are this product's own (`FORMATS.md`); those of `nix` are Nix 2.8's (Nix manual,
-- "Building"; its source, `local-derivation-goal.cc`: `startBuilder`, `initEnv`, `initTmpDir`,
-- `runChild`).
use Rattle.std.specs.Prelude.{◌≡◌, ◌≢◌, ◌⊎◌, ℕ, Bool, false, ◌==◌, List, [], ◌∷◌, ◌++◌}
use Rattle.std.specs.Prelude.{All, Contains, IsUtf8, Option, None, Some, bytes_eq, codes, decimal}
use Rattle.std.specs.Prelude.{filter, fold, if◌then◌else◌, map, nat_eq, string_bytes}
use Rattle.std.specs.List.{AllZip, after_last, list_any, starts_with}
use Rattle.sha2.specs.Sha256.{sha256}
use Rattle.nix_names.specs.Base32.{base32}
use Rattle.nix_names.specs.Bytes.{Bytes, Dir, Name}
use Rattle.nix_drv.specs.Derivation.{EnvEntry}
use Rattle.nix_drv.specs.Parts.{entry_of}
use Rattle.drv_graph.specs.declared.kinds.Kind.{Kind}
use Rattle.drv_graph.specs.declared.kinds.Kind.TheVariants.{Addressed, Fixed}
use Rattle.drv_graph.specs.declared.profile.Profile.{Profile}
use Rattle.drv_graph.specs.declared.profile.Profile.TheVariants.{Nix, Plain}
use Rattle.build_outcome.specs.Tokens.{tokens}
use Rattle.build_outcome.specs.declared.job.Job.{Job}
use Rattle.build_outcome.specs.declared.job.JobOutput.{JobOutput}
use Rattle.build_outcome.specs.declared.preparation.Prepared.{Prepared}
use Rattle.build_outcome.specs.declared.preparation.Prepared.TheVariants.{Entries, Structured}
use Rattle.build_outcome.specs.declared.preparation.PreparedFile.{PreparedFile}
use Rattle.process_build.specs.declared.process.builtins.OwnBuiltin.{OwnBuiltin}
use Rattle.process_build.specs.declared.process.setup.Setup.{Setup}
use Rattle.process_build.specs.declared.process.setup.SetupFile.{SetupFile}
use Rattle.process_build.specs.declared.process.setup.SetupVar.{SetupVar}
use Rattle.process_build.specs.declared.process.surroundings.Surroundings.{Surroundings}
use Rattle.process_build.specs.declared.process.texts.RawText.{RawText}
use Rattle.process_build.specs.declared.process.texts.RawText.TheVariants as raw
use Rattle.process_build.specs.declared.process.texts.Text.{Text}
use Rattle.process_build.specs.declared.process.texts.Text.TheVariants as text

-- the bytes of a text, whoever owns it
abbrev pub text_bytes : Text → Bytes
text_bytes (text.Lent lent) = lent.now
text_bytes (text.Made made) = string_bytes made

-- the bytes of what need not be a text, whoever owns it
abbrev pub raw_bytes : RawText → Bytes
raw_bytes (raw.Lent lent) = lent.now
raw_bytes (raw.Made made) = made.items

-- the entry of a key and a value
abbrev pub entry : (key : Name) → (value : Bytes) → EnvEntry
entry k v = record { key = k; value = v }

-- the entry that a variable of a setup is
abbrev pub entry_of_var : SetupVar → EnvEntry
entry_of_var var = entry (text_bytes var.key) (text_bytes var.value)

-- the environment entries of a job's derivation
abbrev pub own_entries : Job → List EnvEntry
own_entries job = map entry_of job.env.items

-- the value that a key has after these entries are set in this order: a later one takes the place
-- of an earlier one with the same key
abbrev pub value_of : (key : Name) → List EnvEntry → Option Bytes
value_of key entries =
    fold (λ value e. if bytes_eq e.key key then Some e.value else value) None entries

-- the value, or nothing where there is none
abbrev pub or_empty : Option Bytes → Bytes
or_empty (Some value) = value
or_empty None = []

-- the tokens of the value of one of a job's own entries
abbrev pub tokens_under : (key : Name) → Job → List Bytes
tokens_under key job = tokens (or_empty (value_of key (own_entries job)))

-- the placeholder of the path of the output with this name, which stands in a derivation before its
-- paths are known: a slash and 52 base-32 characters
abbrev pub placeholder_of : Name → Bytes
placeholder_of name = 47 ∷ base32 (sha256 (codes "nix-output:" ++ name))

-- whether the placeholder of an output begins a text
abbrev pub begins : Bytes → JobOutput → Bool
begins text output = starts_with nat_eq text (placeholder_of output.name.items)

-- A text with the path of each of these outputs in the place of its placeholder. No placeholder
-- reaches into another, since a slash stands at its beginning alone.
pub data IsFilled (outputs : List JobOutput) : (text filled : Bytes) → Type 0 where
  at_end : IsFilled outputs [] []
  replaced : (output : JobOutput) (rest filled : Bytes) → Contains outputs output
      → IsFilled outputs rest filled
      → IsFilled outputs (placeholder_of output.name.items ++ rest) (output.path ++ filled)
  kept : (byte : ℕ) (rest filled : Bytes)
      → All (λ output. begins (byte ∷ rest) output ≡ false) outputs
      → IsFilled outputs rest filled → IsFilled outputs (byte ∷ rest) (byte ∷ filled)

-- the outputs whose placeholders are replaced: all of the job's under `nix`, none under `plain`
abbrev pub filled_outputs : Profile → List JobOutput → List JobOutput
filled_outputs Nix outputs = outputs
filled_outputs Plain outputs = []

-- the entry is another one with its key and value filled
abbrev pub IsFilledEntry : List JobOutput → EnvEntry → EnvEntry → Type 0
IsFilledEntry outputs e filled =
    IsFilled outputs e.key filled.key × IsFilled outputs e.value filled.value

-- the entries that are set before those of the derivation
abbrev pub entries_before : (store_dir : Dir) → List EnvEntry
entries_before store_dir =
    entry (codes "PATH") (codes "/path-not-set")
    ∷ entry (codes "HOME") (codes "/homeless-shelter")
    ∷ entry (codes "NIX_STORE") store_dir ∷ []

-- the entries of the build folder, that are set after those of the derivation
abbrev pub entries_after : (folder : Bytes) → List EnvEntry
entries_after folder =
    entry (codes "NIX_BUILD_TOP") folder ∷ entry (codes "TMPDIR") folder
    ∷ entry (codes "TEMPDIR") folder ∷ entry (codes "TMP") folder
    ∷ entry (codes "TEMP") folder ∷ entry (codes "PWD") folder ∷ []

-- under `nix` the entry that tells the number of processors is set before those of the derivation
abbrev pub entries_of_cores : (cores : ℕ) → List EnvEntry
entries_of_cores cores = entry (codes "NIX_BUILD_CORES") (decimal cores) ∷ []

-- the entries that no derivation can change under `nix`
abbrev pub entries_at_last : List EnvEntry
entries_at_last =
    entry (codes "NIX_LOG_FD") (codes "2") ∷ entry (codes "TERM") (codes "xterm-256color") ∷ []

-- the entry of a name with the value that the caller's environment has for it, or an empty one
abbrev pub caller_entry : (caller : List EnvEntry) → Name → EnvEntry
caller_entry caller name = entry name (or_empty (value_of name caller))

-- the names of the caller's variables that the builder of a fixed output gets: the tokens of
-- `impureEnvVars`, or those of structured attributes
abbrev pub impure_names : Job → Prepared → List Name
impure_names job (Entries files) = tokens_under (codes "impureEnvVars") job
impure_names job (Structured texts) = map string_bytes texts.impure.items

-- the entries of fixed outputs alone: their digests are checked, so they may depend on the caller
abbrev pub fixed_entries : Kind → (names : List Name) → (caller : List EnvEntry) → List EnvEntry
fixed_entries (Fixed method digest) names caller =
    entry (codes "NIX_OUTPUT_CHECKED") (codes "1") ∷ map (caller_entry caller) names
fixed_entries Addressed names caller = []

-- the name of the file that gets the value of the entry with this key
abbrev pub file_name_of : (key : Name) → Bytes
file_name_of key = codes ".attr-" ++ base32 (sha256 key)

-- whether a key is one of these names
abbrev pub is_among : (names : List Name) → (key : Name) → Bool
is_among names key = list_any (λ name. bytes_eq name key) names

-- what is set for an entry of the derivation under `nix`: itself; or, where its value goes into a
-- file, the path of that file under its key with `Path`
abbrev pub entry_under_nix : (folder : Bytes) → (files : List Name) → EnvEntry → EnvEntry
entry_under_nix folder files e =
    if is_among files e.key
    then entry (e.key ++ codes "Path") (folder ++ codes "/" ++ file_name_of e.key)
    else e

-- what is set for the entries of the derivation under `nix`; nothing where its attributes are
-- structured
abbrev pub attribute_entries : (folder : Bytes) → Job → Prepared → List EnvEntry
attribute_entries folder job (Entries files) =
    map (entry_under_nix folder (tokens_under (codes "passAsFile") job)) (own_entries job)
attribute_entries folder job (Structured texts) = []

-- the name of the file with the structured attributes for a shell
abbrev pub shell_name : Name
shell_name = codes ".attrs.sh"

-- the name of the file with the structured attributes as JSON
abbrev pub json_name : Name
json_name = codes ".attrs.json"

-- the entries that tell the paths of both, where the attributes are structured
abbrev pub text_entries : (folder : Bytes) → Prepared → List EnvEntry
text_entries folder (Entries files) = []
text_entries folder (Structured texts) =
    entry (codes "NIX_ATTRS_SH_FILE") (folder ++ codes "/" ++ shell_name)
    ∷ entry (codes "NIX_ATTRS_JSON_FILE") (folder ++ codes "/" ++ json_name) ∷ []

-- the entries of a builder's environment in the order in which they are set, before they are filled
abbrev pub entries_under : Profile → Surroundings → Job → Prepared → List EnvEntry
entries_under Plain around job prepared =
    entries_before around.store_dir.now ++ own_entries job ++ entries_after around.folder.now
entries_under Nix around job prepared =
    entries_before around.store_dir.now ++ entries_of_cores around.cores
    ++ attribute_entries around.folder.now job prepared
    ++ entries_after around.folder.now
    ++ fixed_entries job.kind (impure_names job prepared) (map entry_of around.caller.now)
    ++ entries_at_last
    ++ text_entries around.folder.now prepared

-- the entries whose values go into files: those whose keys are tokens of `passAsFile`
abbrev pub entries_in_files : Job → List EnvEntry
entries_in_files job =
    filter (λ e. is_among (tokens_under (codes "passAsFile") job) e.key) (own_entries job)

-- a file of a builder before it is filled: its name, with a text that is filled, or with bytes that
-- stay as they are
pub data FileText : Type 0 where
  Filled : (name : Name) (text : Bytes) → FileText
  Kept : (name : Name) (bytes : Bytes) → FileText

-- the file that gets the value of an entry
abbrev pub file_of_entry : EnvEntry → FileText
file_of_entry e = Filled (file_name_of e.key) e.value

-- the file that was prepared for `exportReferencesGraph`
abbrev pub file_of_graph : PreparedFile → FileText
file_of_graph file = Kept (string_bytes file.name) file.contents.items

-- the files that lie in a builder's folder before it is started: none under `plain`
abbrev pub files_under : Profile → Job → Prepared → List FileText
files_under Plain job prepared = []
files_under Nix job (Entries files) =
    map file_of_entry (entries_in_files job) ++ map file_of_graph files.items
files_under Nix job (Structured texts) =
    Filled json_name texts.json.items ∷ Filled shell_name texts.shell.items ∷ []

-- the file has this name and these bytes, filled where they are a text
abbrev pub IsFileOf : List JobOutput → FileText → SetupFile → Type 0
IsFileOf outputs (Filled name text) file = (text_bytes file.name ≡ name)
    × IsFilled outputs text (raw_bytes file.contents)
IsFileOf outputs (Kept name bytes) file = (text_bytes file.name ≡ name)
    × (raw_bytes file.contents ≡ bytes)

-- the text of a builtin builder, and the path of the program that is started for it, as an entry
abbrev pub entry_of_builtin : OwnBuiltin → EnvEntry
entry_of_builtin builtin = entry (string_bytes builtin.builder) (string_bytes builtin.program)

-- the value, or another text where there is none
abbrev pub or_text : (other : Bytes) → Option Bytes → Bytes
or_text other (Some value) = value
or_text other None = other

-- the text of the builder that is started: the job's; under `nix` for a builtin builder the path of
-- its program, where it has one
abbrev pub builder_under : Profile → (builtins : List OwnBuiltin) → (builder : Bytes) → Bytes
builder_under Plain builtins builder = builder
builder_under Nix builtins builder =
    or_text builder (value_of builder (map entry_of_builtin builtins))

-- the name that a builder is told as its own: its text, under `nix` what stands after its last
-- slash
abbrev pub name_under : Profile → (builder : Bytes) → Name
name_under Plain builder = builder
name_under Nix builder = after_last (λ byte. byte == 47) builder

-- A builder is started with this: the texts of its job, and what was prepared for it, under the
-- rules of the job's profile.
pub record IsSetup (around : Surroundings) (job : Job) (prepared : Prepared) (setup : Setup)
    : Type 0 where
  pub builder : setup.builder.now
      ≡ builder_under job.profile around.builtins.now job.builder.items
  pub name : setup.name.now ≡ name_under job.profile
      (builder_under job.profile around.builtins.now job.builder.items)
  pub args : AllZip (λ arg filled. IsFilled (filled_outputs job.profile job.outputs.items)
      arg.items (text_bytes filled)) job.args.items setup.args.items
  pub env : AllZip (λ e filled. IsFilledEntry (filled_outputs job.profile job.outputs.items)
      e (entry_of_var filled)) (entries_under job.profile around job prepared) setup.env.items
  pub files : AllZip (IsFileOf (filled_outputs job.profile job.outputs.items))
      (files_under job.profile job prepared) setup.files.items

-- a text that can be given to a process: UTF-8 without a zero byte
abbrev pub IsProcessText : Bytes → Type 0
IsProcessText text = IsUtf8 text × (list_any (λ b. b == 0) text ≡ false)

-- a key that an environment can have: a text for a process, not empty, without `=`
abbrev pub IsProcessKey : Name → Type 0
IsProcessKey key =
    (key ≢ []) × (list_any (λ b. b == 61) key ≡ false) × IsProcessText key

-- an entry that an environment can have
abbrev pub IsProcessEntry : EnvEntry → Type 0
IsProcessEntry e = IsProcessKey e.key × IsProcessText e.value

-- A setup can be given to a process: its builder, its arguments and its entries can. The contents
-- of its files may be any bytes.
pub record CanBeGiven (setup : Setup) : Type 0 where
  pub builder : IsProcessText setup.builder.now
  pub name : IsProcessText setup.name.now
  pub args : All (λ arg. IsProcessText (text_bytes arg)) setup.args.items
  pub env : All (λ var. IsProcessEntry (entry_of_var var)) setup.env.items

-- one of these texts, once filled, can't be given to a process
abbrev pub HasNoText : List JobOutput → List Bytes → Type 0
HasNoText outputs texts = (one : Bytes) × (filled : Bytes) × Contains texts one
    × IsFilled outputs one filled × ¬ (IsProcessText filled)

-- one of these entries, once filled, can't be given to a process
abbrev pub HasNoEntry : List JobOutput → List EnvEntry → Type 0
HasNoEntry outputs entries = (one : EnvEntry) × (filled : EnvEntry) × Contains entries one
    × IsFilledEntry outputs one filled × ¬ (IsProcessEntry filled)

-- no process can be started with what the builder of a job is to be given
abbrev pub CannotBeGiven : Surroundings → Job → Prepared → Type 0
CannotBeGiven around job prepared =
    (¬ (IsProcessText (builder_under job.profile around.builtins.now job.builder.items)))
    ⊎ (¬ (IsProcessText (name_under job.profile
    (builder_under job.profile around.builtins.now job.builder.items))))
    ⊎ HasNoText (filled_outputs job.profile job.outputs.items)
    (map (λ arg. arg.items) job.args.items)
    ⊎ HasNoEntry (filled_outputs job.profile job.outputs.items)
    (entries_under job.profile around job prepared)

-- Under `plain` a builder is started with the texts of its job as they stand, whatever was
-- prepared: under its own text, with its arguments, with its entries between those of the store
-- folder and of the build folder, and with no files.
pub record IsPlainSetup (around : Surroundings) (job : Job) (setup : Setup) : Type 0 where
  pub builder : setup.builder.now ≡ job.builder.items
  pub name : setup.name.now ≡ job.builder.items
  pub args : map text_bytes setup.args.items ≡ map (λ arg. arg.items) job.args.items
  pub env : map entry_of_var setup.env.items
      ≡ entries_before around.store_dir.now ++ own_entries job ++ entries_after around.folder.now
  pub files : setup.files.items ≡ []

abbrev pub PlainSetupsArePlain : Type 0
PlainSetupsArePlain = (around : Surroundings) (job : Job) (prepared : Prepared) (setup : Setup)
    → job.profile ≡ Plain → IsSetup around job prepared setup → IsPlainSetup around job setup
