-- Structured attributes as a builder gets them (Nix manual, "Advanced Attributes",
-- `__structuredAttrs`; Nix 2.8, `parsed-derivations.cc`: `prepareStructuredAttrs`;
-- `store-api.cc`: `pathInfoToJSON`).
use Rattle.std.specs.Prelude.{◌≡◌, ◌%◌, ◌^◌, ℕ, IsUtf8, Option, Some, None, List, [], ◌∷◌, All, Contains, String, codes, flat_map, map, option_map, string_bytes, sum}
use Rattle.std.specs.List.{AllZip}
use Rattle.std.specs.declared.alloc.Global.{Global}
use Rattle.serde_json.specs.Data.{Data, object, string, Members, no_members, put}
use Rattle.serde_json.specs.Find.{get_member}
use Rattle.nix_names.specs.Bytes.{Bytes, Path}
use Rattle.valid_table.specs.PathInfos.{NarInfo}
use Rattle.valid_table.specs.Unions.{IsUnion}
use Rattle.valid_table.specs.Entries.{paths_registered}
use Rattle.valid_table.specs.Valid.{IsValid}
use Rattle.valid_table.specs.declared.entry.Registration.{Registration}
use Rattle.structured_attrs.specs.Checks.{AreChecks, said_of}
use Rattle.structured_attrs.specs.Graphs.{graph_data, graph_requests}
use Rattle.structured_attrs.specs.JsonTexts.{IsJsonText}
use Rattle.structured_attrs.specs.Reading.{attributes_of}
use Rattle.structured_attrs.specs.ShellTexts.{shell_text}
use Rattle.structured_attrs.specs.Strings.{array_texts}
use Rattle.structured_attrs.specs.declared.checks.OutputChecks.{OutputChecks}
use Rattle.structured_attrs.specs.declared.graph.GraphRow.{GraphRow}
use Rattle.build_outcome.specs.Checks.{IsFirstPath}
use Rattle.build_outcome.specs.Verdicts.{outputs_of}
use Rattle.build_outcome.specs.declared.job.Job.{Job}
use Rattle.build_outcome.specs.declared.job.JobOutput.{JobOutput}
use Rattle.build_outcome.specs.declared.job.WholeInput.{WholeInput}
use Rattle.build_outcome.specs.declared.preparation.AttributeTexts.{AttributeTexts}
use Rattle.builder_start.specs.Addresses.{content_address}
use Rattle.builder_start.specs.Graphs.{AreClosureRecords, AreGraphPaths, IsInGraph, MayBeGraph}

-- ---- attributes that are taken

-- the texts of the array that a member is: nothing where there is no member, and none where it is
-- something else than an array of strings
abbrev pub strings_of : Option Data → Option (List Bytes)
strings_of None = Some []
strings_of (Some d) = array_texts d

-- some members say checks of an output that Nix takes
abbrev pub SayChecks : Members → Type 0
SayChecks said = (checks : OutputChecks) × AreChecks said checks

-- The text is an object of JSON that Nix takes: `impureEnvVars` and `requiredSystemFeatures` are
-- arrays of strings where they are there, `exportReferencesGraph` asks for strings, and
-- `outputChecks` says checks of each of the job's outputs. The names of these can stand in it.
pub record AreAttributes (job : Job) (text : Bytes) : Type 0 where
  pub given : Members
  pub utf8 : IsUtf8 text
  pub read : attributes_of text ≡ Some given
  pub impure : List Bytes
  pub are_impure : strings_of (get_member (codes "impureEnvVars") given) ≡ Some impure
  pub features : List Bytes
  pub are_features : strings_of (get_member (codes "requiredSystemFeatures") given) ≡ Some features
  pub asked : List (Bytes × List Bytes)
  pub are_asked : graph_requests given ≡ Some asked
  pub named : All (λ (output : JobOutput). IsUtf8 output.name.items) job.outputs.items
  pub checked : All (λ (output : JobOutput). SayChecks (said_of output.name.items given))
      job.outputs.items

-- ---- graphs that are asked for

-- the texts that are asked for under all keys
abbrev pub texts_asked : List (Bytes × List Bytes) → List Bytes
texts_asked asked = flat_map (λ (request : Bytes × List Bytes). request.1) asked

-- What is asked for may be: each text is the path of a record, and the graph of all of them may be
-- asked for.
pub record AreGoodRequests (rows : List Registration) (whole : List WholeInput)
    (asked : List (Bytes × List Bytes)) : Type 0 where
  pub valid : All (IsValid rows) (texts_asked asked)
  pub may_be : MayBeGraph rows whole (texts_asked asked)

-- a path of some graph that is asked for has a record without an archive
abbrev pub LacksNar : List Registration → List WholeInput → (asked : List (Bytes × List Bytes))
    → Path → Type 0
LacksNar rows whole asked path = (row : Registration) × Contains rows row × (row.path ≡ path)
    × (row.info.nar ≡ None) × IsInGraph rows whole (texts_asked asked) path

-- the paths of some records and of a job's outputs, in rising order, in which a path is named by
-- its index
abbrev pub AreNamable : List Registration → Job → List Path → Type 0
AreNamable rows job paths = IsUnion (paths_registered rows) (outputs_of job) paths

-- the index is that of the least path without an archive
abbrev pub IsFirstWithoutNar : List Registration → Job → (asked : List (Bytes × List Bytes))
    → (index : ℕ) → Type 0
IsFirstWithoutNar rows job asked index = (paths : List Path) × AreNamable rows job paths
    × IsFirstPath paths (LacksNar rows job.whole_inputs.items asked) index

-- ---- graphs as JSON

-- the length of an archive, 0 where none is known
abbrev pub size_of : Option NarInfo → ℕ
size_of None = 0
size_of (Some nar) = nar.size

-- the lengths of the archives of some paths together, as an integer of 64 bits without a sign
abbrev pub closure_size : List Registration → ℕ
closure_size graph = sum (map (λ (r : Registration). size_of r.info.nar) graph) % 2 ^ 64

-- What is told of a path: its record, its archive, the size of its closure (without the outputs of
-- derivations), and its content address.
pub record IsRow (rows : List Registration) (row : GraphRow) : Type 0 where
  pub known : Contains rows row.registration
  pub nar : row.registration.info.nar ≡ Some row.nar
  pub graph : List Registration
  pub are_records : AreClosureRecords rows (row.registration.path ∷ []) graph
  pub size : row.closure_size ≡ closure_size graph
  pub ca : option_map (λ (s : String Global). string_bytes s) row.ca
      ≡ content_address row.registration

-- A graph is that of a request: it is told under the request's key of each path of the graph of all
-- the request's paths, in rising order.
pub record IsGraphOf (rows : List Registration) (whole : List WholeInput)
    (request : Bytes × List Bytes) (graph : Bytes × List GraphRow) : Type 0 where
  pub key : graph.0 ≡ request.0
  pub paths : AreGraphPaths rows whole request.1
      (map (λ (r : GraphRow). r.registration.path) graph.1)
  pub each : All (IsRow rows) graph.1

-- some members, and each graph under its key
abbrev pub with_graphs : List (Bytes × List GraphRow) → Members → Members
with_graphs [] found = found
with_graphs (graph ∷ rest) found = with_graphs rest (put graph.0 (graph_data graph.1) found)

-- some members, and the path of each output under its name
abbrev pub with_paths : List JobOutput → Members → Members
with_paths [] found = found
with_paths (output ∷ rest) found = with_paths rest (put output.name.items (string output.path) found)

-- the attributes with the object of the outputs, and then with each graph
abbrev pub with_all : Job → List (Bytes × List GraphRow) → Members → Members
with_all job graphs given = with_graphs graphs
    (put (codes "outputs") (object (with_paths job.outputs.items no_members)) given)

-- The texts are those of the attributes with the outputs and the graphs that are asked for.
pub record AreTexts (rows : List Registration) (job : Job) (text : Bytes) (texts : AttributeTexts)
    : Type 0 where
  pub taken : AreAttributes job text
  pub good : AreGoodRequests rows job.whole_inputs.items taken.asked
  pub graphs : List (Bytes × List GraphRow)
  pub are_graphs : AllZip (IsGraphOf rows job.whole_inputs.items) taken.asked graphs
  pub json : IsJsonText (object (with_all job graphs taken.given)) texts.json.items
  pub shell : texts.shell.items ≡ shell_text (with_all job graphs taken.given)
  pub impure : map (λ (s : String Global). string_bytes s) texts.impure.items ≡ taken.impure
