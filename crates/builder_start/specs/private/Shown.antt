-- What private values stand for.
use Rattle.std.specs.Prelude.{◌≡◌, ◌⊎◌, ℕ, List, String, map, string_bytes}
use Rattle.std.specs.declared.alloc.Global.{Global}
use Rattle.nix_names.specs.Bytes.{Bytes, Path}
use Rattle.valid_table.specs.declared.entry.Registration.{Registration}
use Rattle.structured_attrs.specs.Attributes.{attributes}
use Rattle.structured_attrs.specs.Graphs.{shown_request}
use Rattle.structured_attrs.specs.declared.outputs.OutputPath.{OutputPath}
use Rattle.build_outcome.specs.declared.job.Job.{Job}
use Rattle.build_outcome.specs.declared.job.JobOutput.{JobOutput}
use Rattle.build_outcome.specs.declared.reason.Reason.{Reason}
use Rattle.build_outcome.specs.declared.reason.Reason.TheVariants.{BadAttributes, BadGraph, OutOfMemory, UnknownNar}
use Rattle.builder_start.specs.Structured.{AreAttributes, AreGoodRequests, IsFirstWithoutNar}
use Rattle.builder_start.specs.declared.given.Given.{Given}
use Rattle.builder_start.specs.declared.pairs.Pair.{Pair}

-- the name and the text of a pair
abbrev pub shown_pair : Pair → Bytes × Bytes
shown_pair pair = (pair.name.now, pair.text.now)

-- the name and the path of an output
abbrev pub shown_output : OutputPath → Bytes × Path
shown_output output = (string_bytes output.name, output.path)

-- the name and the path of a job's output
abbrev pub output_of : JobOutput → Bytes × Path
output_of output = (output.name.items, output.path)

-- the texts of strings
abbrev pub texts_of : List (String Global) → List Bytes
texts_of strings = map (λ (s : String Global). string_bytes s) strings

-- a reason is want of memory, or another one that is true
abbrev pub IsWhy : (other : Reason) → (fact : Type 0) → Reason → Type 0
IsWhy other fact reason = (reason ≡ OutOfMemory) ⊎ ((reason ≡ other) × fact)

-- Structured attributes were taken: these are their members, and what they ask for.
pub record IsGiven (job : Job) (text : Bytes) (given : Given) : Type 0 where
  pub taken : AreAttributes job text
  pub attributes : attributes given.attributes ≡ taken.given
  pub impure : texts_of given.impure.items ≡ taken.impure
  pub requests : map shown_request given.requests.items ≡ taken.asked
  pub outputs : map shown_output given.outputs.items ≡ map output_of job.outputs.items

-- why there are no texts of structured attributes
abbrev pub IsUntold : List Registration → Job → (text : Bytes) → Reason → Type 0
IsUntold rows job text reason = IsWhy BadAttributes (AreAttributes job text → ⊥) reason
    ⊎ ((taken : AreAttributes job text)
    × (IsWhy BadGraph (AreGoodRequests rows job.whole_inputs.items taken.asked → ⊥) reason
    ⊎ ((index : ℕ) × (reason ≡ UnknownNar index)
    × AreGoodRequests rows job.whole_inputs.items taken.asked
    × IsFirstWithoutNar rows job taken.asked index)))
