-- How the checks of a job are read.
use Rattle.std.specs.Prelude.{◌≡◌, ◌⊎◌, ℕ, IsUtf8, List, Option, None, Some, slice_get}
use Rattle.serde_json.specs.Data.{Members}
use Rattle.nix_names.specs.Bytes.{Bytes}
use Rattle.structured_attrs.specs.Checks.{SaysNoChecks, said_of, shown_list}
use Rattle.structured_attrs.specs.declared.checks.OutputChecks.{OutputChecks}
use Rattle.structured_attrs.specs.declared.fault.AttributesFault.{AttributesFault}
use Rattle.structured_attrs.specs.declared.fault.AttributesFault.TheVariants as fault
use Rattle.build_outcome.specs.declared.checks.check.Check.{Check}
use Rattle.build_outcome.specs.declared.checks.check.Check.TheVariants.{AllowedReferences, AllowedRequisites, DisallowedReferences, DisallowedRequisites}
use Rattle.build_outcome.specs.declared.checks.job_checks.JobChecks.{JobChecks}
use Rattle.build_outcome.specs.declared.checks.job_checks.JobChecks.TheVariants.{Entries, Structured}
use Rattle.build_outcome.specs.declared.job.JobOutput.{JobOutput}
use Rattle.build_outcome.specs.declared.reason.Reason.{Reason}
use Rattle.build_outcome.specs.declared.reason.Reason.TheVariants.{BadAttributes, OutOfMemory}

-- why nothing is read: memory was refused, or attributes are not what Nix takes
abbrev pub IsRefusal : (Bad : Type 0) → Reason → Type 0
IsRefusal Bad why = (why ≡ OutOfMemory) ⊎ ((why ≡ BadAttributes) × Bad)

-- the reason of a fault of structured attributes
abbrev pub reason_of : AttributesFault → Reason
reason_of fault.BadAttributes = BadAttributes
reason_of fault.NoMemory = OutOfMemory

-- the checks of an output can't be read from some attributes
abbrev pub HasBadChecks : Members → JobOutput → Type 0
HasBadChecks given output = (IsUtf8 output.name.items → ⊥)
    ⊎ SaysNoChecks (said_of output.name.items given)

-- the checks that structured attributes have of the output with this number
abbrev pub of_output : JobChecks → ℕ → Option OutputChecks
of_output Entries n = None
of_output (Structured checks) n = slice_get checks.items n

-- the list of a check among the checks of an output
abbrev pub list_said : OutputChecks → Check → Option (List Bytes)
list_said checks AllowedReferences = shown_list checks.allowed_references
list_said checks AllowedRequisites = shown_list checks.allowed_requisites
list_said checks DisallowedReferences = shown_list checks.disallowed_references
list_said checks DisallowedRequisites = shown_list checks.disallowed_requisites
