-- What a job asks of the records of the paths that it is built from (Nix manual, "Advanced
-- Attributes", `__structuredAttrs` and `exportReferencesGraph`). Only the profile `nix` has this.
use Rattle.std.specs.Prelude.{◌≢◌, ◌⊎◌, Option, Some, None, List, [], codes}
use Rattle.nix_names.specs.Bytes.{Bytes}
use Rattle.build_outcome.specs.Attributes.{json_of, value_under}
use Rattle.build_outcome.specs.Tokens.{tokens}
use Rattle.build_outcome.specs.declared.job.Job.{Job}

-- the text that asks for graphs of references, if there is one
abbrev pub graphs_of : Job → Option Bytes
graphs_of job = value_under job.profile (codes "exportReferencesGraph") job

-- records are asked for
abbrev pub AsksForRecords : Job → Type 0
AsksForRecords job = (json_of job ≢ None) ⊎ (graphs_of job ≢ None)

-- the tokens of a text, none where there is no text
abbrev pub tokens_or_none : Option Bytes → List Bytes
tokens_or_none None = []
tokens_or_none (Some text) = tokens text
