-- What is prepared for a builder's start, and why nothing can be (Nix manual, "Advanced
-- Attributes"; the order of the reasons is this product's own).
use Rattle.std.specs.Prelude.{◌≡◌, ◌⊎◌, None, Some, List}
use Rattle.nix_names.specs.Bytes.{Bytes}
use Rattle.valid_table.specs.declared.entry.Registration.{Registration}
use Rattle.build_outcome.specs.declared.job.Job.{Job}
use Rattle.build_outcome.specs.declared.preparation.Prepared.{Prepared}
use Rattle.build_outcome.specs.declared.preparation.Prepared.TheVariants.{Entries, Structured}
use Rattle.build_outcome.specs.declared.reason.Reason.{Reason}
use Rattle.build_outcome.specs.declared.reason.Reason.TheVariants.{BadAttributes, BadGraph, UnknownNar}
use Rattle.build_outcome.specs.Attributes.{json_of}
use Rattle.builder_start.specs.Asked.{graphs_of, tokens_or_none}
use Rattle.builder_start.specs.Entries.{AreFiles, AskForBadGraphs}
use Rattle.builder_start.specs.Structured.{AreAttributes, AreGoodRequests, AreTexts, IsFirstWithoutNar}

-- what is prepared for a job by the records of the paths that it is built from
abbrev pub IsPrepared : List Registration → Job → Prepared → Type 0
IsPrepared rows job (Entries files) = (json_of job ≡ None)
    × AreFiles rows job.whole_inputs.items (tokens_or_none (graphs_of job)) files.items
IsPrepared rows job (Structured texts) = (text : Bytes) × (json_of job ≡ Some text)
    × AreTexts rows job text texts

-- why nothing can be prepared: the attributes are not what Nix takes; they are, and a graph that is
-- asked for may not be; or all may be, and the archive of a path is not known
abbrev pub IsUnprepared : List Registration → Job → Reason → Type 0
IsUnprepared rows job BadAttributes = (text : Bytes) × (json_of job ≡ Some text)
    × (AreAttributes job text → ⊥)
IsUnprepared rows job BadGraph =
    ((json_of job ≡ None)
    × AskForBadGraphs rows job.whole_inputs.items (tokens_or_none (graphs_of job)))
    ⊎ ((text : Bytes) × (json_of job ≡ Some text) × (taken : AreAttributes job text)
    × (AreGoodRequests rows job.whole_inputs.items taken.asked → ⊥))
IsUnprepared rows job (UnknownNar index) = (text : Bytes) × (json_of job ≡ Some text)
    × (taken : AreAttributes job text) × AreGoodRequests rows job.whole_inputs.items taken.asked
    × IsFirstWithoutNar rows job taken.asked index
IsUnprepared rows job reason = ⊥
