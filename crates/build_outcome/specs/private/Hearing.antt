-- What hearers tell of a tree, as an archive has it.
use Rattle.std.specs.Prelude.{◌≡◌, ◌≤◌, ◌^◌, ⊤, Bool, true, false, Option, Some, None, Result, Ok, Err, length}
use Rattle.nix_archive.specs.Archive.{nar}
use Rattle.nix_archive.specs.Tokens.{tokens_of}
use Rattle.nix_archive.specs.Trees.{Tree as Archived, File, Link, Folder}
use Rattle.drv_graph.specs.declared.kinds.Kind.{Kind}
use Rattle.drv_graph.specs.declared.profile.Profile.{Profile}
use Rattle.drv_graph.specs.declared.profile.Profile.TheVariants.{Nix, Plain}
use Rattle.build_outcome.specs.Hearing.{IsArchiveHeard}
use Rattle.build_outcome.specs.Verdicts.{NeedsArchive}
use Rattle.build_outcome.specs.declared.hearers.archive_hearer.ArchiveHearer.{ArchiveHearer}
use Rattle.build_outcome.specs.declared.reason.Reason.{Reason}
use Rattle.build_outcome.specs.declared.reason.Reason.TheVariants.{ReadFault}
use Rattle.build_outcome.specs.declared.sums.OutputSum.{OutputSum}
use Rattle.build_outcome.specs.private.Sinks.{IsSumFor}

-- a tree is a file whose bytes may be those of a fixed output
abbrev pub IsFlatArchived : Profile → Archived → Type 0
IsFlatArchived Plain (File executable bytes) = ⊤
IsFlatArchived Nix (File executable bytes) = executable ≡ false
IsFlatArchived profile (Link target) = ⊥
IsFlatArchived profile (Folder inside) = ⊥

-- whether a hearer tells of such a file
abbrev pub is_flat_heard : Profile → (others executable : Bool) → Bool
is_flat_heard profile true executable = false
is_flat_heard Plain false executable = true
is_flat_heard Nix false true = false
is_flat_heard Nix false false = true

-- what is told of a tree's archive: its sum, that it isn't asked for, or that it is too long
abbrev pub IsSumTold : Profile → Kind → Archived → Result (Option OutputSum) Reason → Type 0
IsSumTold profile kind tree (Ok None) = NeedsArchive profile kind → ⊥
IsSumTold profile kind tree (Ok (Some sum)) = IsSumFor kind (nar tree) sum
IsSumTold profile kind tree (Err why) =
    (why ≡ ReadFault) × NeedsArchive profile kind × (2 ^ 63 ≤ length (nar tree))
