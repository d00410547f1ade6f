-- The placeholders of a job's outputs, as the program holds them.
use Rattle.std.specs.Prelude.{◌≡◌, ◌++◌, List, Contains}
use Rattle.std.specs.List.{AllZip}
use Rattle.nix_names.specs.Bytes.{Bytes}
use Rattle.build_outcome.specs.declared.job.JobOutput.{JobOutput}
use Rattle.process_build.specs.Setups.{placeholder_of}
use Rattle.process_build.specs.declared.process.placeholders.Placeholder.{Placeholder}
use Rattle.process_build.specs.declared.process.placeholders.Placeholders.{Placeholders}

-- the placeholder is that of an output, and has its path
abbrev pub IsPlaceholder : JobOutput → Placeholder → Type 0
IsPlaceholder output placeholder =
    (placeholder.text.items ≡ placeholder_of output.name.items)
    × (placeholder.path.now ≡ output.path)

-- the placeholder is that of one of some outputs, and begins a text
abbrev pub IsFoundIn : List JobOutput → Bytes → Placeholder → Type 0
IsFoundIn outputs text placeholder = (output : JobOutput) × (rest : Bytes)
    × Contains outputs output × IsPlaceholder output placeholder
    × (text ≡ placeholder_of output.name.items ++ rest)

-- the placeholders are those of their outputs, in their order
abbrev pub AreMade : Placeholders → Type 0
AreMade placeholders = AllZip IsPlaceholder placeholders.outputs.now placeholders.all.items
