-- The names of outputs, as the code has them.
use Rattle.std.specs.Prelude.{List, map}
use Rattle.nix_names.specs.Bytes.{Name}
use Rattle.nix_drv.specs.declared.derivation.Output.{Output as OutputStruct}
use Rattle.build_outcome.specs.declared.job.JobOutput.{JobOutput}

-- the names of outputs that are to be made
abbrev pub named_texts : List JobOutput → List Name
named_texts outputs = map (λ (o : JobOutput). o.name.items) outputs

-- the names of a derivation's outputs
abbrev pub output_texts : List OutputStruct → List Name
output_texts outputs = map (λ (o : OutputStruct). o.name.items) outputs
