-- The first outputs were taken, and their names are UTF-8.
use Rattle.std.proofs.Common.{◌≡◌, All, map, take}
use Rattle.std.specs.Str.{IsUtf8}
use Rattle.build_outcome.specs.declared.job.JobOutput.{JobOutput}
use Rattle.builder_start.specs.private.Shown.{output_of, shown_output}
use Rattle.builder_start.proofs.given.output_paths.Given as goal

abbrev pub invariant-outputs : goal.invariant-outputs
invariant-outputs l = record {
  utf8 : All (λ (o : JobOutput). IsUtf8 o.name.items) (take l.output-index l.outputs);
  ok : map shown_output l.paths.items ≡ map output_of (take l.output-index l.outputs);
}
