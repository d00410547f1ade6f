-- The checks of the outputs so far.
use Rattle.std.proofs.Common.{All, take}
use Rattle.std.specs.List.{AllZip}
use Rattle.std.specs.Str.{IsUtf8}
use Rattle.structured_attrs.specs.Attributes.{attributes}
use Rattle.structured_attrs.specs.Checks.{AreChecks, said_of}
use Rattle.structured_attrs.specs.declared.checks.OutputChecks.{OutputChecks}
use Rattle.build_outcome.specs.declared.job.JobOutput.{JobOutput}
use Rattle.build_outcome.proofs.checks.job_checks.checks_of_all.Given as goal

abbrev pub invariant-loop-output : goal.invariant-loop-output
invariant-loop-output l = record {
  named : All (λ (o : JobOutput). IsUtf8 o.name.items) (take l.output-index l.outputs);
  ok : AllZip (λ (o : JobOutput) (of : OutputChecks).
      AreChecks (said_of o.name.items (attributes l.given)) of) (take l.output-index l.outputs)
      l.all.items;
}
