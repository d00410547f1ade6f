use Rattle.std.proofs.Common.{◌≡◌, All, length}
use Rattle.std.specs.Prelude.{IfSome}
use Rattle.build_outcome.specs.declared.job.LeftOutput.{LeftOutput}
use Rattle.process_build.specs.Contents.{IsAllowed}
use Rattle.process_build.proofs.disk.outputs.read_outputs.Given as goal

-- what lies at each output so far, or that nothing does
abbrev pub invariant-loop-output : goal.invariant-loop-output
invariant-loop-output g l = record {
  count : length l.left.items ≡ l.output-index;
  plain : All (λ output. IfSome output (λ (o : LeftOutput). IsAllowed l.job.profile o.tree))
      l.left.items;
}
