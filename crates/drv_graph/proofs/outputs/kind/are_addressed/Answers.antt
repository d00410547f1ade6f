use Rattle.std.proofs.Common.{sym}
use Rattle.nix_drv.specs.Parts.{output_of}
use Rattle.drv_graph.specs.Kinds.{IsAddressed}
use Rattle.drv_graph.proofs.Loops.{all_took_more, seen_at}
use Rattle.drv_graph.proofs.outputs.kind.are_addressed.Goals as goal
use Rattle.nix_names.proofs.Lists.{Contains-map}

pub returns-then-not-is_addressed : goal.returns-then-not-is_addressed
returns-then-not-is_addressed c = (
  output_of c.output-item.result,
  Contains-map output_of _ _
      (c.loop-output.output-index, c.loop-output-test.true, sym c.output-item.is),
  c.if-not-is_addressed.ensures,
)

pub loop-output-preserved : goal.loop-output-preserved
loop-output-preserved c =
    all_took_more IsAddressed _ _
    _
    (seen_at output_of _ _ _
    c.loop-output-test.true c.output-item.is)
    c.loop-output.invariant c.if-not-is_addressed.ensures
