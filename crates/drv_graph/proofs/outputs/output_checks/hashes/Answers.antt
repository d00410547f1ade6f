use Rattle.std.proofs.Common.{◌∙◌, arith}
use Rattle.drv_graph.specs.declared.outputs.output_checks.UsedInput.{UsedInput}
use Rattle.drv_graph.proofs.Loops.{seen_at, took_more}
use Rattle.drv_graph.proofs.outputs.output_checks.hashes.Goals as goal

pub loop-input-preserved : goal.loop-input-preserved
loop-input-preserved c = record {
  first = took_more _ _ _
      _ _
      (seen_at (λ (u : UsedInput). u.hash) _ _
      _ c.loop-input-test.true c.input-item.is)
      c.loop-input.invariant.first c.push_reserved.ensures.items;
  count = omega arith;
  room = c.push_reserved.ensures.capacity ∙ c.loop-input.invariant.room;
}
