use Rattle.std.proofs.Common.{◌∙◌, ◌+◌, [], ◌∷◌, ap, length, length-append}
use Rattle.build_outcome.proofs.Archives.{sums_more}
use Rattle.build_outcome.proofs.sums.sums_of_all.Goals as goal

pub loop-n-preserved : goal.loop-n-preserved
loop-n-preserved c = record {
  count = ap length c.push_reserved.ensures.items
      ∙ length-append c.loop-n.sums.items (c.in_ok-output_sum.field-0 ∷ [])
      ∙ ap (λ n. n + 1) c.loop-n.invariant.count;
  sums = sums_more c.args.job.now c.args.answer.now c.loop-n.sums.items
      c.push_reserved.new.self.items c.loop-n.n c.in_ok-output_sum.field-0
      c.loop-n.invariant.sums c.loop-n.invariant.count c.in_ok-output_sum.ensures.sum
      c.push_reserved.ensures.items;
  room = c.push_reserved.ensures.capacity ∙ c.loop-n.invariant.room;
}
