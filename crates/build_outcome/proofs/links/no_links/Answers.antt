use Rattle.std.proofs.Common.{◌∙◌, ◌+◌, [], ◌∷◌, ap, length, length-append}
use Rattle.build_outcome.proofs.Linkages.{no_links_more}
use Rattle.build_outcome.proofs.links.no_links.Goals as goal

pub loop-preserved : goal.loop-preserved
loop-preserved c = record {
  count = ap length c.push_reserved.ensures.items
      ∙ length-append c.loop.links.items (c.new.result ∷ [])
      ∙ ap (λ n. n + 1) c.loop.invariant.count;
  none = no_links_more _ _ _ c.loop.invariant.none
      c.new.ensures.items c.push_reserved.ensures.items;
  room = c.push_reserved.ensures.capacity ∙ c.loop.invariant.room;
}
