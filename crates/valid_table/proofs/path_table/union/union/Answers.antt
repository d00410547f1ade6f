use Rattle.std.proofs.Common.{◌∙◌, arith, rules}
use Rattle.valid_table.proofs.Merged.{IsMerged, merged_all, merged_more, merged_none}
use Rattle.valid_table.proofs.path_table.union.union.Goals as goal

pub paths-init : goal.paths-init
paths-init c = record {
  merged = search (rules, IsMerged, merged_none);
  enough = omega (arith, c.in_ok-paths.ensures.exact, c.in_ok-paths.ensures.len);
  room = c.in_ok-paths.ensures.exact;
}

pub paths-preserved : goal.paths-preserved
paths-preserved c =
    let held = c.paths.invariant in
    record {
      merged = merged_more _ _ _ _
          _ _ _ _
          _ held.merged c.in-Some.ensures
          (rw c.in_ok-copy.ensures.same at c.push_reserved.ensures.items);
      enough = omega (
        arith,
        held.enough,
        c.in-Some.ensures.shorter,
        c.push_reserved.ensures.len,
        c.push_reserved.ensures.capacity,
      );
      room = c.push_reserved.ensures.capacity ∙ held.room;
    }

pub returns : goal.returns
returns c = record {
  ok = merged_all _ _ _ _
      _ c.paths.invariant.merged c.in_default.ensures.0 c.in_default.ensures.1;
  room = c.paths.invariant.room;
}
