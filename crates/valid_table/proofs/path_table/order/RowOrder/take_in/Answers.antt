use Rattle.std.proofs.Common.{◌∙◌, ◌∷◌, [], ap, arith, length, not}
use Rattle.std.proofs.lemmas.List.{length-append}
use Rattle.valid_table.proofs.FirstRows.{keyed_more}
use Rattle.valid_table.proofs.Keys.{one_more_keyed, path_looked_up}
use Rattle.valid_table.proofs.path_table.order.RowOrder.take_in.Goals as goal

pub loop-row-preserved : goal.loop-row-preserved
loop-row-preserved c =
    let key = c.key_of-key.result in
    let row = c.loop-row.row in
    let before = c.loop-row.self.keyed.items in
    let pushed = rw (c.is_err.ensures.negation ∙ ap not c.if-is_err.false) at c.push.ensures.items
    in
    record {
      first = keyed_more _ _ _ _ _ c.loop-row.invariant.first c.loop-row.invariant.next
          (omega (arith, c.loop-row-test.true, c.len-row-end.ensures.len)) pushed;
      keys = one_more_keyed _ _ _ _
          _ _ _ c.loop-row.invariant.keys
          c.folder_of-folder.ensures
          (path_looked_up _ _ _ _
          c.keys-paths.ensures.rest c.index.ensures)
          c.key_of-key.ensures pushed;
      next = omega (
        arith,
        ap length pushed,
        c.loop-row.invariant.next,
        length-append before ((key, row) ∷ []),
      );
    }
