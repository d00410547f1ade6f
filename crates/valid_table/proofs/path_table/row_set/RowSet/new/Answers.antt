use Rattle.valid_table.proofs.Marks.{none_marked}
use Rattle.valid_table.proofs.path_table.row_set.RowSet.new.Goals as goal

pub invariant_of-result : goal.invariant_of-result
invariant_of-result c =
    rw (c.new.ensures.items, c.in_ok-marks.ensures.items_if_clones_equal (λ y e. e)) (none_marked _)
