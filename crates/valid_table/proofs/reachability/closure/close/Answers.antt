use Rattle.valid_table.proofs.Closures.{closing_answered}
use Rattle.valid_table.proofs.reachability.closure.close.Goals as goal

pub returns : goal.returns
returns c =
    closing_answered _ _
    _ _ c.in_ok-sorted_paths.field-0
    c.in_ok-found.ensures.valid c.in_ok-found.ensures.added c.in_ok-follow_all.ensures
    c.in_ok-sorted_paths.ensures.rising c.in_ok-sorted_paths.ensures.same
