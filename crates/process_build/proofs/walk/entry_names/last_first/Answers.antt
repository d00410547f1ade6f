use Rattle.std.proofs.lemmas.List.Filters.{dedup_is}
use Rattle.process_build.proofs.EntryNames.{sorted_ahead, sorted_same}
use Rattle.process_build.proofs.walk.entry_names.last_first.Goals as goal

pub returns-clause-rising : goal.returns-clause-rising
returns-clause-rising c =
    sorted_ahead _ _ _ _ c.requires c.sort_unstable.ensures.permutation
    c.sort_unstable.ensures.sorted (dedup_is _ _ _ c.dedup.ensures.filtered)
    c.reverse.ensures.items

pub returns-clause-same : goal.returns-clause-same
returns-clause-same c =
    sorted_same _ _ _ _ c.sort_unstable.ensures.permutation c.sort_unstable.ensures.sorted
    (dedup_is _ _ _ c.dedup.ensures.filtered) c.reverse.ensures.items
