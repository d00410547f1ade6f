use Rattle.std.proofs.Common.{subst, sym}
use Rattle.std.proofs.lemmas.List.Filters.{dedup_is}
use Rattle.nix_names.specs.Rising.{IsRising}
use Rattle.nix_names.proofs.RisingLists.{members_of_dedup, rising_dedup}
use Rattle.nix_names.proofs.path_order.sort_paths.Goals as goal

pub returns-clause-rising : goal.returns-clause-rising
returns-clause-rising c =
    subst IsRising (sym (dedup_is _ _ _ c.dedup.ensures.filtered))
    (rising_dedup _ c.sort_unstable.ensures.sorted)

pub returns-clause-same : goal.returns-clause-same
returns-clause-same c =
    rw (dedup_is _ _ _ c.dedup.ensures.filtered)
    (members_of_dedup _ _ c.sort_unstable.ensures.permutation)
