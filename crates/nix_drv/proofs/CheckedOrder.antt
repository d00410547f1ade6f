-- Sorted and without repeats, paths are the references of a text.
use Rattle.std.proofs.Common.{◌≡◌, ℕ, List, sym, subst, nat_eq}
use Rattle.std.specs.List.{dedup}
use Rattle.std.specs.List.Sorted.{IsPermutation, IsSorted}
use Rattle.std.specs.Ordering.{nat_cmp}
use Rattle.std.specs.Cmp.Lexicographic.{pointwise, slice_cmp}
use Rattle.nix_names.proofs.RisingLists.{members_of_dedup, rising_dedup}
use Rattle.nix_drv.specs.References.{IsReferencesOf}

-- what a sort and a `dedup` leave of some paths
pub references_from : (paths pushed sorted kept : List (List ℕ)) → pushed ≡ paths
    → IsPermutation pushed sorted → IsSorted (slice_cmp nat_cmp) sorted → kept
    ≡ dedup (pointwise nat_eq) sorted → IsReferencesOf paths kept
references_from paths pushed sorted kept same moved ordered is_kept =
    let moved_here : IsPermutation paths sorted =
    subst (λ (all : List (List ℕ)). IsPermutation all sorted) same moved in
    let all_kept : IsReferencesOf paths (dedup (pointwise nat_eq) sorted) =
    record {
      rising = rising_dedup _ ordered;
      same = members_of_dedup _ _ moved_here;
    } in
    subst (λ (refs : List (List ℕ)). IsReferencesOf paths refs) (sym is_kept) all_kept
