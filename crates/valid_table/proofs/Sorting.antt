-- The paths of rows, sorted: they rise strictly, since no path has two rows.
use Rattle.std.proofs.lemmas.Grind.{common_steps}
use Rattle.std.proofs.Common.{◌≡◌, ℕ, ◌+◌, ◌<◌, All, false, true, List, map, refl, [], ◌∷◌, ◌++◌, length, take, get_or, nat_eq, Some, sym, ap, subst, ◌∙◌, arith, rules}
use Rattle.std.specs.Cmp.Lexicographic.{pointwise, slice_cmp, nat_list_eq_equiv}
use Rattle.std.specs.declared.cmp.Ordering.{Ordering}
use Rattle.std.specs.declared.cmp.Ordering.TheVariants.{Equal, Greater, Less}
use Rattle.std.specs.List.{AllAdjacentBelow, IsDistinct, slice_get}
use Rattle.std.specs.List.Sorted.{IsPermutation, IsSorted}
use Rattle.std.specs.Ordering.{is_le, is_some_and, is_lt, nat_cmp, ordering_reverse}
use Rattle.std.proofs.lemmas.Bool.{false_from_ne_true, false≢true}
use Rattle.std.proofs.lemmas.Cmp.{nat_eq_equiv, nat_list_cmp_total}
use Rattle.std.proofs.lemmas.List.{get_or-map, length-map, map-append, take_more}
use Rattle.std.proofs.lemmas.List.Elements.{All-get_or}
use Rattle.std.proofs.lemmas.List.Sorted.{Contains-permutation, IsPermutation-map, IsPermutation-sym}
use Rattle.std.proofs.lemmas.Map.Keys.{apart_from_distinct, IsDistinct-from_apart, IsDistinct-IsPermutation}
use Rattle.std.proofs.lemmas.Map.Views.{All-map-IsPermutation}
use Rattle.std.proofs.lemmas.Option.{get_or_from_slice_get}
use Rattle.nix_names.specs.Rising.{IsRising}
use Rattle.nix_names.proofs.RisingLists.{equal_from_eq, rising_sorted}
use Rattle.valid_table.specs.private.Closing.{AreRows, HaveSame, path_at, paths_at}
use Rattle.valid_table.specs.Entries.{paths_registered}
use Rattle.valid_table.specs.Valid.{IsOnce}
use Rattle.valid_table.specs.declared.entry.Registration.{Registration}
use Rattle.valid_table.proofs.Reaching.{same_index}
use Rattle.valid_table.proofs.RowNumbers.{path_count}

-- the paths of distinct rows are distinct
paths_distinct : (registrations : List Registration) → IsOnce registrations → (rows : List ℕ)
    → AreRows registrations rows → IsDistinct (pointwise nat_eq) (paths_at registrations rows)
paths_distinct registrations once rows are = IsDistinct-from_apart (pointwise nat_eq)
    _ apart
  where
    paths : List (List ℕ)
    paths = paths_at registrations rows

    row_at : (k : ℕ) (d : List ℕ) → k < length rows → get_or paths k d
        ≡ get_or (paths_registered registrations) (get_or rows k 0) []
    row_at k d below = search (rules, get_or-map)

    within : (k : ℕ) → k < length rows → get_or rows k 0 < length (paths_registered registrations)
    within k below = search (rules, All-get_or, path_count)

    apart : (i j : ℕ) (d : List ℕ) → i < j → j < length paths
        → pointwise nat_eq (get_or paths i d) (get_or paths j d) ≡ false
    apart i j d before below =
        let in_j : j < length rows = omega (arith, below, length-map rows (path_at registrations))
        in
        let in_i : i < length rows = omega arith in
        false_from_ne_true _ (λ same.
        let one : get_or rows i 0 ≡ get_or rows j 0 =
        same_index _ once _ _ (within i in_i) (within j in_j)
        (sym (row_at i d in_i) ∙ equal_from_eq _ _ same ∙ row_at j d in_j) in
        false≢true (sym (apart_from_distinct nat_eq _ i j 0 are.distinct before in_j)
        ∙ ap (λ r. nat_eq r (get_or rows j 0)) one ∙ nat_eq_equiv.refl (get_or rows j 0)))

-- the sorted paths of rows rise
pub sorted_rising : (registrations : List Registration) → IsOnce registrations → (rows : List ℕ)
    → AreRows registrations rows → (paths sorted : List (List ℕ)) → paths
    ≡ paths_at registrations rows → IsPermutation paths sorted → IsSorted (slice_cmp nat_cmp) sorted
    → IsRising sorted
sorted_rising registrations once rows are paths sorted is moved ordered =
    rising_sorted _ ordered
    (IsDistinct-IsPermutation (pointwise nat_eq) nat_list_eq_equiv.symm _ _ moved
    (subst (IsDistinct (pointwise nat_eq)) (sym is)
    (paths_distinct _ once _ are)))

-- and are the same
pub sorted_same : (paths sorted wanted : List (List ℕ)) → paths ≡ wanted
    → IsPermutation paths sorted → HaveSame sorted wanted
sorted_same paths sorted wanted is moved =
    subst (HaveSame sorted) is
    (λ path. (
      Contains-permutation _ _ _ (IsPermutation-sym paths sorted moved),
      Contains-permutation _ _ _ moved,
    ))

-- one more row's path
pub paths_more : (registrations : List Registration) (rows : List ℕ) (i : ℕ) (path : List ℕ)
    (so_far pushed : List (List ℕ)) → i < length rows → so_far
    ≡ paths_at registrations (take i rows) → slice_get (paths_registered registrations)
    (get_or rows i 0)
    ≡ Some path → pushed ≡ so_far ++ path ∷ [] → pushed ≡ paths_at registrations (take (i + 1) rows)
paths_more registrations rows i path so_far pushed below before at is =
    grind (arith, common_steps, get_or_from_slice_get, take_more, map-append)

-- what `is_sorted` says
pub sorted_from_test : (texts : List (List ℕ))
    → AllAdjacentBelow (λ x y. is_some_and is_le (Some (slice_cmp nat_cmp x y)) ≡ true) texts
    (length texts) → IsSorted (slice_cmp nat_cmp) texts
sorted_from_test texts tested k d low below =
    ap is_lt (nat_list_cmp_total.antisymm (get_or texts (k + 1) d) (get_or texts k d))
    ∙ turned (slice_cmp nat_cmp (get_or texts k d) (get_or texts (k + 1) d)) (tested k d below)
  where
    turned : (o : Ordering) → is_some_and is_le (Some o) ≡ true → is_lt (ordering_reverse o) ≡ false
    turned Less e = refl
    turned Equal e = refl
    turned Greater e = absurd (false≢true e)

-- rows that stand after keys move with them, and their paths do
pub paths_moved : (registrations : List Registration) (rows : List ℕ) (keyed sorted : List (ℕ × ℕ))
    (paths : List (List ℕ)) → map (λ (k : ℕ × ℕ). k.1) keyed ≡ rows → IsPermutation keyed sorted
    → paths ≡ paths_at registrations (map (λ (k : ℕ × ℕ). k.1) sorted)
    → IsPermutation (paths_at registrations rows) paths
paths_moved registrations rows keyed sorted paths is moved paths_are =
    search (rules, IsPermutation-map)

-- and stay below a bound
pub keyed_below : (bound : ℕ) (rows : List ℕ) (keyed sorted : List (ℕ × ℕ))
    → map (λ (k : ℕ × ℕ). k.1) keyed ≡ rows → IsPermutation keyed sorted
    → All (λ r. r < bound) rows → All (λ (k : ℕ × ℕ). k.1 < bound) sorted
keyed_below bound rows keyed sorted is moved below i d within =
    let all : All (λ r. r < bound) (map (λ (k : ℕ × ℕ). k.1) sorted) =
    All-map-IsPermutation (λ (k : ℕ × ℕ). k.1) (λ r. r < bound) _ _ moved
    (subst (All (λ r. r < bound)) (sym is) below) in
    let same : get_or (map (λ (k : ℕ × ℕ). k.1) sorted) i 0 ≡ (get_or sorted i d).1 =
    get_or-map (λ (k : ℕ × ℕ). k.1) _ i d 0 within in
    subst (λ r. r < bound) same
    (all i 0 (omega (arith, within, length-map sorted (λ (k : ℕ × ℕ). k.1))))
