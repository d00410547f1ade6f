-- Registrations that are sorted by path.
use Rattle.std.proofs.Common.{◌≡◌, ℕ, ◌+◌, ◌-◌, ◌<◌, true, List, [], length, get_or, nat_eq, ap, arith}
use Rattle.std.specs.Prelude.{IsPermutation}
use Rattle.std.specs.Cmp.Lexicographic.{pointwise, slice_cmp, nat_list_eq_equiv}
use Rattle.std.specs.List.Sorted.{IsSorted, IsSortedBy}
use Rattle.std.specs.Ordering.{is_lt, nat_cmp}
use Rattle.std.specs.declared.cmp.Ordering.TheVariants.{Less}
use Rattle.std.proofs.lemmas.Cmp.{nat_list_cmp_total}
use Rattle.std.proofs.lemmas.List.{get_or_default}
use Rattle.std.proofs.lemmas.List.Sorted.{IsPermutation-map}
use Rattle.std.proofs.lemmas.Map.Keys.{IsDistinct-IsPermutation, Less-from_sorted, sorted_from_all_adjacent}
use Rattle.nix_names.specs.Rising.{IsRising}
use Rattle.nix_names.proofs.RisingLists.{rising_from_sorted, rising_sorted, sorted_from_rising}
use Rattle.valid_table.specs.Entries.{paths_registered}
use Rattle.valid_table.specs.Valid.{IsOnce}
use Rattle.valid_table.specs.declared.entry.Registration.{Registration}
use Rattle.valid_table.proofs.RowNumbers.{path_count, path_read}
use Rattle.nix_names.proofs.Lists.{element_at}

-- the first so many paths rise
abbrev pub RiseBelow : List Registration → ℕ → Type 0
RiseBelow rs n = (k : ℕ) (d : Registration) → k + 1 < n
    → slice_cmp nat_cmp (get_or rs k d).path (get_or rs (k + 1) d).path ≡ Less

-- neighbours that rise make a rising list
pub rising_from_neighbours : (rs : List Registration) → RiseBelow rs (length rs)
    → IsRising (paths_registered rs)
rising_from_neighbours rs rise =
    rising_from_sorted _
    (sorted_from_all_adjacent nat_list_cmp_total _ []
    (λ k below.
    let lt : k + 1 < length rs = omega (arith, path_count rs) in
    let (r, is) = element_at rs k (omega arith) in
    rw (path_read rs k r [] (omega arith), path_read rs (k + 1) r [] lt) (rise k r lt)))

-- neighbours of a rising list rise
pub neighbours_rise : (rs : List Registration) → IsRising (paths_registered rs)
    → RiseBelow rs (length rs)
neighbours_rise rs rises k d lt =
    rw (← path_read rs k d [] (omega arith), ← path_read rs (k + 1) d [] lt)
    (Less-from_sorted (slice_cmp nat_cmp) _ k (k + 1) []
    (sorted_from_rising (paths_registered rs) rises) (omega arith) (omega (arith, path_count rs)))

-- neighbours of a rising list compare as less
pub rising_at :
    (rs : List Registration) (i : ℕ) (d e : Registration) →
    IsRising (paths_registered rs) →
    0 < i →
    i < length rs →
    is_lt (slice_cmp nat_cmp (get_or rs (i - 1) d).path (get_or rs i e).path) ≡ true
rising_at rs i d e rises some lt =
    let after : i - 1 + 1 ≡ i = omega arith in
    rw (get_or_default rs i e d lt)
    (ap is_lt (rw after at (neighbours_rise _ rises (i - 1) d (omega arith))))

-- the paths of sorted registrations are sorted
paths_sorted : (rs : List Registration) → IsSortedBy
    (λ (a b : Registration). is_lt (slice_cmp nat_cmp a.path b.path)) rs
    → IsSorted (slice_cmp nat_cmp) (paths_registered rs)
paths_sorted rs sorted k d from below =
    let lt : k + 1 < length rs = omega (arith, path_count rs) in
    let (r, is) = element_at rs k (omega arith) in
    rw (path_read rs k r d (omega arith), path_read rs (k + 1) r d lt) (sorted k r from lt)

-- sorted registrations of which no path comes twice rise
pub sorted_rises :
    (some sorted : List Registration) →
    IsPermutation some sorted →
    IsSortedBy (λ (a b : Registration). is_lt (slice_cmp nat_cmp a.path b.path)) sorted →
    IsOnce some →
    IsRising (paths_registered sorted)
sorted_rises some sorted moved ordered once =
    rising_sorted _ (paths_sorted _ ordered)
    (IsDistinct-IsPermutation (pointwise nat_eq) nat_list_eq_equiv.symm _
    _ (IsPermutation-map (λ (r : Registration). r.path) some sorted moved)
    once)
