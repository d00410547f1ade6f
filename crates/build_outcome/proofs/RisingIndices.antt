-- Where paths stand among paths in rising order.
use Rattle.std.proofs.Common.{◌≡◌, ◌∙◌, ◌↔◌, ⊎_elim, ℕ, ◌+◌, ◌<◌, ◌≤◌, List, [], ◌∷◌, length, get_or, is_some, MatchOption, Option, Some, None, Err, refl, ap, subst, arith}
use Rattle.std.specs.Prelude.{All, Contains, IsTrue}
use Rattle.std.specs.Cmp.Lexicographic.{slice_cmp, texts_ties}
use Rattle.std.specs.List.{HoldsAt, slice_get}
use Rattle.std.specs.List.Sorted.{IsBinarySearchResult}
use Rattle.std.specs.Ordering.{is_eq, is_lt, nat_cmp, ordering_reverse}
use Rattle.std.specs.declared.cmp.Ordering.TheVariants.{Equal, Greater}
use Rattle.std.proofs.Math.Nat.{eq-or-lt_of_le}
use Rattle.std.proofs.lemmas.Bool.{false≢true}
use Rattle.std.proofs.lemmas.Cmp.{nat_list_cmp_total}
use Rattle.std.proofs.lemmas.List.Elements.{All-contains}
use Rattle.std.proofs.lemmas.List.Sorted.{searchable_from_sorted}
use Rattle.std.proofs.lemmas.Map.Keys.{Less-from_sorted}
use Rattle.std.proofs.lemmas.Option.{get_or_from_slice_get, slice_get-get_or, slice_get_within}
use Rattle.nix_names.specs.Rising.{IsRising}
use Rattle.nix_names.proofs.FirstElements.{first_number}
use Rattle.nix_names.proofs.Lists.{Contains-from_get, Contains-nothing, either_side, get_from_contains, same_element}
use Rattle.nix_names.proofs.RisingLists.{IsBelow, below_trans, equal_from_eq, not_below_itself, sorted_from_rising}
use Rattle.build_outcome.specs.Checks.{IsFirstPath}

-- ---- a binary search

pub index_found : (paths : List (List ℕ)) (path : List ℕ) (index : ℕ) → index < length paths
    → HoldsAt (λ y. slice_cmp nat_cmp y path ≡ Equal) paths index
    → slice_get paths index ≡ Some path
index_found paths path index within here =
    slice_get-get_or paths index path within
    ∙ ap Some (equal_from_eq _ _
    (texts_ties (get_or paths index path) path ∙ ap is_eq (here path)))

pub index_missing : (paths : List (List ℕ)) (path : List ℕ) (index : ℕ) → IsRising paths
    → index ≤ length paths → IsBinarySearchResult (λ y. slice_cmp nat_cmp y path) paths (Err index)
    → Contains paths path → ⊥
index_missing paths path index rises within told (k, low, at) =
    let sides = told
    (searchable_from_sorted nat_list_cmp_total (λ (p : List ℕ). p) paths path
    (λ j d before lt. ap is_lt
    (nat_list_cmp_total.antisymm (get_or paths (j + 1) d) (get_or paths j d)
    ∙ ap ordering_reverse
    (Less-from_sorted (slice_cmp nat_cmp) _ j _ d (sorted_from_rising _ rises)
    (omega arith) lt)))) in
    let above : index ≤ k → ⊥ = λ later.
    let greater : slice_cmp nat_cmp (get_or paths k path) path
    ≡ Greater = sides.1 k path later low in
    not_below_itself path
    (nat_list_cmp_total.antisymm path path
    ∙ ap ordering_reverse
    (subst (λ p. slice_cmp nat_cmp p path ≡ Greater) at greater)) in
    ⊎_elim
    (λ e. above (omega arith))
    (λ apart. ⊎_elim
    (λ before. not_below_itself path (subst (λ p. IsBelow p path) at
    (sides.0 k path (omega arith) before)))
    (λ later. above (omega arith))
    apart)
    (either_side k index)

-- ---- the first of some paths

-- of two indices of a rising list, the earlier has the lesser path
below_later : (paths : List (List ℕ)) (i j : ℕ) (x y : List ℕ) → IsRising paths → i < j
    → slice_get paths i ≡ Some x → slice_get paths j ≡ Some y → IsBelow x y
below_later paths i j x y rises before at at' =
    let less : IsBelow (get_or paths i []) (get_or paths j []) =
    Less-from_sorted (slice_cmp nat_cmp) paths i j [] (sorted_from_rising paths rises) before
    (slice_get_within paths j y at') in
    subst (λ p. IsBelow p y) (get_or_from_slice_get paths i x [] at)
    (subst (IsBelow (get_or paths i [])) (get_or_from_slice_get paths j y [] at') less)

-- the index of the least path of some kind is the first
least_first : (permitted : List (List ℕ)) (Holds : List ℕ → Type 0) (index : ℕ) (path : List ℕ)
    → IsRising permitted → slice_get permitted index ≡ Some path → Holds path
    → ((other : List ℕ) → Holds other → IsBelow other path → ⊥)
    → IsFirstPath permitted Holds index
least_first permitted Holds index path rises at holds none =
    first_number
    (λ n. (p : List ℕ) × (slice_get permitted n ≡ Some p) × Holds p)
    (length permitted) index (slice_get_within permitted index path at) (path, at, holds)
    (λ m before h. none h.0 h.2
    (below_later permitted m index h.0 path rises before h.1 at))

-- the first path of a rising list that is of some kind is the least
pub first_used : (permitted used : List (List ℕ)) (Bars : List ℕ → Type 0) (i index : ℕ)
    (path : List ℕ) → IsRising permitted → IsRising used → slice_get used i ≡ Some path
    → slice_get permitted index ≡ Some path → Bars path
    → ((k : ℕ) (other : List ℕ) → k < i → slice_get used k ≡ Some other → Bars other → ⊥)
    → IsFirstPath permitted (λ p. Contains used p × Bars p) index
first_used permitted used Bars i index path rises rises' here at bars earlier =
    least_first permitted (λ p. Contains used p × Bars p) index path rises at
    (Contains-from_get used i path here, bars)
    (λ other holds below.
    let found = get_from_contains used other holds.0 in
    ⊎_elim
    (λ e. not_below_itself path (subst (λ p. IsBelow p path)
    (same_element used i other path
    (subst (λ k. slice_get used k ≡ Some other) e found.1) here) below))
    (λ apart. ⊎_elim
    (λ before. earlier found.0 other before found.1 holds.1)
    (λ later. not_below_itself path (below_trans path other path
    (below_later used i found.0 path other rises' later here found.1) below))
    apart)
    (either_side found.0 i))

-- the first path of a rising list is the least
pub first_of_all : (permitted paths : List (List ℕ)) (index : ℕ) (path : List ℕ)
    → IsRising permitted → IsRising paths → slice_get paths 0 ≡ Some path
    → slice_get permitted index ≡ Some path
    → IsFirstPath permitted (λ p. Contains paths p) index
first_of_all permitted paths index path rises rises' here at =
    least_first permitted (λ p. Contains paths p) index path rises at
    (Contains-from_get paths 0 path here)
    (λ other has below.
    let found = get_from_contains paths other has in
    ⊎_elim
    (λ e. not_below_itself path (subst (λ p. IsBelow p path)
    (same_element paths 0 other path
    (subst (λ k. slice_get paths k ≡ Some other) e found.1) here) below))
    (λ apart. ⊎_elim
    (λ before. absurd (omega arith))
    (λ later. not_below_itself path (below_trans path other path
    (below_later paths 0 found.0 path other rises' later here found.1) below))
    apart)
    (either_side found.0 0))

-- the first index of some kind is the first of each kind that is the same
pub first_alike : (permitted : List (List ℕ)) (P Q : List ℕ → Type 0) (index : ℕ)
    → ((path : List ℕ) → P path ↔ Q path) → IsFirstPath permitted P index
    → IsFirstPath permitted Q index
first_alike permitted P Q index same first = record {
  before = first.before;
  after = first.after;
  parts = first.parts;
  others = λ k d low h. first.others k d low (h.0, h.1, (same h.0).1 h.2);
  is = (first.is.0, first.is.1, (same first.is.0).0 first.is.2);
}

-- ---- what a search answers

-- the index of a path, or that it is not there
abbrev pub TellsIndex : (paths : List (List ℕ)) → (path : List ℕ) → Option ℕ → Type 0
TellsIndex paths path found = MatchOption found (Contains paths path → ⊥)
    (λ index. slice_get paths index ≡ Some path)

pub among_told : (paths : List (List ℕ)) (path : List ℕ) (found : Option ℕ)
    → TellsIndex paths path found → IsTrue (is_some found) ↔ Contains paths path
among_told paths path None told = (λ is. absurd (false≢true is), λ has. absurd (told has))
among_told paths path (Some index) told =
    (λ _. Contains-from_get paths index path told, λ _. refl)

pub nothing_there : (paths : List (List ℕ)) → slice_get paths 0 ≡ None → (path : List ℕ)
    → Contains paths path → ⊥
nothing_there [] none path has = Contains-nothing path has
nothing_there (x ∷ xs) none path has = absurd cc

pub first_told : (permitted paths : List (List ℕ)) (first : List ℕ) (found : Option ℕ)
    → IsRising permitted → IsRising paths × All (Contains permitted) paths
    → slice_get paths 0 ≡ Some first → TellsIndex permitted first found
    → MatchOption found ((path : List ℕ) → Contains paths path → ⊥)
    (λ index. IsFirstPath permitted (λ path. Contains paths path) index)
first_told permitted paths first None rises rises' at told =
    absurd (told (All-contains (Contains permitted) paths first rises'.1
    (Contains-from_get paths 0 first at)))
first_told permitted paths first (Some index) rises rises' at told =
    first_of_all permitted paths index first rises rises'.0 at told

pub barred_told : (permitted used : List (List ℕ)) (Bars : List ℕ → Type 0) (i : ℕ)
    (path : List ℕ) (found : Option ℕ) → IsRising permitted
    → IsRising used × All (Contains permitted) used → slice_get used i ≡ Some path → Bars path
    → ((k : ℕ) (other : List ℕ) → k < i → slice_get used k ≡ Some other → Bars other → ⊥)
    → TellsIndex permitted path found
    → MatchOption found ((p : List ℕ) → Contains used p → Bars p → ⊥)
    (λ index. IsFirstPath permitted (λ p. Contains used p × Bars p) index)
barred_told permitted used Bars i path None rises rises' at bars earlier told =
    absurd (told (All-contains (Contains permitted) used path rises'.1
    (Contains-from_get used i path at)))
barred_told permitted used Bars i path (Some index) rises rises' at bars earlier told =
    first_used permitted used Bars i index path rises rises'.0 at told bars earlier

pub none_more : (used : List (List ℕ)) (Bars : List ℕ → Type 0) (i : ℕ) (path : List ℕ)
    → ((k : ℕ) (other : List ℕ) → k < i → slice_get used k ≡ Some other → Bars other → ⊥)
    → slice_get used i ≡ Some path → (Bars path → ⊥) → (k : ℕ) (other : List ℕ) → k < i + 1
    → slice_get used k ≡ Some other → Bars other → ⊥
none_more used Bars i path earlier at free k other below here bars = ⊎_elim
    (λ e. free (subst Bars (same_element used i other path
    (subst (λ n. slice_get used n ≡ Some other) e here) at) bars))
    (λ less. earlier k other less here bars)
    (eq-or-lt_of_le {n = k} {m = i} (omega (arith, below)))

pub none_at_all : (used : List (List ℕ)) (Bars : List ℕ → Type 0) (i : ℕ)
    → ((k : ℕ) (other : List ℕ) → k < i → slice_get used k ≡ Some other → Bars other → ⊥)
    → length used ≤ i → (path : List ℕ) → Contains used path → Bars path → ⊥
none_at_all used Bars i earlier all path has bars =
    let found = get_from_contains used path has in
    earlier found.0 path (omega (arith, slice_get_within used found.0 path found.1)) found.1 bars
