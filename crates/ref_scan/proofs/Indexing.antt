-- The index of hash parts: what its sieve and a search in it tell, and a mark set by it.
use Rattle.std.proofs.Common.{◌≡◌, ◌∙◌, ℕ, zero, suc, ◌<◌, ◌≤◌, Bool, true, false, List, [], ◌∷◌, ◌++◌, ⊎_elim, length, get_or, get_or-set_same, get_or-set_other, map, nat_eq, set, take, refl, sym, ap, subst, arith, Some, rules}
use Rattle.std.specs.Prelude.{All, Contains, IsTrue, Result, Ok, Err, IsOk, OnOk}
use Rattle.std.specs.Cmp.Lexicographic.{pointwise, slice_cmp, texts_ties}
use Rattle.std.specs.Int.{to_be_bytes, w64}
use Rattle.std.specs.List.{dedup}
use Rattle.std.specs.List.Sorted.{IsBinarySearchResult, IsPermutation, IsSearchInRange, IsSorted}
use Rattle.std.specs.Ordering.{is_eq, nat_cmp}
use Rattle.std.specs.Result.{result_ok}
use Rattle.std.proofs.lemmas.Bool.{false≢true, cases_eq, cases_lt}
use Rattle.std.proofs.lemmas.Cmp.{nat_list_cmp_total, tied_itself}
use Rattle.std.proofs.lemmas.List.{length-set, length-take-le}
use Rattle.std.proofs.lemmas.List.Elements.{All-push, Contains-get_or}
use Rattle.std.proofs.lemmas.List.Sorted.{searchable_from_sorted}
use Rattle.std.proofs.lemmas.Map.Keys.{Less-from_sorted}
use Rattle.std.proofs.lemmas.Nat.{be_bytes_8}
use Rattle.nix_names.specs.Rising.{IsRising}
use Rattle.nix_names.specs.StorePaths.{hash_part_of, is_hash_part}
use Rattle.nix_names.proofs.Lists.{Contains-map}
use Rattle.nix_names.proofs.RisingLists.{IsBelow, equal_from_eq, members_of_dedup, not_below_itself, rising_dedup, sorted_from_rising}
use Rattle.ref_scan.specs.private.Parts.{ArePartsOf, IsPartNumber, IsSieve, LetsThrough, key_of_part, part_at, slot_of, tag_of}
use Rattle.ref_scan.specs.private.Marks.{IsPartMet, Marked}

-- what a call promised at Ok, where it was Ok
pub on_ok : {T E : Type 0} (r : Result T E) (P : Type 0) → IsOk r → OnOk r P → P
on_ok (Ok x) P is h = h
on_ok (Err e) P is h = absurd (false≢true is)

-- ---- parts that rise

-- an earlier part is below a later one
below_later : (parts : List (List ℕ)) (i j : ℕ) (d : List ℕ) → IsRising parts → i < j
    → j < length parts → IsBelow (get_or parts i d) (get_or parts j d)
below_later parts i j d rises = Less-from_sorted (slice_cmp nat_cmp) parts i j d
    (sorted_from_rising parts rises)

-- no part stands twice
one_part : (parts : List (List ℕ)) (i j : ℕ) → IsRising parts → i < length parts
    → j < length parts → part_at parts i ≡ part_at parts j → i ≡ j
one_part parts i j rises lt lt' same =
    ⊎_elim
    (λ (e : i ≡ j). e)
    (λ (ne : i ≡ j → ⊥). absurd (⊎_elim
    (λ (before : i < j). not_below_itself (part_at parts j)
    (subst (λ p. IsBelow p (part_at parts j)) same (below_later parts i j [] rises before lt')))
    (λ le. not_below_itself (part_at parts j)
    (subst (IsBelow (part_at parts j)) same (below_later parts j i [] rises (omega (arith, ne, le))
    lt)))
    (cases_lt i j)))
    (cases_eq i j)

-- what a search for a window tells
pub part_told :
    (parts : List (List ℕ)) (window : List ℕ) (found : Result ℕ ℕ) →
    IsRising parts →
    IsSearchInRange found (length parts) →
    IsBinarySearchResult (λ y. slice_cmp nat_cmp y window) parts found →
    IsPartNumber parts window (result_ok found)
part_told parts window (Ok k) rises within here = (
  within,
  equal_from_eq (part_at parts k) window
      (texts_ties (part_at parts k) window ∙ ap is_eq (here [])),
)
part_told parts window (Err i) rises within apart =
    search (rules, searchable_from_sorted, nat_list_cmp_total, below_later, tied_itself, cases_lt)

-- ---- the parts of paths

pub parts_as_paths :
    (paths parts : List (List ℕ)) →
    parts ≡ map hash_part_of paths →
    All (λ part. IsTrue (is_hash_part part)) parts →
    IsRising parts →
    ArePartsOf paths parts true
parts_as_paths paths parts value each rises = record {
  are_parts = record { rising = rises; each = each };
  known = λ path has. subst (λ ps. Contains ps (hash_part_of path)) (sym value)
      (Contains-map hash_part_of paths path has);
  as_paths = λ _. value;
}

pub parts_sorted :
    (paths parts sorted : List (List ℕ)) →
    parts ≡ map hash_part_of paths →
    All (λ part. IsTrue (is_hash_part part)) parts →
    IsPermutation parts sorted →
    IsSorted (slice_cmp nat_cmp) sorted →
    ArePartsOf paths (dedup (pointwise nat_eq) sorted) false
parts_sorted paths parts sorted value each moved ordered =
    let same = members_of_dedup parts sorted moved in
    let kept = dedup (pointwise nat_eq) sorted in
    record {
      are_parts = record {
        rising = rising_dedup sorted ordered;
        each = λ k d lt.
            let has = (same (get_or kept k d)).0 (Contains-get_or kept k d lt) in
            subst (λ p. IsTrue (is_hash_part p)) has.2 (each has.0 (get_or kept k d) has.1);
      };
      known = λ path has. (same (hash_part_of path)).1
          (subst (λ ps. Contains ps (hash_part_of path)) (sym value)
          (Contains-map hash_part_of paths path has));
      as_paths = λ no. absurd (false≢true no);
    }

-- ---- the sieve

-- a sieve of so many slots lets the parts through that begin with these eight characters
abbrev pub Passes : ℕ → List ℕ → List ℕ → Type 0
Passes slots sieve first = LetsThrough (get_or sieve (slot_of slots first) 0) (tag_of first)

-- and those of a key
abbrev pub Sieves : ℕ → List ℕ → ℕ → Type 0
Sieves slots sieve key = Passes slots sieve (to_be_bytes w64 key)

-- the key of a part is one of the keys
key_within : (parts : List (List ℕ)) (keys window : List ℕ) → keys ≡ map key_of_part parts
    → Contains parts window → Contains keys (key_of_part window)
key_within parts keys window is has =
    subst (λ ks. Contains ks (key_of_part window)) (sym is)
    (Contains-map key_of_part parts window has)

-- the first of some bytes are bytes
front_small : (n : ℕ) (bytes : List ℕ) → ((i : ℕ) → get_or bytes i 0 < 256) → (i : ℕ)
    → get_or (take n bytes) i 0 < 256
front_small zero bytes small i = omega arith
front_small (suc n) [] small i = omega arith
front_small (suc n) (b ∷ bytes) small zero = small zero
front_small (suc n) (b ∷ bytes) small (suc i) = front_small n bytes (λ j. small (suc j)) i

pub stopped :
    (parts : List (List ℕ)) (keys sieve window first : List ℕ) →
    keys ≡ map key_of_part parts →
    first ≡ take 8 window →
    8 ≤ length window →
    ((i : ℕ) → get_or window i 0 < 256) →
    IsSieve keys sieve →
    ¬ Passes (length sieve) sieve first →
    Contains parts window → ⊥
stopped parts keys sieve window first is begins long small sieved none has =
    let key = key_of_part window in
    let within = key_within parts keys window is has in
    let chars : to_be_bytes w64 key ≡ take 8 window =
    be_bytes_8 (take 8 window) key (length-take-le 8 window long) (front_small 8 window small) refl
    in
    none (subst (Passes (length sieve) sieve) (chars ∙ sym begins)
    (subst (Sieves (length sieve) sieve) within.2 (sieved.each within.0 key within.1)))

pub sieve_more :
    (keys sieve first : List ℕ) (key slots slot new : ℕ) →
    first ≡ to_be_bytes w64 key →
    slot ≡ slot_of slots first →
    slot < length sieve →
    LetsThrough new (tag_of first) →
    ((other : ℕ) → LetsThrough (get_or sieve slot 0) other → LetsThrough new other) →
    All (Sieves slots sieve) keys →
    All (Sieves slots (set sieve slot new)) (keys ++ key ∷ [])
sieve_more keys sieve first key slots slot new of_key is fits here stays before =
    let set_here = get_or-set_same sieve slot new 0 fits in
    All-push (Sieves slots (set sieve slot new)) keys key
    (λ k d lt.
    let q = to_be_bytes w64 (get_or keys k d) in
    ⊎_elim
    (λ (e : slot_of slots q ≡ slot).
    subst (λ n. LetsThrough (get_or (set sieve slot new) n 0) (tag_of q)) (sym e)
    (subst (λ v. LetsThrough v (tag_of q)) (sym set_here)
    (stays (tag_of q)
    (subst (λ n. LetsThrough (get_or sieve n 0) (tag_of q)) e (before k d lt)))))
    (λ (ne : slot_of slots q ≡ slot → ⊥).
    subst (λ v. LetsThrough v (tag_of q))
    (sym (get_or-set_other sieve slot (slot_of slots q) new 0 ne)) (before k d lt))
    (cases_eq (slot_of slots q) slot))
    (subst (Passes slots (set sieve slot new)) of_key
    (subst (λ n. LetsThrough (get_or (set sieve slot new) n 0) (tag_of first)) is
    (subst (λ v. LetsThrough v (tag_of first)) (sym set_here) here)))

-- ---- a mark

-- a mark stays where one more is set
mark_stays : (met : List Bool) (i k : ℕ) → i < length met → IsPartMet met k
    → IsPartMet (set met i true) k
mark_stays met i k lt h = search (rules, set, get_or-set_same, get_or-set_other, cases_eq)

pub marked_one :
    (parts : List (List ℕ)) (met : List Bool) (window : List ℕ) (number : ℕ) →
    IsRising parts →
    length met ≡ length parts →
    IsPartNumber parts window (Some number) →
    Marked parts met (set met number true) window
marked_one parts met window number rises count at =
    search (
      rules,
      length-set,
      get_or-set_other,
      cases_eq,
      mark_stays,
      set,
      one_part,
      get_or-set_same,
    )
