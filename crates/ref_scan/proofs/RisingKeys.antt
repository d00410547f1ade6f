-- Keys of paths that rise strictly: their hash parts do, and a search for a key tells a part.
use Rattle.std.proofs.Common.{◌≡◌, ◌∙◌, ℕ, zero, suc, ◌+◌, ◌<◌, ◌≤◌, Bool, true, List, [], ◌∷◌, length, get_or, inl, inr, is_some, map, refl, sym, ap, subst, arith, None, Some, rules}
use Rattle.std.specs.Prelude.{All, Contains, IsTrue, Result, Ok, Err}
use Rattle.std.specs.List.{AllByRecursion}
use Rattle.std.specs.List.Sorted.{IsBinarySearchResult}
use Rattle.std.specs.Ordering.{nat_cmp}
use Rattle.std.specs.Option.{unwrap_or}
use Rattle.std.specs.Result.{result_ok}
use Rattle.std.proofs.lemmas.Bool.{cases_lt, false≢true}
use Rattle.std.proofs.lemmas.List.{get_or-map, get_or_default, length-map}
use Rattle.std.proofs.lemmas.List.Elements.{recursion_from_All}
use Rattle.std.proofs.lemmas.List.Sorted.{searched}
use Rattle.nix_names.specs.Keys.{key_of}
use Rattle.nix_names.specs.Rising.{IsRising}
use Rattle.nix_names.specs.StorePaths.{IsStorePath, hash_part_of, is_hash_part}
use Rattle.nix_names.proofs.Keys.{lesser_hash_part}
use Rattle.nix_names.proofs.PathTexts.{hash_part_of_is}
use Rattle.ref_scan.specs.private.Parts.{ArePartsOf, Indexed, IsIndex, NumbersRise, key_of_part, part_at, parts_told}
use Rattle.ref_scan.proofs.Indexing.{parts_as_paths}

-- ---- numbers that rise

-- an earlier number is below a later one
number_below : (ns : List ℕ) (i j : ℕ) → NumbersRise ns → i < j → j < length ns
    → get_or ns i 0 < get_or ns j 0
number_below ns i zero rises before within = absurd (omega (arith, before))
number_below ns i (suc j) rises before within =
    let after : j + 1 ≡ suc j = omega arith in
    let next : get_or ns j 0 < get_or ns (suc j) 0 =
    subst (λ k. get_or ns j 0 < get_or ns k 0) after
    (rises j (omega (arith, within))) in
    elim (cases_lt i j) [
      | inl far ↦ omega (arith, next, number_below ns i j rises far (omega (arith, within)))
      | inr near ↦
          let same : i ≡ j = omega (arith, near, before) in
          omega (arith, next, ap (λ k. get_or ns k 0) same)
    ]

-- no number is above a later one
pub not_above : (ns : List ℕ) → NumbersRise ns → (i j : ℕ) → i ≤ j → j < length ns
    → get_or ns i 0 ≤ get_or ns j 0
not_above ns rises i j le within = search (rules, cases_lt, number_below)

-- no number stands twice
one_number : (ns : List ℕ) (i j : ℕ) → NumbersRise ns → i < length ns → j < length ns
    → get_or ns i 0 ≡ get_or ns j 0 → i ≡ j
one_number ns i j rises lt lt' same = search (rules, cases_lt, number_below)

-- ---- the hash parts of paths

rising_by_keys : (paths : List (List ℕ)) → AllByRecursion IsStorePath paths
    → NumbersRise (map key_of paths) → IsRising (map hash_part_of paths)
rising_by_keys [] are rises = tt
rising_by_keys (p ∷ []) are rises = tt
rising_by_keys (p ∷ q ∷ paths) are rises = (
  lesser_hash_part p q are.0 are.1.0 (rises 0 (omega arith)),
  rising_by_keys (q ∷ paths) are.1 (λ k lt.
      let after : suc k + 1 ≡ suc (k + 1) = omega arith in
      subst (λ n. get_or (map key_of (q ∷ paths)) k 0 < get_or (map key_of (p ∷ q ∷ paths)) n 0)
      after
      (rises (suc k) (omega (arith, lt)))),
)

pub parts_by_key : (paths : List (List ℕ)) (keys : List ℕ) → All IsStorePath paths
    → keys ≡ map key_of paths → NumbersRise keys → ArePartsOf paths (map hash_part_of paths) true
parts_by_key paths keys are is rises =
    parts_as_paths paths (map hash_part_of paths) refl each
    (rising_by_keys paths (recursion_from_All IsStorePath paths are) (subst NumbersRise is rises))
  where
    each : All (λ part. IsTrue (is_hash_part part)) (map hash_part_of paths)
    each k d lt =
        let within = length-map paths hash_part_of in
        let inside : k < length paths = omega (arith, lt, within) in
        subst (λ part. IsTrue (is_hash_part part))
        (sym (get_or-map hash_part_of paths k [] d inside))
        (hash_part_of_is (get_or paths k []) (are k [] inside))

pub keys_of_parts : (paths : List (List ℕ)) → map key_of paths ≡ map key_of_part
    (map hash_part_of paths)
keys_of_parts [] = refl
keys_of_parts (p ∷ paths) = ap (λ ks. key_of p ∷ ks) (keys_of_parts paths)

-- ---- a search for a key

-- the key of a part that stands among the parts
key_at : (parts : List (List ℕ)) (keys window : List ℕ) → keys ≡ map key_of_part parts
    → Contains parts window
    → (k : ℕ) × (k < length keys) × (part_at parts k ≡ window)
    × (get_or keys k 0 ≡ key_of_part window)
key_at parts keys window is has = search (rules, get_or_default, length-map, get_or-map)

pub key_missing :
    (parts : List (List ℕ)) (keys window : List ℕ) (key number : ℕ) →
    keys ≡ map key_of_part parts →
    key ≡ key_of_part window →
    NumbersRise keys →
    IsBinarySearchResult (λ y. nat_cmp y key) keys (Err number) →
    Contains parts window → ⊥
key_missing parts keys window key number is of_window rises apart has =
    let at = key_at parts keys window is has in
    let sides = searched keys key (Err number) apart (not_above keys rises) in
    elim (cases_lt at.0 number) [
      | inl before ↦ absurd (omega (arith, at.3, of_window, sides.1 at.0 before))
      | inr later ↦ absurd (omega (arith, at.3, of_window, sides.2 at.0 later at.1))
    ]

other_part :
    (parts : List (List ℕ)) (keys window : List ℕ) (key number : ℕ) →
    keys ≡ map key_of_part parts →
    key ≡ key_of_part window →
    NumbersRise keys →
    number < length keys →
    get_or keys number 0 ≡ key →
    (part_at parts number ≡ window → ⊥) →
    Contains parts window → ⊥
other_part parts keys window key number is of_window rises within found other has =
    let at = key_at parts keys window is has in
    let same : at.0 ≡ number = one_number keys at.0 number rises at.1 within
    (at.3 ∙ sym of_window ∙ sym found) in
    other (ap (part_at parts) (sym same) ∙ at.2)

-- what a search for a key tells, where it tells no number and where it tells one
pub none_found :
    (parts : List (List ℕ)) (keys window : List ℕ) (key : ℕ) (found : Result ℕ ℕ) →
    keys ≡ map key_of_part parts →
    key ≡ key_of_part window →
    NumbersRise keys →
    IsBinarySearchResult (λ y. nat_cmp y key) keys found →
    None ≡ result_ok found →
    Contains parts window → ⊥
none_found parts keys window key (Ok k) is of_window rises here none =
    absurd (false≢true (ap is_some none))
none_found parts keys window key (Err number) is of_window rises apart none =
    search (rules, key_missing)

one_found :
    (keys : List ℕ) (key number : ℕ) (found : Result ℕ ℕ) →
    NumbersRise keys →
    IsBinarySearchResult (λ y. nat_cmp y key) keys found →
    Some number ≡ result_ok found →
    (number < length keys) × (get_or keys number 0 ≡ key)
one_found keys key number (Ok k) rises here some =
    subst (λ n. (n < length keys) × (get_or keys n 0 ≡ key)) (sym (ap (λ o. unwrap_or o 0) some))
    (searched keys key (Ok k) here (not_above keys rises))
one_found keys key number (Err k) rises here some = absurd (false≢true (sym (ap is_some some)))

-- the part with the number of a key is that of its path
part_at_key :
    (paths parts : List (List ℕ)) (keys path : List ℕ) (number : ℕ) →
    map hash_part_of paths ≡ parts →
    keys ≡ map key_of_part parts →
    number < length keys →
    path ≡ get_or paths number path →
    (number < length parts) × (part_at parts number ≡ hash_part_of path)
part_at_key paths parts keys path number are is within here = search (rules, length-map, get_or-map)

-- ---- a search in an index by keys

-- what a contract sees of an index
abbrev pub seen : Bool → List (List ℕ) → List (List ℕ) → Indexed
seen in_order paths apart = record {
  permitted = paths;
  parts = parts_told in_order paths apart;
  in_order = in_order;
}

-- a search for a window's key that finds a number tells the part there, and that no part is the
-- window where that one is not
pub part_found :
    {in_order : Bool} {paths apart : List (List ℕ)} {keys sieve slice : List ℕ} {now : Indexed}
    (window path : List ℕ) (key number : ℕ) (found : Result ℕ ℕ) →
    IsIndex in_order paths keys apart sieve →
    seen in_order paths apart ≡ now →
    IsTrue now.in_order →
    key ≡ key_of_part window →
    slice ≡ keys →
    IsBinarySearchResult (λ y. nat_cmp y key) slice found →
    Some number ≡ result_ok found →
    path ≡ get_or paths number path →
    (number < length now.parts) × (part_at now.parts number ≡ hash_part_of path)
    × ((part_at now.parts number ≡ window → ⊥) → Contains now.parts window → ⊥)
part_found {in_order} {paths} {apart} {keys} {now} window path key number found index view by_keys
    of_window sliced searched_for some at =
    let ordered : in_order ≡ true = ap (λ v. v.in_order) view ∙ by_keys in
    let told : parts_told in_order paths apart ≡ now.parts = ap (λ v. v.parts) view in
    let are : map hash_part_of paths ≡ now.parts =
    ap (λ b. parts_told b paths apart) (sym ordered) ∙ told in
    let of_parts : keys ≡ map key_of_part now.parts = index.of_parts ∙ ap (map key_of_part) told in
    let rises = index.rising ordered in
    let here = subst (λ ks. IsBinarySearchResult (λ y. nat_cmp y key) ks found) sliced searched_for
    in
    let one = one_found keys key number found rises here some in
    let there = part_at_key paths now.parts keys path number are of_parts one.0 at in (
      there.0,
      there.1,
      other_part now.parts keys window key number of_parts of_window rises one.0 one.1,
    )
