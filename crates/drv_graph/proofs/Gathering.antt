-- How the code gathers inputs and sorts their names.
use Rattle.std.proofs.Common.{◌≡◌, ◌↔◌, ℕ, ◌+◌, ◌-◌, ◌<◌, Bool, true, false, cond, List, [], ◌∷◌, ◌++◌, length, take, map, get_or, set, nat_eq, Result, Ok, Err, inl, inr, refl, sym, ap, subst, ◌∙◌, arith, rules}
use Rattle.std.specs.Prelude.{Contains, OnOk, is_ok, if◌then◌else◌}
use Rattle.std.specs.Global.{Vec}
use Rattle.std.specs.declared.alloc.AllocError.{AllocError}
use Rattle.std.specs.Cmp.Lexicographic.{pointwise, slice_cmp}
use Rattle.std.specs.List.{dedup, dedup_from}
use Rattle.std.specs.List.Sorted.{IsPermutation, IsSorted, IsSortedBy}
use Rattle.std.specs.Ordering.{is_lt, nat_cmp}
use Rattle.std.proofs.lemmas.List.{get_or-map, length-map, map-append, map-id, same_from_push, take-map}
use Rattle.std.proofs.lemmas.List.Sorted.{IsPermutation-map}
use Rattle.std.proofs.lemmas.Simd.{map-map}
use Rattle.nix_names.specs.Rising.{IsRising}
use Rattle.nix_names.proofs.RisingLists.{members_of_dedup, rising_dedup}
use Rattle.nix_names.proofs.Lists.{element}
use Rattle.nix_drv.specs.Derivation.{Input}
use Rattle.nix_drv.specs.Parts.{bytes_of, input_of, path_of}
use Rattle.nix_drv.specs.declared.derivation.Input.{Input as InputStruct}
use Rattle.drv_graph.specs.private.Uniting.{IsAdded, IsGathered}
use Rattle.drv_graph.proofs.Loops.{seen_twice, set_last, split_last}
use Rattle.drv_graph.proofs.Uniting.{gathered_more}

-- elements that are sorted by their keys have sorted keys
pub sorted_map : {A : Type 0} (key_of : A → List ℕ) (xs : List A)
    → IsSortedBy (λ a b. is_lt (slice_cmp nat_cmp (key_of a) (key_of b))) xs
    → IsSorted (slice_cmp nat_cmp) (map key_of xs)
sorted_map key_of xs sorted k d low next =
    let here : k + 1 < length xs = omega (arith, next, length-map xs key_of) in
    let e = element _ _ here in
    let first : get_or (map key_of xs) k d ≡ key_of (get_or xs k e) =
    get_or-map key_of _ k e d (omega arith) in
    let second : get_or (map key_of xs) (k + 1) d ≡ key_of (get_or xs (k + 1) e) =
    get_or-map key_of _ _ e d here in
    rw (first, second) (sorted k e low here)

-- ---- names

cond_map : {A B : Type 0} (f : A → B) (b : Bool) (u v : List A) (u' v' : List B) → map f u ≡ u'
    → map f v ≡ v' → map f (cond b u v) ≡ cond b u' v'
cond_map f true u v u' v' first second = first
cond_map f false u v u' v' first second = second

dedup_from_map : (k : Vec ℕ) (xs : List (Vec ℕ))
    → map bytes_of (dedup_from (λ (x y : Vec ℕ). pointwise nat_eq x.items y.items) k xs)
    ≡ dedup_from (pointwise nat_eq) (bytes_of k) (map bytes_of xs)
dedup_from_map k [] = refl
dedup_from_map k (x ∷ xs) =
    cond_map bytes_of _
    _
    _
    _
    _
    (dedup_from_map k xs) (ap (λ (ys : List (List ℕ)). bytes_of k ∷ ys) (dedup_from_map x xs))

dedup_map : (xs : List (Vec ℕ)) → map bytes_of
    (dedup (λ (x y : Vec ℕ). pointwise nat_eq x.items y.items) xs)
    ≡ dedup (pointwise nat_eq) (map bytes_of xs)
dedup_map [] = refl
dedup_map (x ∷ xs) = dedup_from_map x _

-- what a sort and `dedup` leave of names
pub names_sorted : (names sorted kept : List (Vec ℕ)) → IsPermutation names sorted
    → IsSorted (λ (x y : Vec ℕ). slice_cmp nat_cmp x.items y.items) sorted
    → kept ≡ dedup (λ (x y : Vec ℕ). pointwise nat_eq x.items y.items) sorted
    → IsRising (map bytes_of kept)
    × ((name : List ℕ) → Contains (map bytes_of kept) name ↔ Contains (map bytes_of names) name)
names_sorted names sorted kept moved ordered is =
    let same : map bytes_of kept ≡ dedup (pointwise nat_eq) (map bytes_of sorted) =
    ap (map bytes_of) is ∙ dedup_map sorted in (
      subst IsRising (sym same)
          (rising_dedup _ (sorted_map bytes_of _ ordered)),
      λ name. subst (λ (ns : List (List ℕ)). Contains ns name ↔ Contains (map bytes_of names) name)
          (sym same)
          (members_of_dedup _ _
          (IsPermutation-map bytes_of names sorted moved) _),
    )

-- ---- one input more

pub joins : (items : List InputStruct) (n : ℕ) (last input : InputStruct) (names : Vec (Vec ℕ))
    (answer : Result (Unit {0}) AllocError) → n ≡ length items → 0 < n → last
    ≡ get_or items (n - 1) last
    → last.path.items ≡ input.path.items → names.items
    ≡ (if is_ok answer then last.names.items ++ input.names.items else last.names.items)
    → OnOk answer
    (IsAdded (map input_of items) (input_of input)
    (map input_of (set items (n - 1) (record { path = last.path; names = names }))))
joins items n last input names (Err refused) long some at same all = tt
joins items n last input names (Ok done) long some at same all = inl (record {
  front = map input_of (take (n - 1) items);
  last = input_of last;
  was = ap (map input_of) (split_last _ n _ long some at)
      ∙ map-append input_of (take (n - 1) items) (last ∷ []);
  same = same;
  is =
      ap (map input_of) (set_last _ n _ long some)
      ∙ map-append input_of (take (n - 1) items) (record { path = last.path; names = names } ∷ [])
      ∙ ap (λ (ns : List (List ℕ)). map input_of (take (n - 1) items)
      ++ record { path = last.path.items; names = ns } ∷ [])
      (ap (map bytes_of) all ∙ map-append bytes_of last.names.items input.names.items);
})

pub appends_other : (items after : List InputStruct) (n : ℕ) (last input : InputStruct) → n
    ≡ length items → 0 < n → last ≡ get_or items (n - 1) last
    → (last.path.items ≡ input.path.items → ⊥) → after ≡ items ++ input ∷ []
    → IsAdded (map input_of items) (input_of input) (map input_of after)
appends_other items after n last input long some at differ is = inr (record {
  other = λ front end e same.
      let ends : front ++ end ∷ [] ≡ map input_of (take (n - 1) items) ++ input_of last ∷ [] =
      sym e ∙ ap (map input_of) (split_last _ n _ long some at)
      ∙ map-append input_of (take (n - 1) items) (last ∷ []) in
      let one = (same_from_push _ _ _ _
      ends).1 in
      differ (ap (λ (i : Input). i.path) (sym one) ∙ same);
  is = ap (map input_of) is ∙ map-append input_of items (input ∷ []);
})

-- ---- the loop

pub gather_step : (all yielded : List InputStruct) (gathered after : List Input)
    (input : InputStruct) → IsSorted (slice_cmp nat_cmp) (map path_of all)
    → map (λ (y : InputStruct). y) yielded ≡ take (length yielded) all → length yielded < length all
    → input ≡ get_or all (length yielded) input
    → IsGathered (map input_of yielded) gathered → IsAdded gathered (input_of input) after
    → IsGathered (map input_of (yielded ++ input ∷ [])) after
gather_step all yielded gathered after input sorted so_far below at are added =
    let paths : map (λ (i : Input). i.path) (map input_of all)
    ≡ map path_of all = map-map (λ (i : Input). i.path) input_of all in
    subst (λ (given : List Input). IsGathered given after)
    (sym (map-append input_of yielded (input ∷ [])))
    (gathered_more _ _ _ _ _
    _
    (subst (λ (ps : List (List ℕ)). IsSorted (slice_cmp nat_cmp) ps) (sym paths) sorted)
    (ap (map input_of) (sym (map-id yielded) ∙ so_far)
    ∙ sym (take-map input_of (length yielded) all))
    (seen_twice (λ (i : Input). i.path) input_of _ _ _ below at)
    are added)

pub gather_end : (all yielded : List InputStruct) (gathered : List Input)
    → map (λ (y : InputStruct). y) yielded ≡ all → IsGathered (map input_of yielded) gathered
    → IsGathered (map input_of all) gathered
gather_end all yielded gathered whole are = search (rules, map-id)
