-- Rows that were found, in another order: those of the first rows of a table, and those after
-- them.
use Rattle.std.proofs.Common.{◌≡◌, ◌⊎◌, Contains, ◌∙◌, ◌≤◌, ◌<◌, ◌+◌, ℕ, List, [], ◌∷◌, ◌++◌, All, Bool, true, false, cond, not, ◌&&◌, ◌||◌, length, nat_eq, nat_lt, inl, inr, refl, sym, ap, subst, arith, rules}
use Rattle.std.specs.List.{AllByRecursion, IsDistinct, filter, list_any}
use Rattle.std.specs.List.Sorted.{IsPermutation}
use Rattle.std.proofs.lemmas.Bool.{cases_lt, eq-eqb, eqb-true, false≢true, le-ltb, lt-ltb, ltb-true}
use Rattle.std.proofs.lemmas.Cmp.{nat_eq_equiv}
use Rattle.std.proofs.lemmas.List.{append-nil, append_assoc, length-append, length-map, map-append}
use Rattle.std.proofs.lemmas.List.Elements.{All-append, All-filter, filter-append}
use Rattle.nix_names.proofs.Lists.{All-from_contains, Contains-from_map, Contains-map}
use Rattle.std.proofs.lemmas.List.Folds.{list_any-append}
use Rattle.std.proofs.lemmas.List.Sorted.{IsPermutation-map, length_permutation, list_any-IsPermutation}
use Rattle.std.proofs.lemmas.Map.Keys.{IsDistinct-IsPermutation, IsDistinct-push}
use Rattle.std.proofs.lemmas.Map.Views.{Contains-from_any, any-filter_same, list_any-from_Contains}
use Rattle.valid_table.specs.private.Closing.{AreRows, HaveSame, path_at, paths_at}
use Rattle.valid_table.specs.PathInfos.{PathInfo}
use Rattle.valid_table.specs.Tables.{registrations_of}
use Rattle.valid_table.proofs.RowNumbers.{row_count}
use Rattle.valid_table.specs.private.FirstRows.{AreFirst, rows_of_keyed}
use Rattle.valid_table.specs.declared.entry.Registration.{Registration}

-- ---- lists of numbers none of which stands twice

or_none : (a b : Bool) → (a || b) ≡ false → (a ≡ false) × (b ≡ false)
or_none false false none = (refl, refl)
or_none false true none = absurd (false≢true (sym none))
or_none true b none = absurd (false≢true (sym none))

and_none : (b : Bool) → (b && false) ≡ false
and_none true = refl
and_none false = refl

-- what a list has none of
apart_from_none : (x : ℕ) (xs : List ℕ) → list_any (nat_eq x) xs ≡ false
    → AllByRecursion (λ y. nat_eq x y ≡ false) xs
apart_from_none x [] none = tt
apart_from_none x (y ∷ ys) none = let is = or_none _ _ none in (is.0, apart_from_none x ys is.1)

none_from_apart : (x : ℕ) (xs : List ℕ) → AllByRecursion (λ y. nat_eq x y ≡ false) xs
    → list_any (nat_eq x) xs ≡ false
none_from_apart x [] apart = refl
none_from_apart x (y ∷ ys) apart = rw apart.0 (none_from_apart x ys apart.1)

-- a list's numbers of which a test holds
pub kept_same : (p : ℕ → Bool) (x : ℕ) (xs : List ℕ) → list_any (nat_eq x) (filter p xs)
    ≡ (p x && list_any (nat_eq x) xs)
kept_same p x xs = search (rules, any-filter_same, nat_eq, eqb-true)

kept_or_not : (b : Bool) (x : ℕ) (xs : List ℕ) → AllByRecursion (λ y. nat_eq x y ≡ false) xs
    → IsDistinct nat_eq xs → IsDistinct nat_eq (cond b (x ∷ xs) xs)
unfolding IsDistinct
kept_or_not true x xs apart distinct = (apart, distinct)
kept_or_not false x xs apart distinct = distinct

distinct_kept : (p : ℕ → Bool) (xs : List ℕ) → IsDistinct nat_eq xs
    → IsDistinct nat_eq (filter p xs)
unfolding IsDistinct
distinct_kept p [] distinct = tt
distinct_kept p (x ∷ xs) distinct =
    search (
      rules,
      nat_eq,
      kept_same,
      none_from_apart,
      and_none,
      kept_or_not,
      apart_from_none,
      distinct_kept p xs distinct.1,
    )

distinct_both : (xs ys : List ℕ) → IsDistinct nat_eq xs → IsDistinct nat_eq ys
    → ((x : ℕ) → list_any (nat_eq x) xs ≡ true → list_any (nat_eq x) ys ≡ false)
    → IsDistinct nat_eq (xs ++ ys)
unfolding IsDistinct
distinct_both [] ys first second apart = second
distinct_both (x ∷ xs) ys first second apart = (
  apart_from_none x _
      (list_any-append (nat_eq x) _ ys
      ∙ rw (none_from_apart x xs first.0) (apart x (here x xs))),
  distinct_both xs ys first.1 second (λ y has. apart y (later x xs y has)),
)
  where
    here : (x : ℕ) (xs : List ℕ) → list_any (nat_eq x) (x ∷ xs) ≡ true
    here x xs = rw (nat_eq_equiv.refl x) refl

    later : (x : ℕ) (xs : List ℕ) (y : ℕ) → list_any (nat_eq y) xs ≡ true
        → list_any (nat_eq y) (x ∷ xs) ≡ true
    later x xs y has = split (nat_eq y x)
      where
        split : (b : Bool) → (b || list_any (nat_eq y) xs) ≡ true
        split true = refl
        split false = has

-- ---- the first rows of a table

pub none_first : (count : ℕ) → AreFirst count []
unfolding IsDistinct
none_first count = search (rules, le-ltb)

-- they are rows of the table
pub first_below : (count : ℕ) (rows : List ℕ) → AreFirst count rows → All (λ r. r < count) rows
first_below count rows are =
    All-from_contains (λ r. r < count) _
    (λ r has. within r (sym (are.there r) ∙ list_any-from_Contains nat_eq_equiv r _ has))
  where
    within : (r : ℕ) → nat_lt r (length rows) ≡ true → r < count
    within r is = search (rules, ltb-true)

-- they stay so when more is registered
pub first_stay : (count more : ℕ) (rows : List ℕ) → AreFirst count rows → count ≤ more
    → AreFirst more rows
first_stay count more rows are fewer = search rules

-- and when they are put in another order
pub first_moved : (count : ℕ) (keyed moved : List (ℕ × ℕ)) → IsPermutation keyed moved
    → AreFirst count (rows_of_keyed keyed) → AreFirst count (rows_of_keyed moved)
first_moved count keyed moved is are =
    let rows = IsPermutation-map (λ (k : ℕ × ℕ). k.1) keyed moved is in
    let same = length_permutation (rows_of_keyed keyed) (rows_of_keyed moved) rows in
    record {
      few = omega (arith, are.few, same);
      distinct = IsDistinct-IsPermutation nat_eq nat_eq_equiv.symm _
          _ rows are.distinct;
      there = λ row. sym (list_any-IsPermutation (nat_eq row) _
          _ rows)
          ∙ are.there row
          ∙ ap (nat_lt row) (sym same);
    }

-- one more
pub first_more : (count : ℕ) (rows : List ℕ) → AreFirst count rows → length rows < count
    → AreFirst count (rows ++ length rows ∷ [])
first_more count rows are below = record {
  few = omega (arith, below, length-append rows (length rows ∷ []));
  distinct = IsDistinct-push nat_eq_equiv _ _ are.distinct
      (are.there (length rows) ∙ le-ltb (length rows) (length rows) (omega arith));
  there = λ row. list_any-append (nat_eq row) _ _
      ∙ ap (λ b. b || list_any (nat_eq row) (length rows ∷ [])) (are.there row)
      ∙ (elim (cases_lt row (length rows)) [
        | inl before ↦
            rw (lt-ltb row (length rows) before)
            (sym (lt-ltb row (length (rows ++ length rows ∷ []))
            (omega (arith, before, length-append rows (length rows ∷ [])))))
        | inr past ↦ last row past
      ]);
}
  where
    long : length (rows ++ length rows ∷ []) ≡ length rows + 1
    long = length-append rows (length rows ∷ [])

    last : (row : ℕ) → length rows ≤ row
        → (nat_lt row (length rows) || list_any (nat_eq row) (length rows ∷ []))
        ≡ nat_lt row (length (rows ++ length rows ∷ []))
    last row past = rw (le-ltb row (length rows) past, long) (split (nat_eq row (length rows)) refl)
      where
        split : (b : Bool) → nat_eq row (length rows) ≡ b
            → (nat_eq row (length rows) || false) ≡ nat_lt row (length rows + 1)
        split true is = search (rules, lt-ltb, eqb-true)
        split false is = rw is
            (sym (le-ltb row (length rows + 1) (beyond (cases_lt row (length rows + 1)))))
          where
            beyond : (row < length rows + 1) ⊎ (length rows + 1 ≤ row) → length rows + 1 ≤ row
            beyond (inr far) = far
            beyond (inl near) = absurd (other (omega (arith, near, past)))
              where
                other : row ≡ length rows → ⊥
                other same = false≢true (sym is ∙ eq-eqb row (length rows) same)

-- Rows that were found: those of the first rows, in their order, and then those after them. They
-- are the same.
abbrev pub regrouped : List ℕ → List ℕ → List ℕ
regrouped first found = filter (λ row. list_any (nat_eq row) found) first
    ++ filter (λ row. not (nat_lt row (length first))) found

pub regrouped_same : (count : ℕ) (first found : List ℕ) → AreFirst count first → (row : ℕ)
    → list_any (nat_eq row) (regrouped first found) ≡ list_any (nat_eq row) found
regrouped_same count first found are row =
    list_any-append (nat_eq row) _
    (filter (λ r. not (nat_lt r (length first))) found)
    ∙ rw (
      kept_same (λ r. list_any (nat_eq r) found) _ _,
      kept_same (λ r. not (nat_lt r (length first))) _ _,
      are.there row,
    )
    (both (list_any (nat_eq row) found) (nat_lt row (length first)))
  where
    both : (found first : Bool) → ((found && first) || (not first && found)) ≡ found
    both true true = refl
    both true false = refl
    both false true = refl
    both false false = refl

pub regrouped_rows : (registrations : List Registration) (first found : List ℕ)
    → AreFirst (length registrations) first → AreRows registrations found
    → AreRows registrations (regrouped first found)
regrouped_rows registrations first found are rows = record {
  distinct = distinct_both _
      _
      (distinct_kept (λ r. list_any (nat_eq r) found) _ are.distinct)
      (distinct_kept (λ r. not (nat_lt r (length first))) _ rows.distinct)
      (λ row has. kept_same (λ r. not (nat_lt r (length first))) _ _
      ∙ other row (sym (kept_same (λ r. list_any (nat_eq r) found) _ _) ∙ has));
  below = All-append (λ r. r < length registrations)
      _
      _
      (All-filter (λ r. list_any (nat_eq r) found) (λ r. r < length registrations) _ all_first)
      (All-filter (λ r. not (nat_lt r (length first))) (λ r. r < length registrations) _
      rows.below);
}
  where
    other : (row : ℕ) → (list_any (nat_eq row) found && list_any (nat_eq row) first) ≡ true
        → (not (nat_lt row (length first)) && list_any (nat_eq row) found) ≡ false
    other row both = split (list_any (nat_eq row) found) (list_any (nat_eq row) first)
        (nat_lt row (length first)) (are.there row) both
      where
        split : (a b c : Bool) → b ≡ c → (a && b) ≡ true → (not c && a) ≡ false
        split true true true same both = refl
        split true true false same both = absurd (false≢true (sym same))
        split true false c same both = absurd (false≢true both)
        split false b c same both = absurd (false≢true both)

    all_first : All (λ r. r < length registrations) first
    all_first = first_below _ _ are

-- so also of rows that stand after keys
pub first_none : (count : ℕ) (keyed : List (ℕ × ℕ)) → keyed ≡ []
    → AreFirst count (rows_of_keyed keyed)
first_none count keyed none = subst (λ ks. AreFirst count (rows_of_keyed ks)) (sym none)
    (none_first _)

-- and of a table with more rows
pub first_of_more : (rows : List (List ℕ × PathInfo)) (added : List Registration)
    (more : List (List ℕ × PathInfo)) (first : List ℕ)
    → registrations_of more ≡ registrations_of rows ++ added → AreFirst (length rows) first
    → AreFirst (length more) first
first_of_more rows added more first is are =
    first_stay (length rows) (length more) first are
    (omega (
      arith,
      row_count rows,
      row_count more,
      ap length is,
      length-append (registrations_of rows) added,
    ))

-- one more row after its key
pub keyed_more : (count key row : ℕ) (keyed more : List (ℕ × ℕ))
    → AreFirst count (rows_of_keyed keyed) → length keyed ≡ row → row < count
    → more ≡ keyed ++ (key, row) ∷ [] → AreFirst count (rows_of_keyed more)
keyed_more count key row keyed more are next below is =
    let long : length (rows_of_keyed keyed) ≡ row = length-map keyed (λ (k : ℕ × ℕ). k.1) ∙ next in
    subst (AreFirst count)
    (ap (λ r. rows_of_keyed keyed ++ r ∷ []) long
    ∙ sym (ap rows_of_keyed is ∙ map-append (λ (k : ℕ × ℕ). k.1) keyed ((key, row) ∷ [])))
    (first_more _ _ are (omega (arith, long, below)))

-- ---- one more row is looked at

pub kept : {A : Type 0} (p : A → Bool) (rows more start old new : List A) (row : A)
    → more ≡ rows ++ row ∷ [] → old ≡ start ++ filter p rows → p row ≡ true → new ≡ old ++ row ∷ []
    → new ≡ start ++ filter p more
kept p rows more start old new row more_is before is pushed =
    search (rules, filter-append, append_assoc)

pub left_out : {A : Type 0} (p : A → Bool) (rows more start old : List A) (row : A)
    → more ≡ rows ++ row ∷ [] → old ≡ start ++ filter p rows → p row ≡ false
    → old ≡ start ++ filter p more
left_out p rows more start old row more_is before is = search (rules, filter-append, append-nil)

-- the rows after those keys of whose rows a test holds
pub after_kept : (p : ℕ → Bool) (keyed : List (ℕ × ℕ)) → rows_of_keyed (filter (λ k. p k.1) keyed)
    ≡ filter p (rows_of_keyed keyed)
after_kept p [] = refl
after_kept p (k ∷ keyed) = split (p k.1) (after_kept p keyed)
  where
    split : (b : Bool) → rows_of_keyed (filter (λ k. p k.1) keyed) ≡ filter p (rows_of_keyed keyed)
        → rows_of_keyed (cond b (k ∷ filter (λ k. p k.1) keyed) (filter (λ k. p k.1) keyed))
        ≡ cond b (k.1 ∷ filter p (rows_of_keyed keyed)) (filter p (rows_of_keyed keyed))
    split true same = ap (λ l. k.1 ∷ l) same
    split false same = same

pub after_added : (p : ℕ → Bool) (ordered start pushed : List (ℕ × ℕ))
    → pushed ≡ start ++ filter (λ k. p k.1) ordered
    → rows_of_keyed pushed ≡ rows_of_keyed start ++ filter p (rows_of_keyed ordered)
after_added p ordered start pushed is = search (rules, map-append, after_kept)

pub after_pushed : (keyed pushed : List (ℕ × ℕ)) (item : ℕ × ℕ) → pushed ≡ keyed ++ item ∷ []
    → rows_of_keyed pushed ≡ rows_of_keyed keyed ++ item.1 ∷ []
after_pushed keyed pushed item is = search (rules, map-append)

pub keys_swept : (P : ℕ × ℕ → Type 0) (p : ℕ × ℕ → Bool) (all ordered start pushed
    : List (ℕ × ℕ)) → (ordered ≡ []) ⊎ (ordered ≡ all) → start ≡ []
    → pushed ≡ start ++ filter p ordered → All P all → All P pushed
keys_swept P p all ordered start pushed swept none is of =
    rw (is, none) (All-filter p P _ (of_ordered swept))
  where
    of_ordered : (ordered ≡ []) ⊎ (ordered ≡ all) → All P ordered
    of_ordered (inl empty) = search rules
    of_ordered (inr same) = subst (All P) (sym same) of

-- ---- the same rows have the same paths

pub same_paths : (registrations : List Registration) (chosen found : List ℕ)
    (paths : List (List ℕ))
    → ((row : ℕ) → list_any (nat_eq row) chosen ≡ list_any (nat_eq row) found)
    → HaveSame paths (paths_at registrations chosen) → HaveSame paths (paths_at registrations found)
same_paths registrations chosen found paths same are =
    λ path. (
      λ has. among chosen found same path ((are path).0 has),
      λ has. (are path).1 (among found chosen (λ row. sym (same row)) path has),
    )
  where
    among : (xs ys : List ℕ)
        → ((row : ℕ) → list_any (nat_eq row) xs ≡ list_any (nat_eq row) ys)
        → (path : List ℕ) → Contains (paths_at registrations xs) path
        → Contains (paths_at registrations ys) path
    among xs ys alike path has =
        let source = Contains-from_map (path_at registrations) _ _ has in
        let there : list_any (nat_eq source.0) ys ≡ true =
        sym (alike source.0) ∙ list_any-from_Contains nat_eq_equiv _ _ source.1 in
        subst (Contains (paths_at registrations ys)) source.2
        (Contains-map (path_at registrations) _ _
        (Contains-from_any eqb-true _ _ there))

-- ---- the rows that a closure sorts

pub swept_first : (count : ℕ) (all ordered : List (ℕ × ℕ)) → (ordered ≡ []) ⊎ (ordered ≡ all)
    → AreFirst count (rows_of_keyed all) → AreFirst count (rows_of_keyed ordered)
swept_first count all ordered (inl none) are = first_none _ _ none
swept_first count all ordered (inr same) are = search rules

pub regrouped_is : (found : List ℕ) (ordered start middle new : List (ℕ × ℕ)) → start ≡ []
    → rows_of_keyed middle ≡ rows_of_keyed start
    ++ filter (λ row. list_any (nat_eq row) found) (rows_of_keyed ordered)
    → rows_of_keyed new ≡ rows_of_keyed middle
    ++ filter (λ row. not (nat_lt row (length ordered))) found
    → rows_of_keyed new ≡ regrouped (rows_of_keyed ordered) found
regrouped_is found ordered start middle new none first late =
    search (rules, not, nat_lt, nat_eq, length-map)

pub chosen_rows : (rows : List (List ℕ × PathInfo)) (first found chosen : List ℕ)
    → AreFirst (length rows) first → AreRows (registrations_of rows) found
    → chosen ≡ regrouped first found → AreRows (registrations_of rows) chosen
chosen_rows rows first found chosen are of is =
    subst (AreRows (registrations_of rows)) (sym is)
    (regrouped_rows _ _ _
    (subst (λ n. AreFirst n first) (sym (row_count _)) are) of)

pub chosen_same : (count : ℕ) (first found chosen : List ℕ) → AreFirst count first
    → chosen ≡ regrouped first found → (row : ℕ)
    → list_any (nat_eq row) chosen ≡ list_any (nat_eq row) found
chosen_same count first found chosen are is row =
    ap (list_any (nat_eq row)) is ∙ regrouped_same _ _ _ are _
