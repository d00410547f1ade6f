-- Inputs are united: gathered by their paths, and their names sorted.
use Rattle.std.proofs.Common.{◌≡◌, ◌≢◌, ◌⊎◌, ℕ, false, List, [], ◌∷◌, ◌++◌, take, get_or, Some, inl, inr, refl, sym, ap, subst, ◌∙◌, arith, rules}
use Rattle.std.specs.Prelude.{All, Contains}
use Rattle.std.specs.Cmp.Lexicographic.{slice_cmp}
use Rattle.std.specs.List.{AllZip, slice_get}
use Rattle.std.specs.List.Sorted.{IsPermutation, IsSorted}
use Rattle.std.specs.Ordering.{is_lt, nat_cmp}
use Rattle.std.proofs.lemmas.Cmp.{nat_list_cmp_total}
use Rattle.std.proofs.lemmas.List.{map-append, take-map}
use Rattle.std.proofs.lemmas.List.Elements.{All-cons, All-nil, Contains-append_cases, Contains-append_left, Contains-append_right, Contains-push, Contains-push_cases}
use Rattle.std.proofs.lemmas.List.Sorted.{Contains-permutation, IsPermutation-map, IsPermutation-sym, ranks_by, sorted_far}
use Rattle.std.proofs.lemmas.Option.{get_or_from_slice_get, slice_get_within}
use Rattle.nix_names.specs.Rising.{IsRising}
use Rattle.nix_names.proofs.RisingLists.{IsBelow, below_from_order, below_trans, earlier_below, rising_push}
use Rattle.nix_drv.specs.Derivation.{Input}
use Rattle.drv_graph.specs.Modulo.{IsNamed, IsUnited}
use Rattle.drv_graph.specs.private.Uniting.{IsAdded, IsGathered, IsNameSorted, input_paths}
use Rattle.drv_graph.proofs.Loops.{slice_get-take}
use Rattle.drv_graph.proofs.OneText.{named_cases, named_first, named_later}
use Rattle.nix_names.proofs.Lists.{Contains-nothing, get_from_contains}
use Rattle.drv_graph.proofs.PathLists.{other_path}

-- ---- sorted names

sorted_paths : (given sorted : List Input) → AllZip IsNameSorted given sorted → input_paths sorted
    ≡ input_paths given
sorted_paths [] [] zipped = refl
sorted_paths [] (y ∷ ys) zipped = absurd zipped
sorted_paths (x ∷ xs) [] zipped = absurd zipped
sorted_paths (x ∷ xs) (y ∷ ys) zipped = search (rules, sorted_paths xs ys zipped.1)

sorted_rise : (given sorted : List Input) → AllZip IsNameSorted given sorted
    → All (λ (i : Input). IsRising i.names) sorted
sorted_rise [] [] zipped = All-nil (λ (i : Input). IsRising i.names)
sorted_rise [] (y ∷ ys) zipped = absurd zipped
sorted_rise (x ∷ xs) [] zipped = absurd zipped
sorted_rise (x ∷ xs) (y ∷ ys) zipped = search (rules, All-cons, sorted_rise xs ys zipped.1)

sorted_named : (given sorted : List Input) → AllZip IsNameSorted given sorted → (path name : List ℕ)
    → IsNamed sorted path name → IsNamed given path name
sorted_named [] [] zipped path name h = h
sorted_named [] (y ∷ ys) zipped path name h = absurd zipped
sorted_named (x ∷ xs) [] zipped path name h = absurd zipped
sorted_named (x ∷ xs) (y ∷ ys) zipped path name h =
    elim (named_cases y _ _ _ h) [
      | inl at ↦ subst (λ (p : List ℕ). IsNamed (x ∷ xs) p name) (sym zipped.0.path ∙ at.0)
          (named_first x _ _ ((zipped.0.names name).0 at.1))
      | inr later ↦ named_later x xs path name (sorted_named _ _ zipped.1 _ _ later)
    ]

named_sorted : (given sorted : List Input) → AllZip IsNameSorted given sorted → (path name : List ℕ)
    → IsNamed given path name → IsNamed sorted path name
named_sorted [] [] zipped path name h = h
named_sorted [] (y ∷ ys) zipped path name h = absurd zipped
named_sorted (x ∷ xs) [] zipped path name h = absurd zipped
named_sorted (x ∷ xs) (y ∷ ys) zipped path name h =
    elim (named_cases x _ _ _ h) [
      | inl at ↦ subst (λ (p : List ℕ). IsNamed (y ∷ ys) p name) (zipped.0.path ∙ at.0)
          (named_first y _ _ ((zipped.0.names name).1 at.1))
      | inr later ↦ named_later y ys path name (named_sorted _ _ zipped.1 _ _ later)
    ]

-- gathered inputs whose names are sorted are united
pub united_from : (given gathered united : List Input) → IsGathered given gathered
    → AllZip IsNameSorted gathered united → IsUnited given united
united_from given gathered united are zipped =
    let same = sorted_paths _ _ zipped in
    record {
      rising = subst IsRising (sym same) are.rising;
      names_rise = sorted_rise _ _ zipped;
      paths = λ path. (
        λ has. (are.paths path).0 (subst (λ (ps : List (List ℕ)). Contains ps path) same has),
        λ has. subst (λ (ps : List (List ℕ)). Contains ps path) (sym same) ((are.paths path).1 has),
      );
      names = λ path name. (
        λ h. (are.names path name).0 (sorted_named _ _ zipped _ _ h),
        λ h. named_sorted _ _ zipped _ _ ((are.names path name).1 h),
      );
    }

-- ---- another order of the given inputs

named_moved : (xs ys : List Input) → IsPermutation xs ys → (path name : List ℕ)
    → IsNamed xs path name → IsNamed ys path name
named_moved xs ys moved path name h = search (rules, Contains-permutation)

pub gathered_moved : (given moved gathered : List Input) → IsPermutation given moved
    → IsGathered moved gathered → IsGathered given gathered
gathered_moved given moved gathered order are =
    let back = IsPermutation-sym given moved order in
    record {
      rising = are.rising;
      paths = λ path. (
        λ has. Contains-permutation _ _ _
            (IsPermutation-map (λ (i : Input). i.path) moved given back) ((are.paths path).0 has),
        λ has. (are.paths path).1
            (Contains-permutation _ _ _
            (IsPermutation-map (λ (i : Input). i.path) given moved order) has),
      );
      names = λ path name. (
        λ h. named_moved _ _ back _ _ ((are.names path name).0 h),
        λ h. (are.names path name).1 (named_moved _ _ order _ _ h),
      );
    }

-- ---- one input more

named_left : (xs ys : List Input) (path name : List ℕ) → IsNamed xs path name
    → IsNamed (xs ++ ys) path name
named_left xs ys path name h = search (rules, Contains-append_left)

named_last : (xs : List Input) (x : Input) (path name : List ℕ) → x.path ≡ path
    → Contains x.names name → IsNamed (xs ++ x ∷ []) path name
named_last xs x path name at has = search (rules, Contains-push)

named_push_cases : (xs : List Input) (x : Input) (path name : List ℕ)
    → IsNamed (xs ++ x ∷ []) path name → IsNamed xs path name
    ⊎ ((x.path ≡ path) × Contains x.names name)
named_push_cases xs x path name h =
    elim (Contains-push_cases _ x _ h.is_input) [
      | inl before ↦ inl
          (record { input = h.input; is_input = before; is_path = h.is_path; is_name = h.is_name })
      | inr is ↦ inr (
        ap (λ (i : Input). i.path) is ∙ h.is_path,
        subst (λ (i : Input). Contains i.names name) (sym is) h.is_name,
      )
    ]

paths_push : (xs : List Input) (x : Input) → input_paths (xs ++ x ∷ []) ≡ input_paths xs ++ x.path
    ∷ []
paths_push xs x = search (rules, map-append)

-- the path of an input among some and one more
path_push_cases : (xs : List Input) (x : Input) (path : List ℕ)
    → Contains (input_paths (xs ++ x ∷ [])) path → Contains (input_paths xs) path ⊎ (x.path ≡ path)
path_push_cases xs x path has = Contains-push_cases _ _ _
    (subst (λ (ps : List (List ℕ)). Contains ps path) (paths_push _ x) has)

path_push_left : (xs : List Input) (x : Input) (path : List ℕ) → Contains (input_paths xs) path
    → Contains (input_paths (xs ++ x ∷ [])) path
path_push_left xs x path has = subst (λ (ps : List (List ℕ)). Contains ps path)
    (sym (paths_push _ x)) (Contains-append_left _ _ _ has)

path_push_last : (xs : List Input) (x : Input) → Contains (input_paths (xs ++ x ∷ [])) x.path
path_push_last xs x = subst (λ (ps : List (List ℕ)). Contains ps x.path) (sym (paths_push _ x))
    (Contains-push _ _)

abbrev joined : Input → Input → Input
joined last input = record { path = last.path; names = last.names ++ input.names }

gathered_joined : (given front : List Input) (last input : Input)
    → IsGathered given (front ++ last ∷ []) → last.path ≡ input.path
    → IsGathered (given ++ input ∷ []) (front ++ joined last input ∷ [])
gathered_joined given front last input are same = record {
  rising = subst IsRising (paths_push _ _ ∙ sym (paths_push _ _))
      are.rising;
  paths = λ path. (
    λ has. path_push_left _ _ _
        ((are.paths path).0
        (subst (λ (ps : List (List ℕ)). Contains ps path)
        (paths_push _ _ ∙ sym (paths_push _ _)) has)),
    λ has. subst (λ (ps : List (List ℕ)). Contains ps path)
        (paths_push _ _ ∙ sym (paths_push _ _))
        (elim (path_push_cases _ _ _ has) [
          | inl before ↦ (are.paths path).1 before
          | inr at ↦ subst (λ (p : List ℕ). Contains (input_paths (front ++ last ∷ [])) p)
              (same ∙ at) (path_push_last _ _)
        ]),
  );
  names = λ path name. (there path name, back path name);
}
  where
    there : (path name : List ℕ) → IsNamed (front ++ joined last input ∷ []) path name
        → IsNamed (given ++ input ∷ []) path name
    there path name h =
        elim (named_push_cases _ _ _ _ h) [
          | inl before ↦ named_left given (input ∷ []) path name
              ((are.names path name).0 (named_left _ _ _ _ before))
          | inr at ↦ elim (Contains-append_cases _ _ _ at.1) [
            | inl old ↦ named_left given (input ∷ []) path name
                ((are.names path name).0 (named_last _ _ _ _ at.0 old))
            | inr new ↦ named_last given input path name (sym same ∙ at.0) new
          ]
        ]

    back : (path name : List ℕ) → IsNamed (given ++ input ∷ []) path name
        → IsNamed (front ++ joined last input ∷ []) path name
    back path name h =
        elim (named_push_cases _ _ _ _ h) [
          | inl before ↦
              elim (named_push_cases _ _ _ _ ((are.names path name).1 before)) [
                | inl earlier ↦ named_left front (joined last input ∷ []) path name earlier
                | inr at ↦ named_last front (joined last input) path name at.0
                    (Contains-append_left _ _ _ at.1)
              ]
          | inr at ↦ named_last front (joined last input) path name (same ∙ at.0)
              (Contains-append_right _ _ _ at.1)
        ]

-- some inputs are none, or have a last one
ends : (xs : List Input) → (xs ≡ [])
    ⊎ ((front : List Input) × (last : Input) × (xs ≡ front ++ last ∷ []))
ends [] = inl refl
ends (x ∷ xs) =
    elim (ends _) [
      | inl none ↦ inr ([], x, ap (λ (ys : List Input). x ∷ ys) none)
      | inr some ↦ inr (x ∷ some.0, some.1, ap (λ (ys : List Input). x ∷ ys) some.2)
    ]

gathered_appended : (given gathered : List Input) (input : Input) → IsGathered given gathered
    → ((path : List ℕ) → Contains (input_paths given) path
    → is_lt (slice_cmp nat_cmp input.path path) ≡ false)
    → ((front : List Input) (last : Input) → gathered ≡ front ++ last ∷ [] → last.path ≢ input.path)
    → IsGathered (given ++ input ∷ []) (gathered ++ input ∷ [])
gathered_appended given gathered input are ordered other = record {
  rising = subst IsRising (sym (paths_push _ _))
      (rising_push _ _ are.rising below);
  paths = λ path. (
    λ has. elim (path_push_cases _ _ _ has) [
      | inl before ↦ path_push_left given input path ((are.paths path).0 before)
      | inr at ↦ subst (λ (p : List ℕ). Contains (input_paths (given ++ input ∷ [])) p) at
          (path_push_last _ _)
    ],
    λ has. elim (path_push_cases _ _ _ has) [
      | inl before ↦ path_push_left gathered input path ((are.paths path).1 before)
      | inr at ↦ subst (λ (p : List ℕ). Contains (input_paths (gathered ++ input ∷ [])) p) at
          (path_push_last _ _)
    ],
  );
  names = λ path name. (
    λ h. elim (named_push_cases _ _ _ _ h) [
      | inl before ↦ named_left given (input ∷ []) path name ((are.names path name).0 before)
      | inr at ↦ named_last given input path name at.0 at.1
    ],
    λ h. elim (named_push_cases given input path name h) [
      | inl before ↦ named_left gathered (input ∷ []) path name ((are.names path name).1 before)
      | inr at ↦ named_last gathered input path name at.0 at.1
    ],
  );
}
  where
    last_below : (front : List Input) (last : Input) → gathered ≡ front ++ last ∷ []
        → IsBelow last.path input.path
    last_below front last is =
        below_from_order last.path input.path
        (ordered last.path
        ((are.paths last.path).0
        (subst (λ (g : List Input). Contains (input_paths g) last.path) (sym is)
        (path_push_last front last))))
        (other_path _ _ (other front last is))

    below : (path : List ℕ) → Contains (input_paths gathered) path → IsBelow path input.path
    below path has =
        elim (ends gathered) [
          | inl none ↦ absurd
              (Contains-nothing path
              (subst (λ (g : List Input). Contains (input_paths g) path) none has))
          | inr some ↦
              elim (path_push_cases some.0 some.1 path
              (subst (λ (g : List Input). Contains (input_paths g) path) some.2 has)) [
                | inl before ↦
                    below_trans path some.1.path input.path
                    (earlier_below (input_paths some.0) [] some.1.path path
                    (subst IsRising (ap input_paths some.2 ∙ paths_push some.0 some.1) are.rising)
                    before)
                    (last_below some.0 some.1 some.2)
                | inr at ↦ subst (λ (p : List ℕ). IsBelow p input.path) at
                    (last_below some.0 some.1 some.2)
              ]
        ]

-- a path after others in sorted paths is not less than they
not_less : (paths : List (List ℕ)) (i : ℕ) (path earlier : List ℕ)
    → IsSorted (slice_cmp nat_cmp) paths → slice_get paths i ≡ Some path
    → Contains (take i paths) earlier
    → is_lt (slice_cmp nat_cmp path earlier) ≡ false
not_less paths i path earlier sorted at has =
    let found = get_from_contains _ _ has in
    let inside = slice_get-take _ i _ _ found.1 in
    let far = sorted_far (λ x y. is_lt (slice_cmp nat_cmp x y))
    (ranks_by nat_list_cmp_total (λ x. x)) paths sorted found.0 i [] (omega (arith, inside.0))
    (slice_get_within paths i path at) in
    let here : get_or paths i [] ≡ path = get_or_from_slice_get paths i _ [] at in
    let there : get_or paths found.0 [] ≡ earlier =
    get_or_from_slice_get paths found.0 _ [] inside.1 in
    ap (λ (x : List ℕ). is_lt (slice_cmp nat_cmp x earlier)) (sym here)
    ∙ ap (λ (y : List ℕ). is_lt (slice_cmp nat_cmp (get_or paths i []) y)) (sym there) ∙ far

-- the step of gathering
pub gathered_more : (all given gathered after : List Input) (i : ℕ) (input : Input)
    → IsSorted (slice_cmp nat_cmp) (input_paths all) → given ≡ take i all
    → slice_get (input_paths all) i ≡ Some input.path
    → IsGathered given gathered → IsAdded gathered input after
    → IsGathered (given ++ input ∷ []) after
gathered_more all given gathered after i input sorted is at are (inl join) =
    subst (λ (g : List Input). IsGathered (given ++ input ∷ []) g) (sym join.is)
    (gathered_joined _ _ _ _
    (subst (λ (g : List Input). IsGathered given g) join.was are) join.same)
gathered_more all given gathered after i input sorted is at are (inr append) =
    subst (λ (g : List Input). IsGathered (given ++ input ∷ []) g) (sym append.is)
    (gathered_appended _ _ _ are (λ path has. not_less _ i _ _ sorted at
    (subst (λ (ps : List (List ℕ)). Contains ps path)
    (ap input_paths is ∙ sym (take-map (λ (j : Input). j.path) i all)) has)) append.other)
