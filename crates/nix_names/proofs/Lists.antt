-- Lists: what they contain, what stands at their indices, and their parts.
use Rattle.std.proofs.Common.{◌≡◌, ◌∙◌, ℕ, ◌+◌, ◌<◌, zero, suc, List, [], ◌∷◌, ◌++◌, length, take, drop, get_or, map, refl, sym, ap, inl, inr, ⊎_elim, arith, Some, rules}
use Rattle.std.specs.Prelude.{◌⊎◌, All, Contains, slice_get}
use Rattle.std.proofs.lemmas.List.{drop_more, take-append-drop, take_more}
use Rattle.std.proofs.lemmas.List.Elements.{All-contains, Contains-append_cases, Contains-append_left, Contains-get_or}
use Rattle.std.proofs.lemmas.Option.{slice_get-get_or, slice_get_within, get_or_from_slice_get, same_Some, none-some}

-- some element of a list that isn't empty
pub element : {X : Type 0} (xs : List X) (i : ℕ) → i < length xs → X
element [] i below = absurd (omega arith)
element (x ∷ xs) i below = x

-- a number is the same as another, below it, or above
pub either_side : (i j : ℕ) → (i ≡ j) ⊎ ((i < j) ⊎ (j < i))
either_side zero zero = inl refl
either_side zero (suc j) = inr (inl (omega arith))
either_side (suc i) zero = inr (inr (omega arith))
either_side (suc i) (suc j) = search (rules, either_side i j)

module _ {X : Type 0} where
  -- ---- members

  pub Contains-nothing : (x : X) → Contains [] x → ⊥
  Contains-nothing x (k, lt, is) = omega arith

  pub Contains-first : (x : X) (xs : List X) → Contains (x ∷ xs) x
  Contains-first x xs = (0, omega arith, refl)

  pub Contains-later : (x : X) (xs : List X) (y : X) → Contains xs y → Contains (x ∷ xs) y
  Contains-later x xs y (k, lt, is) = (suc k, omega arith, is)

  -- a member is the first or a later one
  pub Contains-cons_cases : (x : X) (xs : List X) (y : X) → Contains (x ∷ xs) y → (x ≡ y)
      ⊎ Contains xs y
  Contains-cons_cases x xs y (zero, lt, is) = inl is
  Contains-cons_cases x xs y (suc k, lt, is) = inr (k, omega arith, is)

  -- or the last or an earlier one
  pub Contains-push_cases : (xs : List X) (y x : X) → Contains (xs ++ y ∷ []) x → Contains xs x
      ⊎ (y ≡ x)
  Contains-push_cases xs y x has =
      ⊎_elim inl (λ last. ⊎_elim inr (λ none. absurd (Contains-nothing x none))
      (Contains-cons_cases y [] x last)) (Contains-append_cases xs (y ∷ []) x has)

  pub Contains-middle : (before after : List X) (x : X) → Contains (before ++ x ∷ after) x
  Contains-middle [] after x = Contains-first x after
  Contains-middle (y ∷ before) after x = Contains-later y (before ++ x ∷ after) x
      (Contains-middle before after x)

  -- what holds of each member
  pub All-from_contains : (P : X → Type 0) (xs : List X) → ((x : X) → Contains xs x → P x)
      → All P xs
  All-from_contains P xs h k d lt = h (get_or xs k d) (Contains-get_or xs k d lt)

  -- the front of a list whose elements have a property
  pub All-left : (P : X → Type 0) (xs ys : List X) → All P (xs ++ ys) → All P xs
  All-left P xs ys all = All-from_contains P xs
      (λ x has. All-contains P (xs ++ ys) x all (Contains-append_left xs ys x has))

  -- ---- indices

  -- what stands at an index is a member, and a member stands at one
  pub Contains-from_get : (xs : List X) (n : ℕ) (x : X) → slice_get xs n ≡ Some x → Contains xs x
  Contains-from_get xs n x is = (n, slice_get_within xs n x is, get_or_from_slice_get xs n x x is)

  pub get_from_contains : (xs : List X) (x : X) → Contains xs x → (n : ℕ)
      × (slice_get xs n ≡ Some x)
  get_from_contains xs x (n, lt, is) = (n, slice_get-get_or xs n x lt ∙ ap Some is)

  -- one index has one element
  pub same_element : (xs : List X) (n : ℕ) (x y : X) → slice_get xs n ≡ Some x → slice_get xs n
      ≡ Some y → x ≡ y
  same_element xs n x y at at' = same_Some x y (sym at ∙ at')

  -- there is an element at each index within
  pub element_at : (xs : List X) (n : ℕ) → n < length xs → (x : X) × (slice_get xs n ≡ Some x)
  element_at [] n low = absurd (omega arith)
  element_at (x ∷ xs) zero low = (x, refl)
  element_at (x ∷ xs) (suc n) low = element_at xs n (omega arith)

  -- what stands in front stays after what is added
  pub get_grows : (xs ys : List X) (n : ℕ) (x : X) → slice_get xs n ≡ Some x
      → slice_get (xs ++ ys) n ≡ Some x
  get_grows [] ys n x is = absurd (none-some x is)
  get_grows (y ∷ xs) ys zero x is = is
  get_grows (y ∷ xs) ys (suc n) x is = get_grows xs ys n x is

  pub get_pushed : (xs : List X) (y : X) → slice_get (xs ++ y ∷ []) (length xs) ≡ Some y
  get_pushed [] y = refl
  get_pushed (x ∷ xs) y = get_pushed xs y

  -- an element of a list with one more at its end is an old one, or the last
  pub get_push_cases : (xs : List X) (y : X) (n : ℕ) (x : X) → slice_get (xs ++ y ∷ []) n ≡ Some x
      → (slice_get xs n ≡ Some x) ⊎ ((n ≡ length xs) × (y ≡ x))
  get_push_cases [] y zero x is = inr (refl, same_Some y x is)
  get_push_cases [] y (suc n) x is = absurd (none-some x is)
  get_push_cases (z ∷ xs) y zero x is = inl is
  get_push_cases (z ∷ xs) y (suc n) x is = search (rules, get_push_cases xs y n x is)

  -- ---- parts round an index

  pub drop_at : (xs : List X) (n : ℕ) (x : X) → slice_get xs n ≡ Some x → drop n xs ≡ x
      ∷ drop (suc n) xs
  drop_at [] n x is = absurd (none-some x is)
  drop_at (y ∷ xs) zero x is = ap (λ z. z ∷ xs) (same_Some y x is)
  drop_at (y ∷ xs) (suc n) x is = drop_at xs n x is

  pub take_at : (xs : List X) (n : ℕ) (x : X) → slice_get xs n ≡ Some x → take (suc n) xs
      ≡ take n xs ++ x ∷ []
  take_at [] n x is = absurd (none-some x is)
  take_at (y ∷ xs) zero x is = ap (λ z. z ∷ []) (same_Some y x is)
  take_at (y ∷ xs) (suc n) x is = ap (λ zs. y ∷ zs) (take_at xs n x is)

  pub split_get : (xs : List X) (n : ℕ) (x : X) → slice_get xs n ≡ Some x → xs ≡ take n xs ++ x
      ∷ drop (suc n) xs
  split_get xs n x is = search (rules, take-append-drop, drop_at)

  -- the parts round an element that was read
  pub parts_at : (xs : List X) (i : ℕ) (x : X) → i < length xs → x ≡ get_or xs i x → xs
      ≡ take i xs ++ x ∷ drop (i + 1) xs
  parts_at xs i x lt is = search (rules, take-append-drop, drop_more)

  pub taken_more : (xs : List X) (i : ℕ) (x : X) → i < length xs → x ≡ get_or xs i x
      → take (i + 1) xs ≡ take i xs ++ x ∷ []
  taken_more xs i x below at = search (rules, take_more)

-- ---- images

module _ {X Y : Type 0} (f : X → Y) where
  -- an element's image is among the images, and each image is some element's
  pub Contains-map : (xs : List X) (x : X) → Contains xs x → Contains (map f xs) (f x)
  Contains-map [] x has = absurd (Contains-nothing x has)
  Contains-map (y ∷ xs) x has =
      ⊎_elim (λ same. (zero, omega arith, ap f same))
      (λ later. Contains-later (f y) (map f xs) (f x) (Contains-map xs x later))
      (Contains-cons_cases y xs x has)

  pub Contains-from_map : (xs : List X) (y : Y) → Contains (map f xs) y → (x : X) × Contains xs x
      × (f x ≡ y)
  Contains-from_map [] y has = absurd (Contains-nothing y has)
  Contains-from_map (x ∷ xs) y has =
      ⊎_elim (λ same. (x, Contains-first x xs, same))
      (λ later. let found = Contains-from_map xs y later
      in (found.0, Contains-later x xs found.0 found.1, found.2))
      (Contains-cons_cases (f x) (map f xs) y has)

  pub get_mapped : (xs : List X) (n : ℕ) (x : X) → slice_get xs n ≡ Some x → slice_get (map f xs) n
      ≡ Some (f x)
  get_mapped [] n x is = absurd (none-some x is)
  get_mapped (y ∷ xs) zero x is = ap (λ z. Some (f z)) (same_Some y x is)
  get_mapped (y ∷ xs) (suc n) x is = get_mapped xs n x is

  pub get_source : (xs : List X) (n : ℕ) (y : Y) → slice_get (map f xs) n ≡ Some y → (x : X)
      × (slice_get xs n ≡ Some x) × (f x ≡ y)
  get_source [] n y is = absurd (none-some y is)
  get_source (x ∷ xs) zero y is = (x, refl, same_Some (f x) y is)
  get_source (x ∷ xs) (suc n) y is = get_source xs n y is
