-- Lists that rise strictly, one path longer, and their last path.
use Rattle.std.proofs.Common.{◌≡◌, ℕ, ◌-◌, List, [], ◌∷◌, ◌++◌, length, map, Option, Some, None, refl, sym, ap, ◌∙◌, rules}
use Rattle.std.specs.List.{last_or, slice_get}
use Rattle.std.specs.Option.{option_map}
use Rattle.nix_names.specs.Rising.{IsRising}
use Rattle.valid_table.specs.Entries.{paths_registered}
use Rattle.valid_table.specs.private.Steps.{IsAbove}
use Rattle.valid_table.specs.declared.entry.Registration.{Registration}

-- each path is greater than the one before it, the first than this one
abbrev pub AreAbove : Option (List ℕ) → List (List ℕ) → Type 0
AreAbove before [] = Unit {0}
AreAbove before (path ∷ paths) = IsAbove before path × AreAbove (Some path) paths

after_first : (path : List ℕ) (paths : List (List ℕ)) → IsRising (path ∷ paths)
    → AreAbove (Some path) paths
after_first path [] h = tt
after_first path (next ∷ paths) h = (h.0, after_first next paths h.1)

pub above_of_rising : (paths : List (List ℕ)) → IsRising paths → AreAbove None paths
above_of_rising [] h = tt
above_of_rising (path ∷ paths) h = (tt, after_first _ _ h)

rising_first : (path : List ℕ) (paths : List (List ℕ)) → AreAbove (Some path) paths
    → IsRising (path ∷ paths)
rising_first path [] h = tt
rising_first path (next ∷ paths) h = (h.0, rising_first next paths h.1)

pub rising_of_above : (paths : List (List ℕ)) → AreAbove None paths → IsRising paths
rising_of_above [] h = tt
rising_of_above (path ∷ paths) h = rising_first _ _ h.1

-- one more path above the last
pub rising_more : (paths : List (List ℕ)) (path : List ℕ) → IsRising paths
    → IsAbove (last_or None paths) path → IsRising (paths ++ path ∷ [])
rising_more [] path h above = tt
rising_more (x ∷ []) path h above = (above, tt)
rising_more (x ∷ y ∷ paths) path h above = (h.0, rising_more (y ∷ paths) path h.1 above)

-- the last element is the one at the last index
pub last_is : {A : Type 0} (xs : List A) → slice_get xs (length xs - 1) ≡ last_or None xs
last_is [] = refl
last_is (x ∷ []) = refl
last_is (x ∷ y ∷ xs) = search (rules, last_is (y ∷ xs))

-- the last of what is made of each element is made of the last
pub last_map : {A B : Type 0} (f : A → B) (o : Option A) (xs : List A)
    → last_or (option_map f o) (map f xs) ≡ option_map f (last_or o xs)
last_map f o [] = refl
last_map f o (x ∷ xs) = last_map f _ xs

-- the path of the last registration, as it was looked up
pub last_path_is : (registrations : List Registration) (last : Registration) → Some last
    ≡ slice_get registrations (length registrations - 1) → Some last.path
    ≡ last_or None (paths_registered registrations)
last_path_is registrations last at =
    ap (option_map (λ (r : Registration). r.path)) (at ∙ last_is registrations)
    ∙ sym (last_map (λ (r : Registration). r.path) None registrations)
