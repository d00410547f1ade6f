-- Registrations that are taken in after known ones.
use Rattle.std.proofs.Common.{◌≡◌, ◌⊎◌, ◌≤◌, ℕ, List, [], ◌∷◌, ◌++◌, length, refl, sym, subst, arith, rules}
use Rattle.std.specs.Prelude.{All, Contains}
use Rattle.std.proofs.lemmas.List.Elements.{All-append, Contains-append_cases, Contains-append_right}
use Rattle.nix_names.specs.Rising.{IsRising}
use Rattle.nix_names.proofs.RisingLists.{distinct_from_rising}
use Rattle.valid_table.specs.Adding.{AreClosed, AreNew}
use Rattle.valid_table.specs.Entries.{paths_registered}
use Rattle.valid_table.specs.Valid.{AreReferencesValid, IsOnce, IsValid}
use Rattle.valid_table.specs.declared.entry.Registration.{Registration}
use Rattle.valid_table.proofs.JournalLists.{paths_of-append, references_of-append, valid_more}
use Rattle.valid_table.proofs.PathLists.{distinct_append}

-- new registrations that rise repeat no path after known ones
pub once_more : (known some : List Registration) → IsOnce known → IsRising (paths_registered some)
    → AreNew known some → IsOnce (known ++ some)
once_more known some once rising new =
    search (rules, paths_of-append, distinct_append, distinct_from_rising)

-- closed registrations after known ones whose references are valid: all references are
pub valid_with_more : (known some : List Registration) → AreReferencesValid known
    → AreClosed known some → AreReferencesValid (known ++ some)
valid_with_more known some valid closed =
    let all = known ++ some in
    subst (All (IsValid all)) (sym (references_of-append known some))
    (All-append (IsValid all) _ _
    (valid_more _ _ _ valid) closed)

-- a path that is valid by two lists of registrations is so by one of them
pub valid_cases : (known some : List Registration) (path : List ℕ) → IsValid (known ++ some) path
    → IsValid known path ⊎ IsValid some path
valid_cases known some path valid =
    Contains-append_cases _ _ _ (subst (λ paths. Contains paths path) (paths_of-append _ _) valid)

-- and one that is by the second
pub valid_by_some : (known some : List Registration) (path : List ℕ) → IsValid some path
    → IsValid (known ++ some) path
valid_by_some known some path valid =
    subst (λ paths. Contains paths path) (sym (paths_of-append known some))
    (Contains-append_right (paths_registered known) (paths_registered some) path valid)

-- a list that isn't empty has an element
pub some_elements : {X : Type 0} (xs : List X) → (xs ≡ [] → ⊥) → 1 ≤ length xs
some_elements [] some = absurd (some refl)
some_elements (x ∷ xs) some = omega arith
