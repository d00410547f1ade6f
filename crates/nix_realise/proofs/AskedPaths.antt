-- The paths that are verified.
use Rattle.std.proofs.Common.{◌≡◌, ◌↔◌, ◌<◌, ◌≤◌, ◌+◌, ℕ, List, [], ◌∷◌, ◌++◌, arith, get_or, length, refl, subst, sym, take}
use Rattle.std.proofs.lemmas.List.{get_or_default, take_all, take_more}
use Rattle.std.proofs.lemmas.List.Elements.{All-push}
use Rattle.std.specs.Prelude.{All, Contains}
use Rattle.nix_names.specs.Rising.{IsRising}
use Rattle.valid_table.specs.Entries.{paths_registered, registered}
use Rattle.valid_table.specs.Tables.{JournalValue}
use Rattle.valid_table.specs.Valid.{IsValid}
use Rattle.nix_realise.specs.Verifying.{AreAsked}

-- what holds of each element holds of one, and the other way round
contained : {X : Type 0} (P : X → Type 0) (xs : List X) → All P xs → (x : X) → Contains xs x → P x
contained P xs all x (k, within, is) = subst P is (all k x within)

each_contained : {X : Type 0} (P : X → Type 0) (xs : List X) → ((x : X) → Contains xs x → P x)
    → All P xs
each_contained P xs h k d within =
    let x = get_or xs k d in h x (k, within, get_or_default xs k x d within)

-- all valid paths
pub all_asked : (words : List (List ℕ)) (journal : JournalValue) (given paths : List (List ℕ))
    → words ≡ [] → given ≡ paths_registered (registered journal.entries) → IsRising paths
    → ((path : List ℕ) → Contains paths path ↔ Contains given path)
    → AreAsked words journal paths × All (IsValid (registered journal.entries)) paths
all_asked words journal given paths none are rising same =
    let each : (path : List ℕ) → Contains paths path ↔ IsValid (registered journal.entries) path =
    λ path. subst (λ (l : List (List ℕ)). Contains paths path ↔ Contains l path) are (same path)
    in (
      subst (λ ws. AreAsked ws journal paths) (sym none) (record { rising = rising; same = each }),
      each_contained (IsValid (registered journal.entries)) paths (λ path. (each path).0),
    )

-- the paths that words name
pub named_asked : (words : List (List ℕ)) (journal : JournalValue) (paths : List (List ℕ))
    → 0 < length words → All (IsValid (registered journal.entries)) words → IsRising paths
    → ((path : List ℕ) → Contains paths path ↔ Contains words path)
    → AreAsked words journal paths × All (IsValid (registered journal.entries)) paths
named_asked [] journal paths some valid rising same = absurd (omega (arith, some))
named_asked (word ∷ words) journal paths some valid rising same = (
  record { rising = rising; same = same },
  each_contained (IsValid (registered journal.entries)) paths
      (λ path here. contained (IsValid (registered journal.entries)) (word ∷ words) valid path
      ((same path).0 here)),
)

-- one more path is valid
pub valid_push : (journal : JournalValue) (paths : List (List ℕ)) (i : ℕ) (path : List ℕ)
    → i < length paths → path ≡ get_or paths i path
    → All (IsValid (registered journal.entries)) (take i paths)
    → IsValid (registered journal.entries) path
    → All (IsValid (registered journal.entries)) (take (i + 1) paths)
valid_push journal paths i path within is before valid =
    subst (All (IsValid (registered journal.entries))) (sym (take_more paths i path within))
    (All-push (IsValid (registered journal.entries)) (take i paths) (get_or paths i path) before
    (subst (IsValid (registered journal.entries)) is valid))

-- all are valid
pub valid_all : (journal : JournalValue) (paths : List (List ℕ)) (i : ℕ) → length paths ≤ i
    → All (IsValid (registered journal.entries)) (take i paths)
    → All (IsValid (registered journal.entries)) paths
valid_all journal paths i past valid =
    subst (All (IsValid (registered journal.entries))) (take_all i paths past) valid

pub no_items : {X : Type 0} (xs : List X) → length xs ≡ 0 → xs ≡ []
no_items [] e = refl
no_items (x ∷ xs) e = absurd (omega (arith, e))
