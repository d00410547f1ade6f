-- *Reverse edges*: from each derivation of a plan to those that wait for it (this product's
-- own).
use Rattle.std.specs.Prelude.{◌≡◌, ◌<◌, ◌+◌, ◌==◌, ◌&&◌, ℕ, Option, Some, None, List, [], ◌∷◌, ◌++◌, All, length, slice_get, if◌then◌else◌}
use Rattle.std.specs.List.{slice_index_or}
use Rattle.run_states.specs.declared.users.Edge.{Edge}

-- how often the edge to this user and index is in a list: the index is that of an awaited
-- derivation among what the user waits for
abbrev pub times : (user index : ℕ) → List Edge → ℕ
times user index [] = 0
times user index (edge ∷ edges) =
    (if (edge.user == user) && (edge.index == index) then 1 else 0) + times user index edges

-- 1 where there is a number and it is this one
abbrev pub once_at : Option ℕ → ℕ → ℕ
once_at (Some number) input = if number == input then 1 else 0
once_at None input = 0

-- the edges to the users of an input
abbrev pub users_of : List (List Edge) → ℕ → List Edge
users_of users input = slice_index_or users input []

-- the edges to the users of some inputs, one after the other
abbrev pub users_of_all : List (List Edge) → List ℕ → List Edge
users_of_all users [] = []
users_of_all users (input ∷ inputs) = users_of users input ++ users_of_all users inputs

-- Of each derivation, the edges to those that wait for it: once for each index at which it stands
-- among what one of them waits for.
pub record AreUsers (awaited : ℕ → List ℕ) (count : ℕ) (users : List (List Edge)) : Type 0 where
  pub rows : length users ≡ count
  pub each : (input user index : ℕ) → input < count → user < count
      → times user index (users_of users input) ≡ once_at (slice_get (awaited user) index) input
  pub within : (input : ℕ) → All (λ (edge : Edge). edge.user < count) (users_of users input)
