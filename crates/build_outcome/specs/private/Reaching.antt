-- How the numbers to which links lead are marked. Numbers count from 0.
use Rattle.std.specs.Prelude.{◌≡◌, ◌↔◌, ◌⊎◌, ◌+◌, ℕ, List, Bool, true, false, Some, Contains, length, slice_get}
use Rattle.std.specs.Global.{Vec}
use Rattle.std.specs.List.{sum_by}
use Rattle.build_outcome.specs.private.Walking.{Goes, IsLinked}

-- a number is marked
abbrev pub IsMarked : List Bool → ℕ → Type 0
IsMarked marks n = slice_get marks n ≡ Some true

-- Just the numbers to which links lead from one are marked.
pub record AreReached (links : List (Vec ℕ)) (start : ℕ) (marks : List Bool) : Type 0 where
  pub count : length marks ≡ length links
  pub each : (n : ℕ) → IsMarked marks n ↔ Goes links start n

-- what is left to do for a mark
abbrev pub pending : Bool → ℕ
pending true = 0
pending false = 1

-- Some numbers are marked, and those that weren't stand among what is left.
pub record MarksAll (numbers : List ℕ) (before after : List Bool) (left later : List ℕ) : Type 0
  where
    pub count : length after ≡ length before
    pub marked : (n : ℕ) → IsMarked after n ↔ (IsMarked before n ⊎ Contains numbers n)
    pub waiting : (n : ℕ) → Contains later n
        ↔ (Contains left n ⊎ (IsMarked after n × (IsMarked before n → ⊥)))
    pub measure : sum_by pending after + length later ≡ sum_by pending before + length left

-- Where a walk from a number stands: the links of each marked number lead to marked ones, save
-- those of the numbers that are left.
pub record IsReaching (links : List (Vec ℕ)) (start : ℕ) (marks : List Bool) (left : List ℕ)
    : Type 0 where
  pub count : length marks ≡ length links
  pub begun : IsMarked marks start
  pub sound : (n : ℕ) → IsMarked marks n → Goes links start n
  pub known : (n : ℕ) → Contains left n → IsMarked marks n
  pub passed : (from to : ℕ) → IsMarked marks from → IsLinked links from to
      → Contains left from ⊎ IsMarked marks to
