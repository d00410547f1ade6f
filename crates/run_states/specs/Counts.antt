-- How many numbers have a property (this product's own).
use Rattle.std.specs.Prelude.{◌≡◌, ◌↔◌, ℕ, List, length, Contains}
use Rattle.std.specs.List.Sorted.{IsStrictlyIncreasing}

-- A property holds of exactly `count` numbers: a strictly rising list of that length has exactly
-- these.
pub record HasCount (is_such : ℕ → Type 0) (count : ℕ) : Type 0 where
  pub numbers : List ℕ
  pub rising : IsStrictlyIncreasing numbers
  pub exact : (d : ℕ) → Contains numbers d ↔ is_such d
  pub count_is : count ≡ length numbers
