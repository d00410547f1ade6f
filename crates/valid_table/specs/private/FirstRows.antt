-- The first rows of a table, each once, in any order.
use Rattle.std.specs.Prelude.{◌≡◌, ◌≤◌, ℕ, List, length, map, nat_eq, nat_lt}
use Rattle.std.specs.List.{IsDistinct, list_any}

-- the rows of pairs of a key and a row
abbrev pub rows_of_keyed : List (ℕ × ℕ) → List ℕ
rows_of_keyed keyed = map (λ k. k.1) keyed

-- Rows are the first ones of a table with `count` rows, each once: n rows are the numbers below n.
pub record AreFirst (count : ℕ) (rows : List ℕ) : Type 0 where
  pub few : length rows ≤ count
  pub distinct : IsDistinct nat_eq rows
  pub there : (row : ℕ) → list_any (nat_eq row) rows ≡ nat_lt row (length rows)
