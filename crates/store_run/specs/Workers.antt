-- How many builders may run at a time (this product's own).
use Rattle.std.specs.Prelude.{◌≤◌, ℕ}

-- the number of workers is from 1 to 64
abbrev pub AreWorkers : ℕ → Type 0
AreWorkers count = (1 ≤ count) × (count ≤ 64)
