-- What a loop has written, and what it has left to write.
use Rattle.std.proofs.Common.{◌≡◌, ◌++◌, List, ℕ, drop}
use Rattle.std.specs.List.{flat_map}

-- with the lines of the items from this index on, the output is all lines after its start
abbrev pub AreWritten : {A : Type 0} → List A → ℕ → (A → List ℕ) → (start out : List ℕ) → Type 0
AreWritten items index line start out =
    out ++ flat_map line (drop index items) ≡ start ++ flat_map line items
