-- Rows that are marked, one bit for each row of a table.
use Rattle.std.specs.Prelude.{◌≡◌, ◌/◌, ◌%◌, ℕ, List, nat_eq, slice_index_or}
use Rattle.std.specs.Int.{bit_at}
use Rattle.std.specs.List.{IsDistinct, list_any}

-- What a contract sees of rows that were found: the rows, each once, in the order in which they
-- were found, and the room, below which each row can be marked.
pub record RowSetValue : Type 0 where
  pub rows : List ℕ
  pub room : ℕ

-- the mark of a row, 0 or 1: the bit at its number, in numbers of 64 bits
abbrev pub mark_of : (marks : List ℕ) → (row : ℕ) → ℕ
mark_of marks row = bit_at (slice_index_or marks (row / 64) 0) (row % 64)

-- Rows come once each, and just these rows are marked.
pub record AreMarked (marks rows : List ℕ) : Type 0 where
  pub distinct : IsDistinct nat_eq rows
  pub marked : (row : ℕ) → nat_eq (mark_of marks row) 1 ≡ list_any (nat_eq row) rows
