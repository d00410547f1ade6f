-- The length and the digest of bytes that come in pieces.
use Rattle.std.specs.Prelude.{◌≡◌, ◌<◌, ◌+◌, ◌-◌, ◌^◌, ℕ, List, ◌++◌, length, min}
use Rattle.nix_archive.specs.Trees.{Bytes}

-- The count is that of the bytes, or 2^64 - 1 if they are more, and the hasher holds them. So a count
-- below 2^64 - 1 is the length.
pub record IsSum {D : Type 0} (holds : D → List ℕ → Type 0) (bytes : Bytes) (count : ℕ) (hasher : D)
    : Type 0 where
  pub counted : count ≡ min (length bytes) (2 ^ 64 - 1)
  pub held : holds hasher bytes

-- A count, which is a number of 64 bits, and a hasher became others by some bytes.
pub record IsSummed {D : Type 0} (holds : D → List ℕ → Type 0) (bytes : Bytes) (count : ℕ)
    (hasher : D) (counts : ℕ) (hashes : D) : Type 0 where
  pub counted : count < 2 ^ 64 → counts ≡ min (count + length bytes) (2 ^ 64 - 1)
  pub held : (before : Bytes) → holds hasher before → holds hashes (before ++ bytes)
