-- Four texts side by side: each word is a vector, with one lane for each text.
use Rattle.std.specs.Prelude.{ℕ, ◌+◌, ◌*◌, ◌/◌, ◌≤◌, max, List, [], ◌∷◌, length, map, slice_index, slice_index_or}
use Rattle.sha2.specs.Sha256.{padded_message}

-- the word of text j in each vector
abbrev pub lane : ℕ → List (List ℕ) → List ℕ
lane j vectors = map (λ v. slice_index v j) vectors

-- the bytes of text j of four
abbrev pub one_of : List ℕ → List ℕ → List ℕ → List ℕ → ℕ → List ℕ
one_of a b c d j = slice_index_or (a ∷ b ∷ c ∷ d ∷ []) j []

-- how many blocks a text and its padding have
abbrev pub blocks : List ℕ → ℕ
blocks text = length (padded_message text) / 64

-- none of four counts is more than half of their sum
abbrev pub NoneExceedsHalf : (a b c d : ℕ) → Type 0
NoneExceedsHalf a b c d = 2 * max (max (max a b) c) d ≤ a + b + c + d
