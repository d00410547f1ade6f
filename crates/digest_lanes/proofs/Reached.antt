-- How far each text is, after some blocks of each.
use Rattle.std.proofs.Common.{◌≡◌, ◌≢◌, ℕ, ◌+◌, ◌*◌, ◌/◌, ◌<◌, ◌≤◌, List, [], ◌∷◌, length, take, drop, slice_index_or, refl, sym, ap, ap₂, ◌∙◌, arith, inl, inr}
use Rattle.std.proofs.lemmas.Bool.{cases_lt}
use Rattle.sha2.specs.Sha256.{compress, digest_bytes, hash_after, initial_hash_256, padded_message, sha256}
use Rattle.sha2.proofs.Absorbing256.{hash_after_next}
use Rattle.digest_lanes.specs.private.Lanes.{one_of}
use Rattle.digest_lanes.proofs.BlockLemmas.{length-padded}

-- how many blocks a text and its padding have
abbrev pub count : List ℕ → ℕ
count text = length (padded_message text) / 64

-- after n blocks the hash value is h, up to the text's last block, and from it on out is its digest
abbrev pub HasReached : List ℕ → List ℕ → List ℕ → ℕ → Type 0
HasReached text h out n =
    (n ≤ count text → h ≡ hash_after initial_hash_256 (padded_message text) n)
    × (count text ≤ n → out ≡ sha256 text)

pub reached_none : (text h out : List ℕ) → h ≡ initial_hash_256 → HasReached text h out 0
unfolding hash_after
reached_none text h out e = (λ _. e, λ none. absurd (omega (arith, length-padded text)))

-- a digest is the bytes of the hash value after the last block
pub digest_is : (text h : List ℕ) → h ≡ hash_after initial_hash_256 (padded_message text) (count text) → digest_bytes h 8 ≡ sha256 text
unfolding sha256
digest_is text h e = ap (λ (x : List ℕ). digest_bytes x 8) e

-- one more block
pub reached_next : (text h x next old out : List ℕ) (n end : ℕ) → HasReached text h old n → end ≡ count text
    → (n < count text → x ≡ take 64 (drop (n * 64) (padded_message text)))
    → next ≡ compress h x
    → (n + 1 ≡ end → out ≡ digest_bytes next 8) → (n + 1 ≢ end → out ≡ old)
    → HasReached text next out (n + 1)
reached_next text h x next old out n end held last block step ends goes_on =
    let hash : n + 1 ≤ count text → next ≡ hash_after initial_hash_256 (padded_message text) (n + 1) =
    λ le. step ∙ ap₂ compress (held.0 (omega arith)) (block (omega arith)) ∙ sym (hash_after_next initial_hash_256 (padded_message text) n) in (
      hash,
      λ le. elim (cases_lt n (count text)) [
        | inl lt ↦
            let e : n + 1 ≡ count text = omega arith in
            ends (e ∙ sym last) ∙ digest_is text next (hash (omega arith) ∙ ap (hash_after initial_hash_256 (padded_message text)) e)
        | inr ge ↦
            let ne : n + 1 ≢ end = omega arith in
            goes_on ne ∙ held.1 ge
      ],
    )

-- four digests, each by its place
pub four_are : (out : List (List ℕ)) (a b c d : List ℕ) → length out ≡ 4
    → ((j : ℕ) → j < 4 → slice_index_or out j [] ≡ sha256 (one_of a b c d j))
    → out ≡ sha256 a ∷ sha256 b ∷ sha256 c ∷ sha256 d ∷ []
four_are (p ∷ q ∷ r ∷ s ∷ []) a b c d l h =
    rw (h 0 (omega arith), h 1 (omega arith), h 2 (omega arith), h 3 (omega arith)) refl
four_are [] a b c d l h = absurd (omega arith)
four_are (p ∷ []) a b c d l h = absurd (omega arith)
four_are (p ∷ q ∷ []) a b c d l h = absurd (omega arith)
four_are (p ∷ q ∷ r ∷ []) a b c d l h = absurd (omega arith)
four_are (p ∷ q ∷ r ∷ s ∷ t ∷ out) a b c d l h = absurd (omega arith)
