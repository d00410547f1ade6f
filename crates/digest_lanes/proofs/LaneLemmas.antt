-- What an operator on vectors does to each lane, and the words of a text among vectors.
use Rattle.std.proofs.Common.{◌≡◌, ℕ, zero, suc, ◌-◌, ◌*◌, ◌/◌, ◌%◌, ◌^◌, ◌<◌, List, [], ◌∷◌, length, slice_index, slice_index_or, bit_or, arith, refl, ap, ap₂, ◌∙◌}
use Rattle.std.proofs.lemmas.List.{get_or-map}
use Rattle.std.proofs.lemmas.Simd.{Each1-get_or, below_from_Fits, get_or-zip2, length-zip2}
use Rattle.std.specs.Simd.Lanes.{Each1, zip2}
use Rattle.std.specs.Int.{w32, rotate_right}
use mir.Val.{Fits}
use Rattle.digest_lanes.specs.private.Lanes.{lane}

-- what holds of each of the four lanes
pub below_four : (P : ℕ → Type 0) → P 0 → P 1 → P 2 → P 3 → (j : ℕ) → j < 4 → P j
below_four P p0 p1 p2 p3 zero h = p0
below_four P p0 p1 p2 p3 (suc zero) h = p1
below_four P p0 p1 p2 p3 (suc (suc zero)) h = p2
below_four P p0 p1 p2 p3 (suc (suc (suc zero))) h = p3
below_four P p0 p1 p2 p3 (suc (suc (suc (suc n)))) h = absurd (omega arith)

-- lane j of two vectors under an operator
pub lane_of_two : (f : ℕ → ℕ → ℕ) (x y : List ℕ) (j : ℕ) → length x ≡ 4 → length y ≡ 4 → j < 4
    → slice_index (zip2 f x y) j ≡ f (slice_index x j) (slice_index y j)
lane_of_two f x y j lx ly h = get_or-zip2 f x y j 0 0 0 (omega arith) (omega arith)

pub length_of_two : (f : ℕ → ℕ → ℕ) (x y : List ℕ) → length x ≡ 4 → length y ≡ 4 → length (zip2 f x y) ≡ 4
length_of_two f x y lx ly = length-zip2 f x y (omega arith) ∙ lx

pub lane_of_same : (k j : ℕ) → j < 4 → slice_index (k ∷ k ∷ k ∷ k ∷ []) j ≡ k
lane_of_same k = below_four (λ i. slice_index (k ∷ k ∷ k ∷ k ∷ []) i ≡ k) refl refl refl refl

-- lane j of a vector and the same number in each lane
pub lane_with : (f : ℕ → ℕ → ℕ) (x : List ℕ) (k j : ℕ) → length x ≡ 4 → j < 4
    → slice_index (zip2 f x (k ∷ k ∷ k ∷ k ∷ [])) j ≡ f (slice_index x j) k
lane_with f x k j lx h =
    lane_of_two f x (k ∷ k ∷ k ∷ k ∷ []) j lx refl h
    ∙ ap (f (slice_index x j)) (lane_of_same k j h)

-- two shifts of each lane and an or are a rotation
pub shifts_rotate : (x : List ℕ) (k j : ℕ) → length x ≡ 4 → 0 < k → k < 32 → j < 4
    → slice_index (zip2 bit_or (zip2 (λ a n. a / 2 ^ n) x (k ∷ k ∷ k ∷ k ∷ []))
    (zip2 (λ a n. a * 2 ^ n % 2 ^ 32) x ((32 - k) ∷ (32 - k) ∷ (32 - k) ∷ (32 - k) ∷ []))) j
    ≡ rotate_right w32 (slice_index x j) k
shifts_rotate x k j lx low high h =
    let right : k % 32 ≡ k = omega arith in
    let left : (32 - k) % 32 ≡ 32 - k = omega arith in
    lane_of_two bit_or _ _ j (length_of_two _ x (k ∷ k ∷ k ∷ k ∷ []) lx refl)
    (length_of_two _ x ((32 - k) ∷ (32 - k) ∷ (32 - k) ∷ (32 - k) ∷ []) lx refl) h
    ∙ ap₂ bit_or (lane_with (λ a n. a / 2 ^ n) x k j lx h) (lane_with (λ a n. a * 2 ^ n % 2 ^ 32) x (32 - k) j lx h)
    ∙ rw (right, left) refl

-- a lane of a vector is a word
pub lane_fits : (x : List ℕ) (j : ℕ) → length x ≡ 4 → Each1 (Fits w32) x → j < 4 → slice_index x j < 2 ^ 32
lane_fits x j lx each h = Each1-get_or (λ n. n < 2 ^ 32) x j 0 (omega arith) (below_from_Fits w32 x each)

-- word i of text j
pub slice_index-lane : (v : List (List ℕ)) (j i : ℕ) → i < length v → slice_index (lane j v) i ≡ slice_index (slice_index_or v i []) j
slice_index-lane v j i h = get_or-map (λ x. slice_index x j) v i [] 0 h

pub lane_eight : (v : List (List ℕ)) (j : ℕ) → length v ≡ 8
    → lane j v ≡ slice_index (slice_index_or v 0 []) j ∷ slice_index (slice_index_or v 1 []) j
    ∷ slice_index (slice_index_or v 2 []) j ∷ slice_index (slice_index_or v 3 []) j
    ∷ slice_index (slice_index_or v 4 []) j ∷ slice_index (slice_index_or v 5 []) j
    ∷ slice_index (slice_index_or v 6 []) j ∷ slice_index (slice_index_or v 7 []) j ∷ []
lane_eight (a ∷ b ∷ c ∷ d ∷ e ∷ f ∷ g ∷ h ∷ []) j l = refl
lane_eight [] j l = absurd (omega arith)
lane_eight (a ∷ []) j l = absurd (omega arith)
lane_eight (a ∷ b ∷ []) j l = absurd (omega arith)
lane_eight (a ∷ b ∷ c ∷ []) j l = absurd (omega arith)
lane_eight (a ∷ b ∷ c ∷ d ∷ []) j l = absurd (omega arith)
lane_eight (a ∷ b ∷ c ∷ d ∷ e ∷ []) j l = absurd (omega arith)
lane_eight (a ∷ b ∷ c ∷ d ∷ e ∷ f ∷ []) j l = absurd (omega arith)
lane_eight (a ∷ b ∷ c ∷ d ∷ e ∷ f ∷ g ∷ []) j l = absurd (omega arith)
lane_eight (a ∷ b ∷ c ∷ d ∷ e ∷ f ∷ g ∷ h ∷ i ∷ v) j l = absurd (omega arith)
