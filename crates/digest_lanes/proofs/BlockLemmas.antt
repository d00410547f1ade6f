-- The blocks of a padded message, by where they lie in it.
use Rattle.std.proofs.Common.{◌≡◌, ℕ, ◌+◌, ◌-◌, ◌*◌, ◌/◌, ◌%◌, ◌^◌, ◌<◌, ◌≤◌, List, ◌∷◌, ◌++◌, length, take, drop, replicate, slice_set, refl, sym, ap, ◌∙◌, arith, add-one}
use Rattle.std.proofs.lemmas.List.{append-nil, append_assoc, drop_all, drop_at, drop-append-le, drop-replicate, length-append, length-drop, length-replicate, replicate-append-replicate, set_at, take_all, take_at, take-append-le}
use Rattle.std.specs.Int.{w64, to_be_bytes}
use Rattle.sha2.specs.Sha256.{padded_message}
use borrow.Rule.Slice.PartMut.{put_mid}

-- the length field of a message's padding
abbrev pub field : List ℕ → List ℕ
field m = to_be_bytes w64 (length m * 8 % 2 ^ 64)

pub opened_is : (rest ys zs : List ℕ) → ys ≡ rest → zs ≡ replicate 64 0 → length rest < 64
    → slice_set (ys ++ drop (length rest) zs) (length rest) 0x80 ≡ rest ++ 0x80 ∷ replicate (63 - length rest) 0
opened_is rest ys zs ey ez short =
    let left : 64 - length rest ≡ (63 - length rest) + 1 = omega arith in
    rw (ey, ez, drop-replicate {X = ℕ} (length rest) 64 0, left, add-one)
    (set_at rest 0 (replicate (63 - length rest) 0) 0x80 (length rest) refl)

pub closed_is : (block ys l : List ℕ) → length block ≡ 64 → ys ≡ l → put_mid 56 8 block ys ≡ take 56 block ++ l
closed_is block ys l long e =
    rw (e, drop_all 8 (drop 56 block) (omega (arith, length-drop 56 block)), append-nil l) refl

-- a block of the message itself
pub whole_is : (m ys : List ℕ) (i a n : ℕ) → i < length m / 64 → a ≡ i * 64 → n ≡ 64 → ys ≡ take n (drop a m)
    → ys ≡ take 64 (drop (i * 64) (padded_message m))
whole_is m ys i a n low ea en e =
    let tail : List ℕ = 0x80 ∷ replicate ((119 - length m % 64) % 64) 0 ++ field m in
    let fits : 64 ≤ length (drop (i * 64) m) = omega (arith, length-drop (i * 64) m) in
    e ∙ rw (ea, en, drop-append-le (i * 64) m tail (omega arith), take-append-le 64 (drop (i * 64) m) tail fits) refl

-- where the length field does not fit after the message's last bytes: the message up to a block's
-- edge, and the last block
abbrev upper : List ℕ → List ℕ
upper m = m ++ 0x80 ∷ replicate (63 - length m % 64) 0

abbrev last : List ℕ → List ℕ
last m = replicate 56 0 ++ field m

two_blocks : (m : List ℕ) → 56 ≤ length m % 64 → padded_message m ≡ upper m ++ last m
two_blocks m low =
    let r : ℕ = length m % 64 in
    let zeros : replicate ((119 - r) % 64) 0 ≡ replicate (63 - r) 0 ++ replicate 56 0 =
    ap (λ (k : ℕ). replicate k 0) (omega arith) ∙ sym (replicate-append-replicate {A = ℕ} (63 - r) 56 0) in
    ap (λ (z : List ℕ). m ++ (0x80 ∷ z ++ field m)) zeros
    ∙ ap (λ (y : List ℕ). m ++ (0x80 ∷ y)) (append_assoc (replicate (63 - r) 0) (replicate 56 0) (field m))
    ∙ sym (append_assoc m (0x80 ∷ replicate (63 - r) 0) (last m))

length-upper : (m : List ℕ) → length (upper m) ≡ length m + (1 + (63 - length m % 64))
length-upper m =
    length-append m (0x80 ∷ replicate (63 - length m % 64) 0)
    ∙ ap (λ (k : ℕ). length m + k) (omega (arith, length-replicate {A = ℕ} (63 - length m % 64) 0))

pub length-padded : (m : List ℕ) → length (padded_message m) ≡ length m + (9 + (119 - length m % 64) % 64)
length-padded m =
    let z : ℕ = (119 - length m % 64) % 64 in
    let tail = length-append (0x80 ∷ replicate z 0) (field m) in
    omega (arith, length-append m (0x80 ∷ replicate z 0 ++ field m), tail, length-replicate {A = ℕ} z 0)

length-last : (m : List ℕ) → length (last m) ≡ 64
length-last m = omega (arith, length-append (replicate 56 0) (field m))

-- the last block, where the message ends before it
pub last_is : (m l : List ℕ) (i : ℕ) → length m / 64 < i → i < length (padded_message m) / 64 → l ≡ field m
    → take 56 (replicate 64 0) ++ l ≡ take 64 (drop (i * 64) (padded_message m))
last_is m l i low high e =
    let size = length-padded m in
    let late : 56 ≤ length m % 64 = omega arith in
    let edge : length (upper m) ≡ i * 64 = omega (arith, length-upper m) in
    rw (e, two_blocks m late, drop_at (upper m) (last m) (i * 64) edge, take_all 64 (last m) (omega (arith, length-last m))) refl

-- the block in which the message ends, with room for the length field
pub short_is : (m rest l : List ℕ) (i a : ℕ) → rest ≡ drop a m → a ≡ i * 64 → i ≡ length m / 64 → length rest < 56 → l ≡ field m
    → take 56 (rest ++ 0x80 ∷ replicate (63 - length rest) 0) ++ l ≡ take 64 (drop (i * 64) (padded_message m))
short_is m rest l i a from ea ei short el =
    let er : rest ≡ drop (i * 64) m = from ∙ ap (λ (k : ℕ). drop k m) ea in
    let r : ℕ = length rest in
    let at : r ≡ length m % 64 = omega (arith, ap length er, length-drop (i * 64) m) in
    let pad : (119 - length m % 64) % 64 ≡ 55 - r = omega arith in
    let body : List ℕ = rest ++ 0x80 ∷ replicate (55 - r) 0 in
    let size : length body ≡ 56 = omega (arith, length-append rest (0x80 ∷ replicate (55 - r) 0), length-replicate {A = ℕ} (55 - r) 0) in
    let zeros : replicate (63 - r) 0 ≡ replicate (55 - r) 0 ++ replicate 8 0 =
    ap (λ (k : ℕ). replicate k 0) (omega arith) ∙ sym (replicate-append-replicate {A = ℕ} (55 - r) 8 0) in
    let front : take 56 (rest ++ 0x80 ∷ replicate (63 - r) 0) ≡ body =
    ap (λ (z : List ℕ). take 56 (rest ++ 0x80 ∷ z)) zeros
    ∙ ap (take 56) (sym (append_assoc rest (0x80 ∷ replicate (55 - r) 0) (replicate 8 0)))
    ∙ take_at body (replicate 8 0) 56 size in
    let tail : List ℕ = 0x80 ∷ replicate (55 - r) 0 ++ field m in
    let end : drop (i * 64) (m ++ tail) ≡ body ++ field m =
    drop-append-le (i * 64) m tail (omega arith) ∙ ap (λ (y : List ℕ). y ++ tail) (sym er)
    ∙ sym (append_assoc rest (0x80 ∷ replicate (55 - r) 0) (field m)) in
    rw (front, el, pad, end) (sym (take_all 64 (body ++ field m) (omega (arith, length-append body (field m)))))

-- the block in which the message ends, with no room for the length field
pub long_is : (m rest : List ℕ) (i a : ℕ) → rest ≡ drop a m → a ≡ i * 64 → i ≡ length m / 64 → 56 ≤ length rest
    → rest ++ 0x80 ∷ replicate (63 - length rest) 0 ≡ take 64 (drop (i * 64) (padded_message m))
long_is m rest i a from ea ei long =
    let er : rest ≡ drop (i * 64) m = from ∙ ap (λ (k : ℕ). drop k m) ea in
    let at : length m % 64 ≡ length rest = omega (arith, ap length er, length-drop (i * 64) m) in
    let x : List ℕ = 0x80 ∷ replicate (63 - length rest) 0 in
    let block : drop (i * 64) (m ++ x) ≡ rest ++ x =
    drop-append-le (i * 64) m x (omega arith) ∙ ap (λ (y : List ℕ). y ++ x) (sym er) in
    let size : length (rest ++ x) ≡ 64 = omega (arith, length-append rest x, length-replicate {A = ℕ} (63 - length rest) 0) in
    let whole : drop (i * 64) ((m ++ x) ++ last m) ≡ (rest ++ x) ++ last m =
    drop-append-le (i * 64) (m ++ x) (last m) (omega (arith, length-append m x)) ∙ ap (λ (y : List ℕ). y ++ last m) block in
    rw (two_blocks m (omega arith), at, whole) (sym (take_at (rest ++ x) (last m) 64 size))
