-- Numbers and their digits to a base.
use Rattle.std.proofs.Common.{◌≡◌, ◌+◌, ◌*◌, ◌/◌, ◌%◌, ◌^◌, ◌<◌, ◌≤◌, ℕ, zero, suc, List, [], ◌∷◌, ◌++◌, length, take, drop, get_or, refl, sym, ap, ◌∙◌, arith, rules}
use Rattle.std.proofs.Math.Nat.{pow-zero, pow-suc, pow-succ', div-one, zero-div, div-div-eq-div-mul, mod-add-div, mul-le-mul_left}
use Rattle.std.proofs.lemmas.Nat.{div-mul-add, mod-mul-add, div_below, mod_below}
use Rattle.std.proofs.lemmas.List.Elements.{All-nil, All-cons, All-head, All-tail}
use Rattle.std.proofs.lemmas.List.{take_more}
use Rattle.std.specs.List.{All}
use Rattle.nix_names.specs.Base32.{number, digits_of}

-- a number without its least significant digit
pub rest_of_number : (base d n : ℕ) → d < base → (d + base * n) / base ≡ n
rest_of_number base d n h = search (rules, div-mul-add)

-- the least significant digit of a number
pub digit_of_number : (base d n : ℕ) → d < base → (d + base * n) % base ≡ d
digit_of_number base d n h =
    let e : d + base * n ≡ n * base + d = omega arith in
    rw e (mod-mul-add n base d h)

-- the number of the digits from an index on
pub number_div : (base : ℕ) (ds : List ℕ) (i : ℕ) → All (λ d. d < base) ds
    → number base ds / base ^ i ≡ number base (drop i ds)
number_div base ds zero below = rw (pow-zero base) (div-one (number base ds))
number_div base [] (suc i) below = zero-div (base ^ suc i)
number_div base (d ∷ ds) (suc i) below =
    rw (
      pow-succ' base i,
      ← div-div-eq-div-mul (d + base * number base ds) base (base ^ i),
      rest_of_number base d (number base ds) (All-head (λ d. d < base) d ds below),
    )
    (number_div base ds i (All-tail (λ d. d < base) d ds below))

-- a number below the power is that of its digits
pub number_digits_of : (base k n : ℕ) → 0 < base → n < base ^ k → number base (digits_of base k n)
    ≡ n
number_digits_of base zero n some small = search (rules, pow-zero)
number_digits_of base (suc k) n some small =
    let h : n < base ^ k * base = rw (pow-suc base k) at small in
    rw (number_digits_of base k (n / base) some (div_below n base (base ^ k) some h))
    (mod-add-div n base)

-- digits are those of their number
pub digits_of_number : (base : ℕ) (ds : List ℕ) → All (λ d. d < base) ds
    → digits_of base (length ds) (number base ds) ≡ ds
digits_of_number base [] below = refl
digits_of_number base (d ∷ ds) below =
    let first = All-head (λ d. d < base) d ds below in
    rw (digit_of_number base d (number base ds) first, rest_of_number base d (number base ds) first)
    (ap (λ l. d ∷ l) (digits_of_number base ds (All-tail (λ d. d < base) d ds below)))

pub length_digits_of : (base k n : ℕ) → length (digits_of base k n) ≡ k
length_digits_of base zero n = refl
length_digits_of base (suc k) n = ap suc (length_digits_of base k (n / base))

pub digits_of_below : (base k n : ℕ) → 0 < base → All (λ d. d < base) (digits_of base k n)
digits_of_below base zero n some = All-nil (λ d. d < base)
digits_of_below base (suc k) n some =
    search (rules, All-cons, mod_below, digits_of_below base k (n / base) some)

-- the digit at an index
pub digits_of_at : (base k n i : ℕ) → i < k → get_or (digits_of base k n) i 0 ≡ n / base ^ i % base
digits_of_at base zero n i h = omega arith
digits_of_at base (suc k) n zero h = rw (pow-zero base, div-one n)
digits_of_at base (suc k) n (suc i) h =
    rw (pow-succ' base i, ← div-div-eq-div-mul n base (base ^ i))
    (digits_of_at base k (n / base) i (omega arith))

-- so many digits are a number below that power
pub number_below : (base : ℕ) (ds : List ℕ) → All (λ d. d < base) ds → number base ds
    < base ^ length ds
number_below base [] below = rw (pow-zero base) (omega arith)
number_below base (d ∷ ds) below =
    let first : d < base = All-head (λ d. d < base) d ds below in
    let rest = number_below base ds (All-tail (λ d. d < base) d ds below) in
    let wide : base * (number base ds + 1) ≤ base * base ^ length ds =
    mul-le-mul_left base (omega arith) in
    rw (pow-succ' base (length ds)) (omega arith)

-- a list that is the first digits, and one digit more
pub digits_of_push : (base k n i : ℕ) (before after : List ℕ) (digit : ℕ) → i < k → before
    ≡ take i (digits_of base k n) → digit ≡ n / base ^ i % base → after ≡ before ++ digit ∷ []
    → after ≡ take (i + 1) (digits_of base k n)
digits_of_push base k n i before after digit h first next pushed =
    let more = take_more (digits_of base k n) i 0 (omega (arith, length_digits_of base k n)) in
    pushed ∙ rw (first, next, ← digits_of_at base k n i h) (sym more)
