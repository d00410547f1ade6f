-- One reading after another: what is known of both.
use Rattle.std.proofs.Common.{◌≡◌, ℕ, ◌≤◌, List, [], ◌++◌, length, Result, Ok, Err, refl, ap, append_assoc, arith, rules}
use Rattle.std.proofs.lemmas.List.{length-append}
use Rattle.nix_drv.specs.private.Reading.{◌>>=◌, before, left_of}

-- a prefix of which so many bytes of s are left
pub record StopsAt (Prefix : List ℕ → Type 0) (s : List ℕ) (left : ℕ) : Type 0 where
  pub prefix : List ℕ
  pub rest : List ℕ
  pub parts : s ≡ prefix ++ rest
  pub is_prefix : Prefix prefix
  pub is_left : length rest ≡ left

-- what was read is the text before the rest, and a fault stands after a prefix
abbrev pub Told : {A : Type 0} → (A → List ℕ) → (List ℕ → Type 0) → List ℕ → Result (A × List ℕ) ℕ
    → Type 0
Told text_of Prefix s (Ok x) = s ≡ text_of x.0 ++ x.1
Told text_of Prefix s (Err left) = StopsAt Prefix s left

-- no prefix leaves less than the reading
abbrev pub Longest : {A : Type 0} → (List ℕ → Type 0) → (List ℕ → Result (A × List ℕ) ℕ) → Type 0
Longest Prefix reading = (prefix rest : List ℕ) → Prefix prefix → left_of (reading (prefix ++ rest))
    ≤ length rest

pub le_by_prefix : (s prefix rest : List ℕ) → s ≡ prefix ++ rest → length rest ≤ length s
le_by_prefix s prefix rest e = omega (arith, ap length e, length-append prefix rest)

pub told_shrinks : {A : Type 0} (text_of : A → List ℕ) (Prefix : List ℕ → Type 0) (s : List ℕ)
    (reading : Result (A × List ℕ) ℕ) → Told text_of Prefix s reading → left_of reading ≤ length s
told_shrinks text_of Prefix s (Ok x) told = le_by_prefix s _ _ told
told_shrinks text_of Prefix s (Err left) told = search (rules, le_by_prefix)

-- what follows leaves no more
pub bind_shrinks : {A B : Type 0} (reading : Result (A × List ℕ) ℕ)
    (next : A × List ℕ → Result (B × List ℕ) ℕ) → ((x : A × List ℕ) → left_of (next x) ≤ length x.1)
    → left_of (reading >>= next) ≤ left_of reading
bind_shrinks (Ok x) next h = h x
bind_shrinks (Err left) next h = omega arith

pub left-before : {A : Type 0} (prefix : List A) (reading : Result (List A × List ℕ) ℕ)
    → left_of (before prefix reading) ≡ left_of reading
left-before prefix (Ok x) = refl
left-before prefix (Err left) = refl

pub before_none : {A : Type 0} (reading : Result (List A × List ℕ) ℕ) → before [] reading ≡ reading
before_none (Ok x) = refl
before_none (Err left) = refl

pub before-before : {A : Type 0} (prefix more : List A) (reading : Result (List A × List ℕ) ℕ)
    → before prefix (before more reading) ≡ before (prefix ++ more) reading
before-before prefix more (Ok x) = search (rules, append_assoc, prefix)
before-before prefix more (Err left) = refl
