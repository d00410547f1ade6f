-- Bytes, and their order.
use Rattle.std.proofs.Common.{◌≡◌, ◌∙◌, ℕ, zero, suc, ◌<◌, ◌≤◌, ◌+◌, ◌-◌, ◌⊎◌, inl, inr, None, [], ◌∷◌, ◌++◌, length, refl, ap, sym, subst, append_assoc, arith, length-append, drop}
use Rattle.std.proofs.Math.ListN.{replicate}
use Rattle.std.proofs.lemmas.Bool.{cases_order}
use Rattle.std.proofs.lemmas.List.{get_or-append-add}
use Rattle.std.specs.Prelude.{slice_index}
use Rattle.std.specs.Cmp.Lexicographic.{slice_cmp}
use Rattle.std.specs.Ordering.{nat_cmp, ordering_then}
use Rattle.std.specs.Cmp.{nat_cmp_is}
use Rattle.std.specs.declared.cmp.Ordering.TheVariants.{Less, Equal, Greater}
use Rattle.nix_archive.specs.declared.mode.Tie.TheVariants.{Tied}
use Rattle.nix_archive.specs.Trees.{AreBytes, Bytes, IsAfter}
use Rattle.nix_archive.specs.private.Ready.{IsBar, IsPassed, IsTied, IsTiedOn, MayShare}

pub no_bytes : AreBytes []
no_bytes i = omega arith

pub one_more : (byte : ℕ) (bytes : Bytes) → byte < 256 → AreBytes bytes → AreBytes (byte ∷ bytes)
one_more byte bytes lt h zero = lt
one_more byte bytes lt h (suc i) = h i

pub others : (byte : ℕ) (bytes : Bytes) → AreBytes (byte ∷ bytes) → AreBytes bytes
others byte bytes h = λ i. h (suc i)

pub both_bytes : (front back : Bytes) → AreBytes front → AreBytes back → AreBytes (front ++ back)
both_bytes [] back a b = b
both_bytes (x ∷ xs) back a b =
    one_more x (xs ++ back) (a 0) (both_bytes xs back (others x xs a) b)

pub byte_more : (seen more : Bytes) (byte : ℕ) → AreBytes seen → byte < 256
    → more ≡ seen ++ byte ∷ [] → AreBytes more
byte_more seen more byte are lt e =
    subst AreBytes (sym e) (both_bytes seen (byte ∷ []) are (one_more byte [] lt no_bytes))

pub back_bytes : (front back : Bytes) → AreBytes (front ++ back) → AreBytes back
back_bytes [] back h = h
back_bytes (x ∷ xs) back h = back_bytes xs back (others x (xs ++ back) h)

pub front_bytes : (front back : Bytes) → AreBytes (front ++ back) → AreBytes front
front_bytes [] back h = no_bytes
front_bytes (x ∷ xs) back h =
    one_more x xs (h 0) (front_bytes xs back (others x (xs ++ back) h))

pub same_bytes : (n byte : ℕ) → byte < 256 → AreBytes (replicate n byte)
same_bytes zero byte lt = no_bytes
same_bytes (suc n) byte lt = one_more byte (replicate n byte) lt (same_bytes n byte lt)

-- the first byte decides
pub lower_after : (x y : ℕ) (xs ys : Bytes) → x < y → IsAfter (x ∷ xs) (y ∷ ys)
lower_after x y xs ys lt =
    subst (λ o. ordering_then o (slice_cmp nat_cmp xs ys) ≡ Less) (nat_cmp_is x y Less lt) refl

pub higher_not : (x y : ℕ) (xs ys : Bytes) → y < x → IsAfter (x ∷ xs) (y ∷ ys) → ⊥
higher_not x y xs ys lt h =
    let k : Greater ≡ Less = subst (λ o. ordering_then o (slice_cmp nat_cmp xs ys) ≡ Less)
    (sym (nat_cmp_is x y Greater lt)) h in cc

-- what both begin with does not
pub shared_after : (shared xs ys : Bytes) → IsAfter xs ys → IsAfter (shared ++ xs) (shared ++ ys)
shared_after [] xs ys h = h
shared_after (s ∷ ss) xs ys h =
    subst (λ o. ordering_then o (slice_cmp nat_cmp (ss ++ xs) (ss ++ ys)) ≡ Less)
    (nat_cmp_is s s Equal refl) (shared_after ss xs ys h)

pub unshared_after : (shared xs ys : Bytes) → IsAfter (shared ++ xs) (shared ++ ys) → IsAfter xs ys
unshared_after [] xs ys h = h
unshared_after (s ∷ ss) xs ys h =
    unshared_after ss xs ys
    (subst (λ o. ordering_then o (slice_cmp nat_cmp (ss ++ xs) (ss ++ ys)) ≡ Less)
    (sym (nat_cmp_is s s Equal refl)) h)

-- a byte is 255 or lower
pub highest : (byte : ℕ) → byte < 256 → (byte ≡ 255) ⊎ (byte < 255)
highest byte lt =
    elim (cases_order byte 255) [
      | inl e ↦ inl e
      | inr w ↦ elim w [ inl l ↦ inr l | inr g ↦ absurd (omega (arith, g, lt)) ]
    ]

first_same : (x : ℕ) (xs ys : Bytes) → x ≡ 255 → IsAfter xs ys → IsAfter (x ∷ xs) (255 ∷ ys)
first_same x xs ys e h = subst (λ b. IsAfter (b ∷ xs) (255 ∷ ys)) (sym e)
    (shared_after (255 ∷ []) xs ys h)

-- bytes of 255 come after fewer bytes
pub short_passed : (before : Bytes) (size : ℕ) → AreBytes before → length before < size
    → IsPassed before size
short_passed before zero h lt = absurd (omega (arith, lt))
short_passed [] (suc n) h lt = refl
short_passed (x ∷ xs) (suc n) h lt =
    elim (highest x (h 0)) [
      | inl e ↦ first_same x xs (replicate n 255) e
          (short_passed xs n (others x xs h) (omega (arith, lt)))
      | inr l ↦ lower_after x 255 xs (replicate n 255) l
    ]

-- and after bytes of which one is lower
pub low_passed : (before : Bytes) (offset size : ℕ) → AreBytes before → offset < size
    → slice_index before offset < 255 → offset < length before → IsPassed before size
low_passed before offset zero h lt low le = absurd (omega (arith, lt))
low_passed [] offset (suc n) h lt low le = refl
low_passed (x ∷ xs) zero (suc n) h lt low le = lower_after x 255 xs (replicate n 255) low
low_passed (x ∷ xs) (suc offset) (suc n) h lt low le =
    elim (highest x (h 0)) [
      | inl e ↦ first_same x xs (replicate n 255) e
          (low_passed xs offset n (others x xs h) (omega (arith, lt)) low (omega (arith, le)))
      | inr l ↦ lower_after x 255 xs (replicate n 255) l
    ]

pub none_after : (before : Bytes) → IsAfter before [] → ⊥
none_after [] h = cc
none_after (x ∷ xs) h = cc

-- no bytes come after bytes of 255
pub high_bar : (before : Bytes) (size : ℕ) → size ≤ length before
    → ((i : ℕ) → i < size → slice_index before i ≡ 255) → IsBar before size
high_bar before zero le all [] long h a = none_after before a
high_bar before zero le all (y ∷ ys) long h a = absurd (omega (arith, long))
high_bar before (suc n) le all [] long h a = absurd (omega (arith, long))
high_bar [] (suc n) le all (y ∷ ys) long h a = absurd (omega (arith, le))
high_bar (x ∷ xs) (suc n) le all (y ∷ ys) long h a =
    let first : x ≡ 255 = all 0 (omega arith) in
    elim (highest y (h 0)) [
      | inl e ↦ high_bar xs n (omega (arith, le)) (λ i lt. all (suc i) (omega (arith, lt))) ys
          (omega (arith, long)) (others y ys h)
          (unshared_after (255 ∷ []) xs ys
          (subst (λ b. IsAfter (255 ∷ xs) (b ∷ ys)) e (subst (λ b. IsAfter (b ∷ xs) (y ∷ ys)) first a)))
      | inr l ↦ higher_not x y xs ys (omega (arith, first, l)) a
    ]

-- names of more bytes than the one before may share all of these
pub share_all : (before : Bytes) (size : ℕ) → AreBytes before → length before < size
    → MayShare (length before) size before
share_all before size h lt shared rest e le =
    let long : length before ≡ length shared + length rest =
    ap length e ∙ length-append shared rest in (
      λ l. short_passed rest (size - length shared)
          (back_bytes shared rest (subst AreBytes e h))
          (omega (arith, long, lt)),
      λ l. absurd (omega (arith, long, l)),
    )

-- names of at most as many bytes share those before its last lower one at most
pub share_low : (before : Bytes) (most size : ℕ) → AreBytes before → size ≤ length before
    → most < size → slice_index before most < 255
    → ((i : ℕ) → most < i → i < size → slice_index before i ≡ 255) → MayShare most size before
share_low before most size h within lt low all shared rest e le =
    let long : length before ≡ length shared + length rest =
    ap length e ∙ length-append shared rest in
    let at : (i : ℕ) → slice_index before (length shared + i) ≡ slice_index rest i = λ i.
    ap (λ l. slice_index l (length shared + i)) e ∙ get_or-append-add shared rest i 0 in (
      λ l. low_passed rest (most - length shared) (size - length shared)
          (back_bytes shared rest (subst AreBytes e h))
          (omega (arith, l, lt))
          (subst (λ b. b < 255) (at (most - length shared))
          (subst (λ i. slice_index before i < 255)
          (let same : most ≡ length shared + (most - length shared) = omega (arith, l) in same) low))
          (omega (arith, long, l, lt, within)),
      λ l. high_bar rest (size - length shared) (omega (arith, long, within))
          (λ i lt_i. sym (at i) ∙ all (length shared + i) (omega (arith, l)) (omega (arith, lt_i, le))),
    )

-- what is known of a name after one more byte
pub free_on : (seen before : Bytes) (byte : ℕ) → ((more : Bytes) → IsAfter before (seen ++ more))
    → (more : Bytes) → IsAfter before ((seen ++ byte ∷ []) ++ more)
free_on seen before byte h more =
    subst (IsAfter before) (sym (append_assoc seen (byte ∷ []) more)) (h (byte ∷ more))

pub longer_free : (seen before rest : Bytes) (byte : ℕ) → before ≡ seen ++ rest
    → length before ≤ length seen → (more : Bytes)
    → IsAfter before ((seen ++ byte ∷ []) ++ more)
longer_free seen before [] byte e le more =
    subst (λ l. IsAfter l ((seen ++ byte ∷ []) ++ more)) (sym e)
    (subst (IsAfter (seen ++ [])) (sym (append_assoc seen (byte ∷ []) more))
    (shared_after seen [] (byte ∷ more) refl))
longer_free seen before (x ∷ xs) byte e le more =
    absurd (omega (arith, ap length e, length-append seen (x ∷ xs), le))

-- the byte of the name before at the offset of the next one
pub next_is : (seen before rest : Bytes) → before ≡ seen ++ rest → length seen < length before
    → (more : Bytes) × (before ≡ seen ++ slice_index before (length seen) ∷ more)
next_is seen before [] e lt = absurd (omega (arith, ap length e, length-append {A = ℕ} seen [], lt))
next_is seen before (x ∷ xs) e lt =
    let is : slice_index before (length seen) ≡ x =
    ap (λ l. slice_index l (length seen)) e ∙ at seen in
    (xs, e ∙ ap (λ b. seen ++ b ∷ xs) (sym is))
  where
    at : (front : Bytes) → slice_index (front ++ x ∷ xs) (length front) ≡ x
    at [] = refl
    at (y ∷ ys) = at ys

pub higher_free : (seen before rest : Bytes) (next byte : ℕ) → before ≡ seen ++ next ∷ rest
    → next < byte → (more : Bytes) → IsAfter before ((seen ++ byte ∷ []) ++ more)
higher_free seen before rest next byte e lt more =
    subst (λ l. IsAfter l ((seen ++ byte ∷ []) ++ more)) (sym e)
    (subst (IsAfter (seen ++ next ∷ rest)) (sym (append_assoc seen (byte ∷ []) more))
    (shared_after seen (next ∷ rest) (byte ∷ more) (lower_after next byte rest more lt)))

pub lower_none : (seen before rest : Bytes) (next byte : ℕ) → before ≡ seen ++ next ∷ rest
    → byte < next → (more : Bytes) → IsAfter before ((seen ++ byte ∷ []) ++ more) → ⊥
lower_none seen before rest next byte e lt more h =
    higher_not next byte rest more lt (unshared_after seen (next ∷ rest) (byte ∷ more)
    (subst (IsAfter (seen ++ next ∷ rest)) (append_assoc seen (byte ∷ []) more)
    (subst (λ l. IsAfter l ((seen ++ byte ∷ []) ++ more)) e h)))

one_longer : (seen rest : Bytes) (byte : ℕ) → seen ++ byte ∷ rest ≡ (seen ++ byte ∷ []) ++ rest
one_longer seen rest byte = sym (append_assoc seen (byte ∷ []) rest)

dropped : (front back : Bytes) → drop (length front) (front ++ back) ≡ back
dropped [] back = refl
dropped (x ∷ xs) back = dropped xs back

-- what follows some bytes is what is left without them
pub is_left : (front whole back : Bytes) → whole ≡ front ++ back
    → whole ≡ front ++ drop (length front) whole
is_left front whole back e =
    e ∙ ap (λ l. front ++ l) (sym (dropped front back)
    ∙ ap (drop (length front)) (sym e))

pub same_tied : (seen before rest : Bytes) (byte most size : ℕ) → before ≡ seen ++ byte ∷ rest
    → length seen < most → MayShare most size before
    → IsTied (Tied most) size (seen ++ byte ∷ []) before
same_tied seen before rest byte most size e lt may = (
  is_left (seen ++ byte ∷ []) before rest (e ∙ one_longer seen rest byte),
  omega (arith, length-append seen (byte ∷ []), lt),
  may,
)

pub same_none : (seen before rest : Bytes) (byte most size : ℕ) → before ≡ seen ++ byte ∷ rest
    → most ≤ length seen → MayShare most size before
    → IsTiedOn size (seen ++ byte ∷ []) before None
same_none seen before rest byte most size e le may more long h a =
    let one : Bytes = seen ++ byte ∷ [] in
    let is : before ≡ one ++ rest = e ∙ one_longer seen rest byte in
    let both : length one + length more ≡ size = sym (length-append one more) ∙ long in
    let k = may one rest is (omega (arith, both)) in
    k.1 (omega (arith, length-append seen (byte ∷ []), le)) more (omega (arith, both)) h
    (unshared_after one rest more (subst (λ l. IsAfter l (one ++ more)) is a))
