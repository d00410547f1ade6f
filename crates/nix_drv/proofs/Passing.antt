-- Going over a value finds the first element that breaks the order of its list.
use Rattle.std.proofs.Common.{◌≡◌, ℕ, ◌+◌, ◌-◌, ◌^◌, ◌<◌, ◌≤◌, min, true, false, List, [], ◌∷◌, ◌++◌, length, Option, Some, None, Result, Ok, Err, refl, sym, subst, ◌∙◌, arith, inl, inr, ◌⊎◌, rules}
use Rattle.std.proofs.lemmas.List.{length-append}
use Rattle.std.proofs.lemmas.Bool.{cond_both}
use Rattle.nix_drv.specs.Grammar.{ListOrder, Grammar, Fixed, Str, Then, Many, Value, text, separated, each_with_comma}
use Rattle.nix_drv.specs.Order.{key, IsViolationAmong, IsViolation, InOrder, IsFirstViolation}
use Rattle.nix_drv.specs.private.Reading.{◌>>=◌}
use Rattle.nix_drv.specs.private.Passing.{offset_after, pass_among, pass_list, pass}

-- the offset as the machine has it
abbrev pub capped : ℕ → ℕ
capped offset = min offset (2 ^ 64 - 1)

-- there is no such offset up to the end, or the least one is answered
abbrev pub Passes : (ℕ → Type 0) → ℕ → Result ℕ ℕ → Type 0
Passes P end (Ok q) = (q ≡ capped end) × ((r : ℕ) → P r → ⊥)
Passes P end (Err q) = (offset : ℕ) × P offset × ((other : ℕ) → P other → offset ≤ other)
    × (q ≡ capped offset)

same_passes : (P Q : ℕ → Type 0) (end : ℕ) (x : Result ℕ ℕ) → ((r : ℕ) → P r → Q r)
    → ((r : ℕ) → Q r → P r) → Passes P end x → Passes Q end x
same_passes P Q end (Ok q) to back h = search rules
same_passes P Q end (Err q) to back h = search rules

-- the second part comes after the first
both_pass : (P Q : ℕ → Type 0) (mid end : ℕ) (x : Result ℕ ℕ) (next : ℕ → Result ℕ ℕ)
    → ((r : ℕ) → P r → r ≤ mid) → ((r : ℕ) → Q r → mid ≤ r)
    → Passes P mid x → Passes Q end (next (capped mid)) → Passes (λ r. P r ⊎ Q r) end (x >>= next)
both_pass P Q mid end (Ok q) next below above first second = search (rules, capped)
both_pass P Q mid end (Err q) next below above first second = search (rules, below, above)

-- ---- bounds

among_above : {A : Type 0} (order : ListOrder) (key_of text_of : A → List ℕ)
    (Within : ℕ → A → ℕ → Type 0) → ((p : ℕ) (v : A) (r : ℕ) → Within p v r → p ≤ r)
    → (before : Option (List ℕ)) (p : ℕ) (vs : List A) (r : ℕ)
    → IsViolationAmong order key_of text_of Within before p vs r → p ≤ r
among_above order key_of text_of Within above before p [] r at = absurd at
among_above order key_of text_of Within above before p (v ∷ vs) r (inl at) = omega (arith, at.1)
among_above order key_of text_of Within above before p (v ∷ vs) r (inr (inl at)) = above p v r at
among_above order key_of text_of Within above before p (v ∷ vs) r (inr (inr at)) =
    omega (
      arith,
      among_above order key_of text_of Within above (Some (key_of v))
          _ vs r at,
    )

among_below : {A : Type 0} (order : ListOrder) (key_of text_of : A → List ℕ)
    (Within : ℕ → A → ℕ → Type 0)
    → ((p : ℕ) (v : A) (r : ℕ) → Within p v r → r ≤ p + length (text_of v))
    → (before : Option (List ℕ)) (p : ℕ) (vs : List A) (r : ℕ)
    → IsViolationAmong order key_of text_of Within before p vs r → r ≤ p
    + length (each_with_comma text_of vs)
among_below order key_of text_of Within below before p [] r at = absurd at
among_below order key_of text_of Within below before p (v ∷ vs) r (inl at) = omega (arith, at.1)
among_below order key_of text_of Within below before p (v ∷ vs) r (inr (inl at)) =
    search (rules, below, length-append)
among_below order key_of text_of Within below before p (v ∷ vs) r (inr (inr at)) =
    search (
      rules,
      below,
      length-append,
      among_below order key_of text_of Within below (Some (key_of v))
          (p + length (text_of v) + 1) vs r at,
    )

-- with a comma after each, a list is one byte longer than with commas between
commas_between : {A : Type 0} (text_of : A → List ℕ) (v : A) (vs : List A)
    → length (each_with_comma text_of (v ∷ vs)) ≡ length (separated text_of (v ∷ vs)) + 1
commas_between text_of v [] = search (rules, length-append)
commas_between text_of v (w ∷ vs) = search (rules, length-append, commas_between text_of w vs)

brackets_around : {A : Type 0} (text_of : A → List ℕ) (v : A) (vs : List A)
    → length (91 ∷ separated text_of (v ∷ vs) ++ 93 ∷ []) ≡ 1
    + length (each_with_comma text_of (v ∷ vs))
brackets_around text_of v vs = search (rules, commas_between, length-append)

pub violation_above : (g : Grammar) (p : ℕ) (v : Value g) (r : ℕ) → IsViolation g p v r → p ≤ r
unfolding IsViolation
violation_above (Fixed bytes) p v r at = absurd at
violation_above Str p v r at = absurd at
violation_above (Then a b) p v r (inl at) = violation_above a p _ r at
violation_above (Then a b) p v r (inr at) = omega (arith, violation_above b _ _ r at)
violation_above (Many order g) p vs r at = search (rules, among_above, violation_above g)

list_below : {A : Type 0} (order : ListOrder) (key_of text_of : A → List ℕ)
    (Within : ℕ → A → ℕ → Type 0)
    → ((p : ℕ) (v : A) (r : ℕ) → Within p v r → r ≤ p + length (text_of v))
    → (p : ℕ) (vs : List A) (r : ℕ) → IsViolationAmong order key_of text_of Within None (p + 1) vs r
    → r ≤ p + length (91 ∷ separated text_of vs ++ 93 ∷ [])
list_below order key_of text_of Within below p [] r at = absurd at
list_below order key_of text_of Within below p (v ∷ vs) r at =
    omega (
      arith,
      among_below order key_of text_of Within below None (p + 1) (v ∷ vs) r at,
      brackets_around text_of v vs,
    )

pub violation_below : (g : Grammar) (p : ℕ) (v : Value g) (r : ℕ) → IsViolation g p v r → r ≤ p
    + length (text g v)
unfolding IsViolation text
violation_below (Fixed bytes) p v r at = absurd at
violation_below Str p v r at = absurd at
violation_below (Then a b) p v r (inl at) =
    search (rules, length-append, violation_below a p _ r at)
violation_below (Then a b) p v r (inr at) =
    search (rules, length-append, violation_below b _ _ r at)
violation_below (Many order g) p vs r at = search (rules, list_below, violation_below g)

-- ---- the least offset

-- what is known of going over one element
record PassesEach {A : Type 0} (text_of : A → List ℕ) (Within : ℕ → A → ℕ → Type 0)
    (one : ℕ → A → Result ℕ ℕ) : Type 0 where
  passes : (p : ℕ) (v : A) → Passes (Within p v) (p + length (text_of v)) (one (capped p) v)
  above : (p : ℕ) (v : A) (r : ℕ) → Within p v r → p ≤ r
  below : (p : ℕ) (v : A) (r : ℕ) → Within p v r → r ≤ p + length (text_of v)

among_passes : {A : Type 0} (order : ListOrder) (key_of text_of : A → List ℕ)
    (Within : ℕ → A → ℕ → Type 0) (one : ℕ → A → Result ℕ ℕ) → PassesEach text_of Within one
    → (before : Option (List ℕ)) (p : ℕ) (vs : List A)
    → Passes (IsViolationAmong order key_of text_of Within before p vs)
    (p + length (each_with_comma text_of vs)) (pass_among order key_of one before (capped p) vs)
among_passes order key_of text_of Within one each before p [] = (omega arith, λ r at. at)
among_passes {A} order key_of text_of Within one each before p (v ∷ vs) =
    let mid = p + length (text_of v) in
    let Later : ℕ → Type 0 = IsViolationAmong order key_of text_of Within (Some (key_of v))
    (mid + 1) vs in
    let next : ℕ → Result ℕ ℕ =
    λ q. pass_among order key_of one (Some (key_of v)) (offset_after q 1) vs
    in
    let after : offset_after (capped mid) 1 ≡ capped (mid + 1) = omega arith in
    let end : ℕ = p + length (each_with_comma text_of (v ∷ vs)) in
    let is_end : mid + 1 + length (each_with_comma text_of vs)
    ≡ end = omega (arith, length-append (text_of v) (44 ∷ each_with_comma text_of vs)) in
    let later : Passes Later end (next (capped mid)) =
    subst (λ (e : ℕ). Passes Later e (next (capped mid))) is_end
    (subst (λ (q : ℕ). Passes Later (mid + 1 + length (each_with_comma text_of vs))
    (pass_among order key_of one (Some (key_of v)) q vs)) (sym after)
    (among_passes order key_of text_of Within one each (Some (key_of v)) (mid + 1) vs)) in
    let inner : Passes (λ r. Within p v r ⊎ Later r) end (one (capped p) v >>= next) =
    both_pass (Within p v) Later _ _ _ next (each.below p v)
    (λ r at. omega (
      arith,
      among_above order key_of text_of Within each.above (Some (key_of v)) (mid + 1) vs r
          at,
    )) (each.passes p v) later in
    cond_both _ _ _
    (Passes (IsViolationAmong order key_of text_of Within before p (v ∷ vs)) end)
    (λ e. (
      p,
      inl (e, refl),
      λ other at. among_above order key_of text_of Within each.above before p
          (v ∷ vs) _ at,
      refl,
    ))
    (λ e. same_passes (λ r. Within p v r ⊎ Later r)
    (IsViolationAmong order key_of text_of Within before p (v ∷ vs)) _
    _
    (λ r at. inr at)
    (λ r at. elim at [
      | inl own ↦ let t : true ≡ false = sym own.0 ∙ e
          in absurd cc
      | inr within ↦ within
    ]) inner)

list_passes : {A : Type 0} (order : ListOrder) (key_of text_of : A → List ℕ)
    (Within : ℕ → A → ℕ → Type 0) (one : ℕ → A → Result ℕ ℕ) → PassesEach text_of Within one
    → (p : ℕ) (vs : List A) → Passes (IsViolationAmong order key_of text_of Within None (p + 1) vs)
    (p + length (91 ∷ separated text_of vs ++ 93 ∷ []))
    (pass_list order key_of one (capped p) vs)
list_passes order key_of text_of Within one each p [] = (omega arith, λ r at. at)
list_passes order key_of text_of Within one each p (v ∷ vs) =
    let is_end : p + 1 + length (each_with_comma text_of (v ∷ vs)) ≡ p
    + length (91 ∷ separated text_of (v ∷ vs) ++ 93 ∷ []) =
    omega (arith, brackets_around text_of v vs) in
    let after : offset_after (capped p) 1 ≡ capped (p + 1) = omega arith in
    subst (λ (e : ℕ). Passes (IsViolationAmong order key_of text_of Within None (p + 1) (v ∷ vs)) e
    (pass_list order key_of one (capped p) (v ∷ vs))) is_end
    (subst (λ (q : ℕ). Passes (IsViolationAmong order key_of text_of Within None (p + 1) (v ∷ vs))
    (p + 1 + length (each_with_comma text_of (v ∷ vs)))
    (pass_among order key_of one None q (v ∷ vs))) (sym after)
    (among_passes order key_of text_of Within one each None (p + 1) (v ∷ vs)))

-- going over a value answers the least offset of a violation, or the offset after the text where
-- there is none
pub pass-exact : (g : Grammar) (p : ℕ) (v : Value g)
    → Passes (IsViolation g p v) (p + length (text g v)) (pass g (capped p) v)
unfolding IsViolation text pass
pass-exact (Fixed bytes) p v = (omega arith, λ r at. at)
pass-exact Str p v = (omega arith, λ r at. at)
pass-exact (Then a b) p v =
    let mid = p + length (text a v.0) in
    let end : mid + length (text b v.1) ≡ p + length (text a v.0 ++ text b v.1) =
    omega (arith, length-append (text a v.0) (text b v.1)) in
    both_pass (IsViolation a p v.0) (IsViolation b _ v.1) _
    _ _ (λ q. pass b q v.1)
    (violation_below a p _) (violation_above b _ _) (pass-exact a p _)
    (subst (λ (e : ℕ). Passes (IsViolation b mid v.1) e (pass b (capped mid) v.1)) end
    (pass-exact b mid v.1))
pass-exact (Many order g) p vs =
    list_passes _ (key g) (text g) (IsViolation g) (pass g)
    (record { passes = pass-exact g; above = violation_above g; below = violation_below g }) p
    _

-- ---- what the public calls cite

from_start : (g : Grammar) (v : Value g) (x : Result ℕ ℕ) → pass g 0 v ≡ x
    → Passes (IsViolation g 0 v) (0 + length (text g v)) x
from_start g v x e = subst (Passes (IsViolation g 0 v) (0 + length (text g v))) e (pass-exact g 0 v)

pub pass_in_order : (g : Grammar) (v : Value g) (q : ℕ) → pass g 0 v ≡ Ok q → InOrder g v
pass_in_order g v q e = let h : Passes (IsViolation g 0 v) (0 + length (text g v)) (Ok q) =
    from_start g v _ e in h.1

pub pass_out_of_order : (g : Grammar) (v : Value g) (q : ℕ) → pass g 0 v ≡ Err q → InOrder g v → ⊥
pass_out_of_order g v q e none = let h : Passes (IsViolation g 0 v) (0 + length (text g v))
    (Err q) = from_start g v _ e in none h.0 h.1

pub pass_first : (g : Grammar) (v : Value g) (offset : ℕ) → length (text g v) < 2 ^ 64 → pass g 0 v
    ≡ Err offset → IsFirstViolation g v offset
pass_first g v offset small e =
    let h : Passes (IsViolation g 0 v) (0 + length (text g v)) (Err offset) =
    from_start g v _ e in
    let within : h.0 ≤ 0 + length (text g v) = violation_below g 0 v _ h.1 in
    let is : h.0 ≡ offset = omega (arith, h.3) in
    subst (IsFirstViolation g v) is (record { is_violation = h.1; least = h.2 })
