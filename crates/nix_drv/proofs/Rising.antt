-- A value keeps the order rules where the keys of its lists rise.
use Rattle.std.proofs.Common.{◌≡◌, ◌↔◌, ℕ, ◌+◌, Bool, true, List, [], ◌∷◌, length, Option, Some, None, map, refl, ap, inl, inr, rules}
use Rattle.std.specs.Prelude.{not}
use Rattle.std.specs.Ordering.{is_lt}
use Rattle.std.proofs.lemmas.Bool.{cases_Bool}
use Rattle.nix_names.proofs.RisingLists.{below_from_lt}
use Rattle.nix_drv.specs.Grammar.{ListOrder, Rising, Free, Grammar, Fixed, Str, Then, Many, Value, text}
use Rattle.nix_drv.specs.Order.{key, breaks, IsViolationAmong, IsViolation, InOrder, MayBeKeys, Each, KeysRise}

-- the keys with the one before them, if there is one
abbrev after : Option (List ℕ) → List (List ℕ) → List (List ℕ)
after None ks = ks
after (Some before) ks = before ∷ ks

not_both : (b : Bool) → b ≡ true → not b ≡ true → ⊥
not_both b is isnt = search rules

stands_more : (order : ListOrder) (before : Option (List ℕ)) (k : List ℕ) (ks : List (List ℕ))
    → (breaks order before k ≡ true → ⊥) → MayBeKeys order (k ∷ ks)
    → MayBeKeys order (after before (k ∷ ks))
stands_more Free before k ks none h = tt
stands_more Rising None k ks none h = h
stands_more Rising (Some a) k ks none h = search (rules, below_from_lt, cases_Bool)

breaks_none : (order : ListOrder) (before : Option (List ℕ)) (k : List ℕ) (ks : List (List ℕ))
    → MayBeKeys order (after before (k ∷ ks)) → breaks order before k ≡ true → ⊥
breaks_none Free before k ks h e = search rules
breaks_none Rising None k ks h e = search rules
breaks_none Rising (Some a) k ks h e = not_both _ (ap is_lt h.0) e

stands_last : (order : ListOrder) (before : Option (List ℕ)) → MayBeKeys order (after before [])
stands_last Free before = tt
stands_last Rising None = tt
stands_last Rising (Some a) = tt

stands_later : (order : ListOrder) (before : Option (List ℕ)) (k : List ℕ) (ks : List (List ℕ))
    → MayBeKeys order (after before (k ∷ ks)) → MayBeKeys order (k ∷ ks)
stands_later Free before k ks h = tt
stands_later Rising None k ks h = h
stands_later Rising (Some a) k ks h = h.1

among_rises : {A : Type 0} (order : ListOrder) (key_of text_of : A → List ℕ)
    (Within : ℕ → A → ℕ → Type 0) (Rises : A → Type 0)
    → ((p : ℕ) (v : A) → ((r : ℕ) → Within p v r → ⊥) → Rises v)
    → (before : Option (List ℕ)) (p : ℕ) (vs : List A)
    → ((r : ℕ) → IsViolationAmong order key_of text_of Within before p vs r → ⊥)
    → MayBeKeys order (after before (map key_of vs)) × Each Rises vs
among_rises order key_of text_of Within Rises one before p [] none = (stands_last _ _, tt)
among_rises order key_of text_of Within Rises one before p (v ∷ vs) none =
    let later = among_rises order key_of text_of Within Rises one (Some (key_of v))
    (p + length (text_of v) + 1) vs (λ r at. none r (inr (inr at))) in (
      stands_more order before (key_of v) (map key_of vs) (λ e. none p (inl (e, refl))) later.0,
      (one p v (λ r at. none r (inr (inl at))), later.1),
    )

rises_among : {A : Type 0} (order : ListOrder) (key_of text_of : A → List ℕ)
    (Within : ℕ → A → ℕ → Type 0) (Rises : A → Type 0)
    → ((p : ℕ) (v : A) → Rises v → (r : ℕ) → Within p v r → ⊥)
    → (before : Option (List ℕ)) (p : ℕ) (vs : List A)
    → MayBeKeys order (after before (map key_of vs)) → Each Rises vs → (r : ℕ)
    → IsViolationAmong order key_of text_of Within before p vs r → ⊥
rises_among order key_of text_of Within Rises one before p [] stands each r at = at
rises_among order key_of text_of Within Rises one before p (v ∷ vs) stands each r (inl at) =
    search (rules, breaks_none)
rises_among order key_of text_of Within Rises one before p (v ∷ vs) stands each r (inr (inl at)) =
    one p v each.0 r at
rises_among order key_of text_of Within Rises one before p (v ∷ vs) stands each r (inr (inr at)) =
    rises_among order key_of text_of Within Rises one (Some (key_of v)) (p + length (text_of v) + 1)
    vs (stands_later order before (key_of v) (map key_of vs) stands) each.1 r at

order_rises : (g : Grammar) (p : ℕ) (v : Value g) → ((r : ℕ) → IsViolation g p v r → ⊥)
    → KeysRise g v
unfolding IsViolation KeysRise
order_rises (Fixed bytes) p v none = tt
order_rises Str p v none = tt
order_rises (Then a b) p v none = (
  order_rises a p _ (λ r at. none r (inl at)),
  order_rises b _ _ (λ r at. none r (inr at)),
)
order_rises (Many order g) p vs none = among_rises _ (key g) (text g) (IsViolation g)
    (KeysRise g) (order_rises g) _ _ _ none

rises_order : (g : Grammar) (p : ℕ) (v : Value g) → KeysRise g v → (r : ℕ) → IsViolation g p v r → ⊥
unfolding IsViolation KeysRise
rises_order (Fixed bytes) p v rises r at = at
rises_order Str p v rises r at = at
rises_order (Then a b) p v rises r (inl at) = rises_order a p _ rises.0 r at
rises_order (Then a b) p v rises r (inr at) = rises_order b _ _ rises.1 r at
rises_order (Many order g) p vs rises r at = rises_among _ (key g) (text g) (IsViolation g)
    (KeysRise g) (rises_order g) _ _ _ rises.0 rises.1 r at

pub order_means_rising : (g : Grammar) (v : Value g) → InOrder g v ↔ KeysRise g v
order_means_rising g v = (order_rises g 0 v, rises_order g 0 v)
