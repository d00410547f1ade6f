-- A list is read exactly where its element is.
use Rattle.std.proofs.Common.{◌≡◌, ℕ, zero, suc, ◌<◌, ◌≤◌, eqb, List, [], ◌∷◌, ◌++◌, length, Result, Ok, Err, refl, sym, ap, ◌∙◌, append_assoc, arith, inl, inr, ◌⊎◌, rules}
use Rattle.std.proofs.lemmas.Bool.{eqb-true, cond_both}
use Rattle.std.proofs.lemmas.List.{append-nil, length-append}
use Rattle.nix_drv.specs.Grammar.{Begins, separated, each_with_comma}
use Rattle.nix_drv.specs.private.Reading.{◌>>=◌, before, next_at, elements_at, elements_of, left_of}
use Rattle.nix_drv.proofs.Steps.{StopsAt, Told, bind_shrinks, left-before}
use Rattle.nix_drv.proofs.Strings.{prefixes_of_one}
use Rattle.nix_drv.proofs.Readers.{IsReader, reader_shrinks}

-- ---- nothing is given back

next_shrinks : {A : Type 0} (others : List ℕ → Result (List A × List ℕ) ℕ) (v : A) (t : List ℕ)
    → ((s : List ℕ) → left_of (others s) ≤ length s) → left_of (next_at others v t) ≤ length t
next_shrinks others v [] h = omega arith
next_shrinks others v (b ∷ s) h = search (rules, left-before, eqb, cond_both)

elements_at-shrinks : {A : Type 0} (one : List ℕ → Result (A × List ℕ) ℕ)
    → ((s : List ℕ) → left_of (one s) ≤ length s) → (n : ℕ) (s : List ℕ)
    → left_of (elements_at one n s) ≤ length s
unfolding elements_at
elements_at-shrinks one h zero s = omega arith
elements_at-shrinks one h (suc n) s =
    search (rules, bind_shrinks, next_shrinks, elements_at-shrinks one h n)

-- ---- the bound on how many elements there are is never met

same_bind : {A B : Type 0} (r : Result (A × List ℕ) ℕ) (f h : A × List ℕ → Result (B × List ℕ) ℕ)
    → ((x : A × List ℕ) → length x.1 ≤ left_of r → f x ≡ h x) → (r >>= f) ≡ (r >>= h)
same_bind (Ok x) f h e = e x (omega arith)
same_bind (Err left) f h e = refl

same_next : {A : Type 0} (f h : List ℕ → Result (List A × List ℕ) ℕ) (v : A) (t : List ℕ)
    → ((s : List ℕ) → length s < length t → f s ≡ h s) → next_at f v t ≡ next_at h v t
same_next f h v [] e = refl
same_next f h v (b ∷ s) e = search (rules, eqb)

same_bound : {A : Type 0} (one : List ℕ → Result (A × List ℕ) ℕ)
    → ((s : List ℕ) → left_of (one s) ≤ length s) → (n m : ℕ) (s : List ℕ) → length s < n → length s
    < m → elements_at one n s ≡ elements_at one m s
unfolding elements_at
same_bound one h zero m s ln lm = absurd (omega arith)
same_bound one h (suc n) zero s ln lm = absurd (omega arith)
same_bound one h (suc n) (suc m) s ln lm =
    same_bind (one s) (λ x. next_at (elements_at one n) x.0 x.1)
    (λ x. next_at (elements_at one m) x.0 x.1)
    (λ x short. same_next (elements_at one n) (elements_at one m) x.0 x.1
    (λ t lt. same_bound one h n m t (omega (arith, h s)) (omega (arith, h s))))

-- an element and what follows it
pub elements_open : {A : Type 0} (one : List ℕ → Result (A × List ℕ) ℕ)
    → ((s : List ℕ) → left_of (one s) ≤ length s) → (s : List ℕ) → elements_of one s
    ≡ (one s >>= λ x. next_at (elements_of one) x.0 x.1)
unfolding elements_at
elements_open one h s =
    same_bind (one s) (λ x. next_at (elements_at one (length s)) x.0 x.1)
    (λ x. next_at (elements_of one) x.0 x.1)
    (λ x short. same_next (elements_at one (length s)) (elements_of one) x.0 x.1
    (λ t lt. same_bound one h (length s) (suc (length t)) t (omega (arith, h s)) (omega arith)))

-- ---- what is read

-- elements and the bracket after them
abbrev pub elements_text : {A : Type 0} → (A → List ℕ) → List A → List ℕ
elements_text text_of vs = separated text_of vs ++ 93 ∷ []

-- a prefix of one or more elements
abbrev pub PrefixOfSome : {A : Type 0} → (A → List ℕ) → (List ℕ → Type 0) → List ℕ → Type 0
PrefixOfSome {A} text_of IsPrefixOf prefix =
    ((whole : List A) × (last : List ℕ) × (prefix ≡ each_with_comma text_of whole ++ last)
    × IsPrefixOf last)
    ⊎ ((v : A) × (whole : List A) × (last : List ℕ)
    × (prefix ≡ separated text_of (v ∷ whole) ++ last) × Begins last (93 ∷ []))

abbrev pub ToldSome : {A : Type 0} → (A → List ℕ) → (List ℕ → Type 0) → List ℕ
    → Result (List A × List ℕ) ℕ → Type 0
ToldSome text_of IsPrefixOf s (Ok ([], rest)) = ⊥
ToldSome text_of IsPrefixOf s (Ok (v ∷ vs, rest)) = s ≡ elements_text text_of (v ∷ vs) ++ rest
ToldSome text_of IsPrefixOf s (Err left) = StopsAt (PrefixOfSome text_of IsPrefixOf) s left

comma_prefix : {A : Type 0} (text_of : A → List ℕ) (IsPrefixOf : List ℕ → Type 0) (v : A)
    (prefix : List ℕ) → PrefixOfSome text_of IsPrefixOf prefix
    → PrefixOfSome text_of IsPrefixOf (text_of v ++ 44 ∷ prefix)
comma_prefix text_of IsPrefixOf v prefix (inl at) =
    inl (v ∷ at.0, at.1, ap (λ (t : List ℕ). text_of v ++ 44 ∷ t) at.2 ∙ simp append_assoc, at.3)
comma_prefix text_of IsPrefixOf v prefix (inr at) =
    inr (
      v,
      at.0 ∷ at.1,
      at.2,
      ap (λ (t : List ℕ). text_of v ++ 44 ∷ t) at.3 ∙ simp append_assoc,
      at.4,
    )

told_comma : {A : Type 0} (text_of : A → List ℕ) (IsPrefixOf : List ℕ → Type 0) (v : A) (s : List ℕ)
    (r : Result (List A × List ℕ) ℕ) → ToldSome text_of IsPrefixOf s r
    → ToldSome text_of IsPrefixOf (text_of v ++ 44 ∷ s) (before (v ∷ []) r)
told_comma text_of IsPrefixOf v s (Ok ([], rest)) told = absurd told
told_comma text_of IsPrefixOf v s (Ok (w ∷ ws, rest)) told = search (rules, append_assoc)
told_comma text_of IsPrefixOf v s (Err left) told = record {
  prefix = text_of v ++ 44 ∷ told.prefix;
  rest = told.rest;
  parts = ap (λ (t : List ℕ). text_of v ++ 44 ∷ t) told.parts ∙ simp append_assoc;
  is_prefix = comma_prefix text_of IsPrefixOf v _ told.is_prefix;
  is_left = told.is_left;
}

-- after an element stands neither a comma nor the bracket
stops_there : {A : Type 0} (text_of : A → List ℕ) (IsPrefixOf : List ℕ → Type 0) (v : A)
    (t : List ℕ) → StopsAt (PrefixOfSome text_of IsPrefixOf) (text_of v ++ t) (length t)
stops_there text_of IsPrefixOf v t = record {
  prefix = text_of v;
  rest = t;
  parts = refl;
  is_prefix = inr (v, [], [], sym (append-nil (text_of v)), (93 ∷ [], refl));
  is_left = refl;
}

next_told : {A : Type 0} (text_of : A → List ℕ) (IsPrefixOf : List ℕ → Type 0)
    (others : List ℕ → Result (List A × List ℕ) ℕ) (v : A) (t : List ℕ)
    → ((s : List ℕ) → length s < length t → ToldSome text_of IsPrefixOf s (others s))
    → ToldSome text_of IsPrefixOf (text_of v ++ t) (next_at others v t)
next_told text_of IsPrefixOf others v [] h = stops_there text_of IsPrefixOf v []
next_told text_of IsPrefixOf others v (b ∷ s) h =
    search (rules, cond_both, eqb, eqb-true, told_comma, append_assoc, stops_there)

some_told : {A : Type 0} (text_of : A → List ℕ) (IsPrefixOf : List ℕ → Type 0) (s : List ℕ)
    (r : Result (A × List ℕ) ℕ) (next : A × List ℕ → Result (List A × List ℕ) ℕ)
    → Told text_of IsPrefixOf s r
    → ((x : A × List ℕ) → s ≡ text_of x.0 ++ x.1
    → ToldSome text_of IsPrefixOf (text_of x.0 ++ x.1) (next x))
    → ToldSome text_of IsPrefixOf s (r >>= next)
some_told text_of IsPrefixOf s (Ok x) next told h = search rules
some_told text_of IsPrefixOf s (Err left) next told h = search rules

pub elements_told : {A : Type 0} (text_of : A → List ℕ) (IsPrefixOf : List ℕ → Type 0)
    (one : List ℕ → Result (A × List ℕ) ℕ) → ((s : List ℕ) → Told text_of IsPrefixOf s (one s))
    → (n : ℕ) (s : List ℕ) → length s < n → ToldSome text_of IsPrefixOf s (elements_at one n s)
unfolding elements_at
elements_told text_of IsPrefixOf one told zero s lt = absurd (omega arith)
elements_told text_of IsPrefixOf one told (suc n) s lt =
    some_told text_of IsPrefixOf s _ (λ x. next_at (elements_at one n) x.0 x.1) (told s)
    (λ x e. next_told text_of IsPrefixOf (elements_at one n) x.0 x.1
    (λ t short. elements_told text_of IsPrefixOf one told n t
    (omega (arith, ap length e, length-append (text_of x.0) x.1))))

-- ---- what is written is read, and nothing more

pub elements-again : {A : Type 0} {text_of : A → List ℕ} {IsPrefixOf : List ℕ → Type 0}
    {one : List ℕ → Result (A × List ℕ) ℕ} → IsReader text_of IsPrefixOf one
    → (v : A) (vs : List A) (rest : List ℕ) → elements_of one
    (elements_text text_of (v ∷ vs) ++ rest) ≡ Ok (v ∷ vs, rest)
elements-again {A} {text_of} {IsPrefixOf} {one} r v [] rest =
    rw (
      append_assoc,
      elements_open one (reader_shrinks r) _,
      r.again v (93 ∷ rest),
    ) refl
elements-again {A} {text_of} {IsPrefixOf} {one} r v (w ∷ ws) rest =
    let regrouped : elements_text text_of (v ∷ w ∷ ws) ++ rest ≡ text_of v ++ 44
    ∷ (elements_text text_of (w ∷ ws) ++ rest) = simp append_assoc in
    rw (
      regrouped,
      elements_open one (reader_shrinks r)
          _,
      r.again v (44 ∷ (elements_text text_of (w ∷ ws) ++ rest)),
    )
    (ap (before (v ∷ [])) (elements-again r w _ _))

-- reading goes on after an element
open_again : {A : Type 0} {text_of : A → List ℕ} {IsPrefixOf : List ℕ → Type 0}
    {one : List ℕ → Result (A × List ℕ) ℕ} → IsReader text_of IsPrefixOf one → (v : A) (t : List ℕ)
    → elements_of one (text_of v ++ t) ≡ next_at (elements_of one) v t
open_again {A} {text_of} {IsPrefixOf} {one} r v t =
    rw (elements_open one (reader_shrinks r) _, r.again v t) refl

pub elements_shrinks : {A : Type 0} {text_of : A → List ℕ} {IsPrefixOf : List ℕ → Type 0}
    {one : List ℕ → Result (A × List ℕ) ℕ} → IsReader text_of IsPrefixOf one → (s : List ℕ)
    → left_of (elements_of one s) ≤ length s
elements_shrinks {A} {text_of} {IsPrefixOf} {one} r s =
    elements_at-shrinks one (reader_shrinks r) _ s

pub part-longest : {A : Type 0} {text_of : A → List ℕ} {IsPrefixOf : List ℕ → Type 0}
    {one : List ℕ → Result (A × List ℕ) ℕ} → IsReader text_of IsPrefixOf one
    → (whole : List A) (last rest : List ℕ) → IsPrefixOf last
    → left_of (elements_of one ((each_with_comma text_of whole ++ last) ++ rest)) ≤ length rest
part-longest {A} {text_of} {IsPrefixOf} {one} r [] last rest at =
    rw (elements_open one (reader_shrinks r) _)
    (omega (
      arith,
      bind_shrinks (one (last ++ rest)) (λ x. next_at (elements_of one) x.0 x.1)
          (λ x. next_shrinks (elements_of one) _ _ (elements_shrinks r)),
      r.longest last rest at,
    ))
part-longest {A} {text_of} {IsPrefixOf} {one} r (v ∷ whole) last rest at =
    let regrouped : (each_with_comma text_of (v ∷ whole) ++ last) ++ rest ≡ text_of v ++ 44
    ∷ ((each_with_comma text_of whole ++ last) ++ rest) = simp append_assoc in
    rw (
      regrouped,
      open_again r v _,
      left-before _ _,
    )
    (part-longest r whole last rest at)

pub end-longest : {A : Type 0} {text_of : A → List ℕ} {IsPrefixOf : List ℕ → Type 0}
    {one : List ℕ → Result (A × List ℕ) ℕ} → IsReader text_of IsPrefixOf one
    → (v : A) (whole : List A) (last rest : List ℕ) → Begins last (93 ∷ [])
    → left_of (elements_of one ((separated text_of (v ∷ whole) ++ last) ++ rest)) ≤ length rest
end-longest {A} {text_of} {IsPrefixOf} {one} r v [] last rest at =
    rw (append_assoc, open_again r v _)
    (elim (prefixes_of_one 93 last at.0 at.1) [
      | inl e ↦ rw e (next_shrinks (elements_of one) v rest (elements_shrinks r))
      | inr e ↦ rw e
          (omega arith)
    ])
end-longest {A} {text_of} {IsPrefixOf} {one} r v (w ∷ ws) last rest at =
    let regrouped : (separated text_of (v ∷ w ∷ ws) ++ last) ++ rest ≡ text_of v ++ 44
    ∷ ((separated text_of (w ∷ ws) ++ last) ++ rest) = simp append_assoc in
    rw (
      regrouped,
      open_again r v _,
      left-before _ (elements_of one ((separated text_of (w ∷ ws) ++ last) ++ rest)),
    )
    (end-longest r w ws last rest at)
