-- Readers that are exact: of fixed bytes, of something after one byte, and of two parts in order.
use Rattle.std.proofs.Common.{◌≡◌, ℕ, ◌≤◌, false, List, [], ◌∷◌, ◌++◌, length, Result, Ok, Err, refl, sym, ap, ◌∙◌, append_assoc, arith, inl, inr, ◌⊎◌, rules}
use Rattle.std.proofs.lemmas.List.{append-nil}
use Rattle.nix_drv.specs.Grammar.{Begins, IsPrefixOfBytes}
use Rattle.nix_drv.specs.private.Reading.{◌>>=◌, fixed_at, bytes_at, left_of}
use Rattle.nix_drv.proofs.Steps.{Told, told_shrinks, bind_shrinks}
use Rattle.nix_drv.proofs.Fixed.{fixed-told, fixed-again, fixed-longest}
use Rattle.nix_drv.proofs.Strings.{bytes_text, bytes-told, bytes-again, bytes-longest}

-- reading answers with the value of the text before the rest, or stops after the longest prefix
pub record IsReader {A : Type 0} (text_of : A → List ℕ) (IsPrefixOf : List ℕ → Type 0)
    (reading : List ℕ → Result (A × List ℕ) ℕ) : Type 0 where
  pub told : (s : List ℕ) → Told text_of IsPrefixOf s (reading s)
  pub again : (v : A) (rest : List ℕ) → reading (text_of v ++ rest) ≡ Ok (v, rest)
  pub longest : (prefix rest : List ℕ) → IsPrefixOf prefix → left_of (reading (prefix ++ rest))
      ≤ length rest
  pub whole : (v : A) → IsPrefixOf (text_of v)
  pub none : IsPrefixOf []

pub reader_shrinks : {A : Type 0} {text_of : A → List ℕ} {IsPrefixOf : List ℕ → Type 0}
    {reading : List ℕ → Result (A × List ℕ) ℕ} → IsReader text_of IsPrefixOf reading → (s : List ℕ)
    → left_of (reading s) ≤ length s
reader_shrinks {A} {text_of} {IsPrefixOf} {reading} r s = search (rules, told_shrinks)

pub fixed_reader : (bytes : List ℕ) → IsReader {A = Unit {0}} (λ _. bytes)
    (λ prefix. Begins prefix bytes) (fixed_at bytes)
fixed_reader bytes = record {
  told = fixed-told bytes;
  again = λ v rest. fixed-again bytes rest;
  longest = fixed-longest bytes;
  whole = λ v. ([], sym (append-nil bytes));
  none = (bytes, refl);
}

pub bytes_reader : IsReader bytes_text IsPrefixOfBytes (bytes_at false)
bytes_reader = record {
  told = bytes-told false;
  again = bytes-again;
  longest = bytes-longest;
  whole = λ v. (v, 34 ∷ [], refl, inr ([], refl));
  none = ([], [], refl, inr (34 ∷ [], refl));
}

-- ---- after one byte

abbrev pub PrefixAfter : ℕ → (List ℕ → Type 0) → List ℕ → Type 0
PrefixAfter b IsPrefixOf prefix = Begins prefix (b ∷ [])
    ⊎ ((more : List ℕ) × (prefix ≡ b ∷ more) × IsPrefixOf more)

abbrev pub read_after : {A : Type 0} → ℕ → (List ℕ → Result (A × List ℕ) ℕ) → List ℕ
    → Result (A × List ℕ) ℕ
read_after b reading s = fixed_at (b ∷ []) s >>= λ x. reading x.1

second_told : {A : Type 0} (b : ℕ) (text_of : A → List ℕ) (IsPrefixOf : List ℕ → Type 0)
    (s t : List ℕ) (r : Result (A × List ℕ) ℕ) → s ≡ b ∷ t → Told text_of IsPrefixOf t r
    → Told (λ v. b ∷ text_of v) (PrefixAfter b IsPrefixOf) s r
second_told b text_of IsPrefixOf s t (Ok x) e told = e ∙ ap (λ (u : List ℕ). b ∷ u) told
second_told b text_of IsPrefixOf s t (Err left) e told = record {
  prefix = b ∷ told.prefix;
  rest = told.rest;
  parts = e ∙ ap (λ (u : List ℕ). b ∷ u) told.parts;
  is_prefix = inr (told.prefix, refl, told.is_prefix);
  is_left = told.is_left;
}

after_told : {A : Type 0} (b : ℕ) (text_of : A → List ℕ) (IsPrefixOf : List ℕ → Type 0)
    (reading : List ℕ → Result (A × List ℕ) ℕ)
    → ((t : List ℕ) → Told text_of IsPrefixOf t (reading t))
    → (s : List ℕ) (first : Result (Unit {0} × List ℕ) ℕ)
    → Told (λ _. b ∷ []) (λ prefix. Begins prefix (b ∷ [])) s first
    → Told (λ v. b ∷ text_of v) (PrefixAfter b IsPrefixOf) s (first >>= λ x. reading x.1)
after_told b text_of IsPrefixOf reading h s (Ok x) told = search (rules, second_told, told)
after_told b text_of IsPrefixOf reading h s (Err left) told = search rules

pub after_reader : {A : Type 0} (b : ℕ) (text_of : A → List ℕ) (IsPrefixOf : List ℕ → Type 0)
    (reading : List ℕ → Result (A × List ℕ) ℕ) → IsReader text_of IsPrefixOf reading
    → IsReader (λ v. b ∷ text_of v) (PrefixAfter b IsPrefixOf) (read_after b reading)
after_reader b text_of IsPrefixOf reading r = record {
  told = λ s. after_told b text_of IsPrefixOf reading r.told s _
      (fixed-told (b ∷ []) s);
  again = λ v rest. rw (fixed-again (b ∷ []) (text_of v ++ rest)) (r.again v rest);
  longest = λ prefix rest at. elim at [
    | inl begins ↦ omega (
      arith,
      bind_shrinks (fixed_at (b ∷ []) (prefix ++ rest)) (λ x. reading x.1)
          (λ x. reader_shrinks r _),
      fixed-longest _ prefix rest begins,
    )
    | inr more ↦ rw (more.1, fixed-again (b ∷ []) (more.0 ++ rest)) (r.longest more.0 rest more.2)
  ];
  whole = λ v. inr (text_of v, refl, r.whole v);
  none = inl (b ∷ [], refl);
}

-- ---- two parts in order

abbrev pub PrefixOfBoth : {A : Type 0} → (A → List ℕ) → (List ℕ → Type 0) → (List ℕ → Type 0)
    → List ℕ → Type 0
PrefixOfBoth {A} first_text IsFirst IsSecond prefix = IsFirst prefix
    ⊎ ((v : A) × (more : List ℕ) × (prefix ≡ first_text v ++ more) × IsSecond more)

abbrev pub read_both : {A B : Type 0} → (List ℕ → Result (A × List ℕ) ℕ)
    → (List ℕ → Result (B × List ℕ) ℕ) → List ℕ → Result ((A × B) × List ℕ) ℕ
read_both first second s = first s >>= λ x. second x.1 >>= λ y. Ok ((x.0, y.0), y.1)

later_told : {A B : Type 0} (first_text : A → List ℕ) (second_text : B → List ℕ)
    (IsFirst IsSecond : List ℕ → Type 0) (s t : List ℕ) (v : A) (r : Result (B × List ℕ) ℕ) → s
    ≡ first_text v ++ t → Told second_text IsSecond t r
    → Told {A = A × B} (λ w. first_text w.0 ++ second_text w.1)
    (PrefixOfBoth first_text IsFirst IsSecond) s (r >>= λ y. Ok ((v, y.0), y.1))
later_told first_text second_text IsFirst IsSecond s t v (Ok y) e told =
    search (rules, told, append_assoc)
later_told first_text second_text IsFirst IsSecond s t v (Err left) e told = record {
  prefix = first_text v ++ told.prefix;
  rest = told.rest;
  parts = e ∙ ap (λ (u : List ℕ). first_text v ++ u) told.parts
      ∙ sym (append_assoc (first_text v) told.prefix told.rest);
  is_prefix = inr (v, told.prefix, refl, told.is_prefix);
  is_left = told.is_left;
}

both_told : {A B : Type 0} (first_text : A → List ℕ) (second_text : B → List ℕ)
    (IsFirst IsSecond : List ℕ → Type 0) (second : List ℕ → Result (B × List ℕ) ℕ)
    → ((t : List ℕ) → Told second_text IsSecond t (second t))
    → (s : List ℕ) (first : Result (A × List ℕ) ℕ) → Told first_text IsFirst s first
    → Told {A = A × B} (λ w. first_text w.0 ++ second_text w.1)
    (PrefixOfBoth first_text IsFirst IsSecond) s
    (first >>= λ x. second x.1 >>= λ y. Ok ((x.0, y.0), y.1))
both_told first_text second_text IsFirst IsSecond second h s (Ok x) told =
    later_told first_text second_text IsFirst IsSecond s _ _ _ told (h x.1)
both_told first_text second_text IsFirst IsSecond second h s (Err left) told = search rules

pub both_reader : {A B : Type 0} (first_text : A → List ℕ) (second_text : B → List ℕ)
    (IsFirst IsSecond : List ℕ → Type 0) (first : List ℕ → Result (A × List ℕ) ℕ)
    (second : List ℕ → Result (B × List ℕ) ℕ)
    → IsReader first_text IsFirst first → IsReader second_text IsSecond second
    → IsReader {A = A × B} (λ w. first_text w.0 ++ second_text w.1)
    (PrefixOfBoth first_text IsFirst IsSecond) (read_both first second)
both_reader {A} {B} first_text second_text IsFirst IsSecond first second a b = record {
  told = λ s. both_told first_text second_text IsFirst IsSecond second b.told s (first s)
      (a.told s);
  again = λ v rest. rw (append_assoc, a.again v.0 (second_text v.1 ++ rest), b.again v.1 rest) refl;
  longest = λ prefix rest at.
      let pair : A → B × List ℕ → Result ((A × B) × List ℕ) ℕ = λ v y. Ok ((v, y.0), y.1) in
      let second_shrinks : (v : A) (t : List ℕ) → left_of (second t >>= pair v)
      ≤ left_of (second t) = λ v t. bind_shrinks (second t) (pair v) (λ y. omega arith) in
      elim at [
        | inl begins ↦ omega (
          arith,
          bind_shrinks (first (prefix ++ rest)) (λ x. second x.1 >>= pair x.0)
              (λ x. omega (arith, second_shrinks x.0 x.1, reader_shrinks b x.1)),
          a.longest prefix rest begins,
        )
        | inr more ↦ rw (more.2, append_assoc, a.again more.0 (more.1 ++ rest))
            (omega (arith, second_shrinks more.0 (more.1 ++ rest), b.longest more.1 rest more.3))
      ];
  whole = λ v. inr (v.0, second_text v.1, refl, b.whole v.1);
  none = inl a.none;
}
