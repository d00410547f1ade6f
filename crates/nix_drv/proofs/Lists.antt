-- A list after its first bracket is read exactly, where its elements don't begin with the last
-- bracket.
use Rattle.std.proofs.Common.{◌≡◌, ℕ, suc, ◌≤◌, List, [], ◌∷◌, ◌++◌, length, Result, Ok, Err, refl, ap, arith, inl, inr, rules}
use Rattle.std.proofs.lemmas.Bool.{eqb-true, cond_both}
use Rattle.nix_drv.specs.Grammar.{IsPrefixOfElements}
use Rattle.nix_drv.specs.private.Reading.{elements_of, list_at, left_of}
use Rattle.nix_drv.proofs.Steps.{Told}
use Rattle.nix_drv.proofs.Strings.{prefixes_of_one}
use Rattle.nix_drv.proofs.Readers.{IsReader, reader_shrinks}
use Rattle.nix_drv.proofs.Elements.{elements_text, PrefixOfSome, ToldSome, elements_open, elements_told, elements-again, elements_shrinks, part-longest, end-longest}

-- no element begins with the bracket that ends a list
abbrev pub RefusesBracket : {A : Type 0} → (List ℕ → Result (A × List ℕ) ℕ) → Type 0
RefusesBracket one = (s : List ℕ) → one (93 ∷ s) ≡ Err (suc (length s))

widened : {A : Type 0} (text_of : A → List ℕ) (IsPrefixOf : List ℕ → Type 0) (prefix : List ℕ)
    → PrefixOfSome text_of IsPrefixOf prefix → IsPrefixOfElements text_of IsPrefixOf prefix
widened text_of IsPrefixOf prefix (inl at) = inl at
widened text_of IsPrefixOf prefix (inr at) = inr (at.0 ∷ at.1, at.2, at.3, at.4)

widened_told : {A : Type 0} (text_of : A → List ℕ) (IsPrefixOf : List ℕ → Type 0) (s : List ℕ)
    (r : Result (List A × List ℕ) ℕ) → ToldSome text_of IsPrefixOf s r
    → Told (elements_text text_of) (IsPrefixOfElements text_of IsPrefixOf) s r
widened_told text_of IsPrefixOf s (Ok ([], rest)) told = absurd told
widened_told text_of IsPrefixOf s (Ok (v ∷ vs, rest)) told = told
widened_told text_of IsPrefixOf s (Err left) told = search (rules, widened)

some_list_told : {A : Type 0} {text_of : A → List ℕ} {IsPrefixOf : List ℕ → Type 0}
    {one : List ℕ → Result (A × List ℕ) ℕ} → IsReader text_of IsPrefixOf one → (s : List ℕ)
    → Told (elements_text text_of) (IsPrefixOfElements text_of IsPrefixOf) s (elements_of one s)
some_list_told {A} {text_of} {IsPrefixOf} {one} r s = search (rules, widened_told, elements_told)

list-told : {A : Type 0} {text_of : A → List ℕ} {IsPrefixOf : List ℕ → Type 0}
    {one : List ℕ → Result (A × List ℕ) ℕ} → IsReader text_of IsPrefixOf one → (s : List ℕ)
    → Told (elements_text text_of) (IsPrefixOfElements text_of IsPrefixOf) s (list_at one s)
list-told {A} {text_of} {IsPrefixOf} {one} r [] = some_list_told r []
list-told {A} {text_of} {IsPrefixOf} {one} r (b ∷ s) =
    cond_both _ _ _
    (Told (elements_text text_of) (IsPrefixOfElements text_of IsPrefixOf) (b ∷ s))
    (λ e. ap (λ (x : ℕ). x ∷ s) (eqb-true b 93 e))
    (λ _. some_list_told r (b ∷ s))

refused_elements : {A : Type 0} {text_of : A → List ℕ} {IsPrefixOf : List ℕ → Type 0}
    {one : List ℕ → Result (A × List ℕ) ℕ} → IsReader text_of IsPrefixOf one → RefusesBracket one
    → (s : List ℕ) → elements_of one (93 ∷ s) ≡ Err (suc (length s))
refused_elements {A} {text_of} {IsPrefixOf} {one} r refuses s =
    rw (elements_open one (reader_shrinks r) _, refuses s) refl

-- where elements are read the list isn't empty
list_opens : {A : Type 0} {text_of : A → List ℕ} {IsPrefixOf : List ℕ → Type 0}
    {one : List ℕ → Result (A × List ℕ) ℕ} → IsReader text_of IsPrefixOf one → RefusesBracket one
    → (s : List ℕ) (y : List A × List ℕ) → elements_of one s ≡ Ok y → list_at one s ≡ Ok y
list_opens r refuses [] y e = e
list_opens {A} {text_of} {IsPrefixOf} {one} r refuses (b ∷ s) y e =
    cond_both _ _ _ (λ x. x ≡ Ok y)
    (λ t. let bracket : elements_of one (b ∷ s)
    ≡ Err (suc (length s)) = rw (eqb-true b 93 t) (refused_elements r refuses s) in absurd cc)
    (λ _. e)

list_left : {A : Type 0} {text_of : A → List ℕ} {IsPrefixOf : List ℕ → Type 0}
    {one : List ℕ → Result (A × List ℕ) ℕ} → IsReader text_of IsPrefixOf one → RefusesBracket one
    → (s : List ℕ) → left_of (list_at one s) ≤ left_of (elements_of one s)
list_left r refuses [] = omega arith
list_left {A} {text_of} {IsPrefixOf} {one} r refuses (b ∷ s) =
    cond_both _ _ _
    (λ x. left_of x ≤ left_of (elements_of one (b ∷ s)))
    (λ t. rw (eqb-true b 93 t, refused_elements r refuses s) (omega arith))
    (λ _. omega arith)

list-longest : {A : Type 0} {text_of : A → List ℕ} {IsPrefixOf : List ℕ → Type 0}
    {one : List ℕ → Result (A × List ℕ) ℕ} → IsReader text_of IsPrefixOf one → RefusesBracket one
    → (prefix rest : List ℕ) → IsPrefixOfElements text_of IsPrefixOf prefix
    → left_of (list_at one (prefix ++ rest)) ≤ length rest
list-longest {A} {text_of} {IsPrefixOf} {one} r refuses prefix rest (inl at) =
    omega (
      arith,
      list_left r refuses (prefix ++ rest),
      let part : left_of (elements_of one (prefix ++ rest))
          ≤ length rest = rw at.2 (part-longest r _ _ _ at.3) in part,
    )
list-longest {A} {text_of} {IsPrefixOf} {one} r refuses prefix rest (inr ([], last, e, at)) =
    rw e (elim (prefixes_of_one _ last at.0 at.1) [
      | inl none ↦ rw none (omega (arith, list_left r refuses rest, elements_shrinks r rest))
      | inr one ↦ rw one (omega arith)
    ])
list-longest {A} {text_of} {IsPrefixOf} {one} r refuses prefix rest (inr (v ∷ vs, last, e, at)) =
    omega (
      arith,
      list_left r refuses (prefix ++ rest),
      let ended : left_of (elements_of one (prefix ++ rest))
          ≤ length rest = rw e (end-longest r v _ _ _ at) in ended,
    )

list-again : {A : Type 0} {text_of : A → List ℕ} {IsPrefixOf : List ℕ → Type 0}
    {one : List ℕ → Result (A × List ℕ) ℕ} → IsReader text_of IsPrefixOf one → RefusesBracket one
    → (vs : List A) (rest : List ℕ) → list_at one (elements_text text_of vs ++ rest) ≡ Ok (vs, rest)
list-again r refuses [] rest = refl
list-again {A} {text_of} {IsPrefixOf} {one} r refuses (v ∷ vs) rest =
    search (rules, list_opens, elements_text, elements-again)

pub list_reader : {A : Type 0} (text_of : A → List ℕ) (IsPrefixOf : List ℕ → Type 0)
    (one : List ℕ → Result (A × List ℕ) ℕ) → IsReader text_of IsPrefixOf one → RefusesBracket one
    → IsReader (elements_text text_of) (IsPrefixOfElements text_of IsPrefixOf) (list_at one)
list_reader text_of IsPrefixOf one r refuses = record {
  told = list-told r;
  again = list-again r refuses;
  longest = list-longest r refuses;
  whole = λ vs. inr (vs, 93 ∷ [], refl, ([], refl));
  none = inl ([], [], refl, r.none);
}
