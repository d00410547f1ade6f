-- A prefix is just a beginning of a text, in every grammar.
use Rattle.std.proofs.Common.{◌≡◌, ◌⊎◌, inl, inr, ℕ, List, [], ◌∷◌, ◌++◌, refl, sym, ap, ◌∙◌, append_assoc, rules}
use Rattle.std.specs.List.{flat_map}
use Rattle.std.proofs.lemmas.List.{append-nil}
use Rattle.nix_drv.specs.Strings.{spelling}
use Rattle.nix_drv.specs.Grammar.{Grammar, Fixed, Str, Then, Many, Value, text, separated, each_with_comma, Begins, IsTextPrefix, IsPrefixOfBytes, IsPrefixOfElements}
use Rattle.nix_drv.specs.Laws.{PrefixesBeginTexts}
use Rattle.nix_drv.proofs.Elements.{PrefixOfSome}

-- a beginning of two parts is one of the first, or the first and a beginning of the second
begins_parts : (prefix x y rest : List ℕ) → x ++ y ≡ prefix ++ rest → Begins prefix x
    ⊎ ((more : List ℕ) × (prefix ≡ x ++ more) × Begins more y)
begins_parts prefix [] y rest e = inr (prefix, refl, (rest, e))
begins_parts [] (b ∷ x) y rest e = inl (b ∷ x, refl)
begins_parts (c ∷ prefix) (b ∷ x) y rest e =
    let head : b ≡ c = cc in
    let tail : x ++ y ≡ prefix ++ rest = cc in
    elim (begins_parts prefix x y rest tail) [
      | inl at ↦ inl (
        at.0,
        ap (λ (t : List ℕ). b ∷ t) at.1
            ∙ ap (λ (k : ℕ). k ∷ (prefix ++ at.0)) head,
      )
      | inr at ↦ inr (
        at.0,
        ap (λ (t : List ℕ). c ∷ t) at.1
            ∙ ap (λ (k : ℕ). k ∷ (x ++ at.0)) (sym head),
        at.2,
      )
    ]

begins_more : (prefix x y : List ℕ) → Begins prefix x → Begins prefix (x ++ y)
begins_more prefix x y at =
    (at.0 ++ y, ap (λ (t : List ℕ). t ++ y) at.1 ∙ append_assoc prefix at.0 y)

-- ---- a beginning is a prefix

begins_bytes : (v more rest : List ℕ) → flat_map spelling v ++ 34 ∷ [] ≡ more ++ rest
    → IsPrefixOfBytes more
begins_bytes [] more rest e = ([], more, refl, inr (rest, e))
begins_bytes (b ∷ v) more rest e =
    elim (begins_parts _ _ _ _
    (sym (append_assoc (spelling b) (flat_map spelling v) (34 ∷ [])) ∙ e)) [
      | inl at ↦ ([], more, refl, inl (b, at))
      | inr at ↦ let later : IsPrefixOfBytes at.0 = begins_bytes v _ _ at.2.1 in (
        b ∷ later.0,
        later.1,
        at.1 ∙ ap (λ (t : List ℕ). spelling b ++ t) later.2
            ∙ sym (append_assoc (spelling b) (flat_map spelling later.0) later.1),
        later.3,
      )
    ]

-- after the text of an element stands a comma, and a beginning of the others
begins_after : {A : Type 0} (text_of : A → List ℕ) (IsPrefixOf : List ℕ → Type 0) (v w : A)
    (vs : List A) (after rest : List ℕ) → 44 ∷ separated text_of (w ∷ vs) ++ 93 ∷ [] ≡ after
    ++ rest
    → ((more later : List ℕ) → separated text_of (w ∷ vs) ++ 93 ∷ [] ≡ more ++ later
    → PrefixOfSome text_of IsPrefixOf more) → PrefixOfSome text_of IsPrefixOf (text_of v ++ after)
begins_after text_of IsPrefixOf v w vs [] rest e others = inr (v, [], [], refl, (93 ∷ [], refl))
begins_after {A} text_of IsPrefixOf v w vs (c ∷ after) rest e others =
    let comma : 44 ≡ c = cc in
    let tail : separated text_of (w ∷ vs) ++ 93 ∷ [] ≡ after ++ rest = cc in
    let here : (t : List ℕ) → after ≡ t → text_of v ++ c ∷ after ≡ text_of v ++ 44
    ∷ t = λ t is. ap (λ (s : List ℕ). text_of v ++ c ∷ s) is
    ∙ ap (λ (k : ℕ). text_of v ++ k ∷ t) (sym comma) in
    elim (others after rest tail) [
      | inl at ↦ inl (
        v ∷ at.0,
        at.1,
        here (each_with_comma text_of at.0 ++ at.1) at.2
            ∙ simp append_assoc,
        at.3,
      )
      | inr at ↦ inr (
        v,
        at.0 ∷ at.1,
        at.2,
        here (separated text_of (at.0 ∷ at.1) ++ at.2) at.3
            ∙ simp append_assoc,
        at.4,
      )
    ]

begins_some : {A : Type 0} (text_of : A → List ℕ) (IsPrefixOf : List ℕ → Type 0)
    → ((v : A) (f : List ℕ) → Begins f (text_of v) → IsPrefixOf f)
    → (v : A) (vs : List A) (more rest : List ℕ) → separated text_of (v ∷ vs) ++ 93 ∷ [] ≡ more
    ++ rest → PrefixOfSome text_of IsPrefixOf more
begins_some text_of IsPrefixOf one v [] more rest e =
    elim (begins_parts _ _ _ _ e)
    [ inl at ↦ inl ([], more, refl, one v more at) | inr at ↦ inr (v, [], at.0, at.1, at.2) ]
begins_some {A} text_of IsPrefixOf one v (w ∷ vs) more rest e =
    elim (begins_parts _ _ _ _
    (sym (append_assoc (text_of v) (44 ∷ separated text_of (w ∷ vs)) (93 ∷ [])) ∙ e)) [
      | inl at ↦ inl ([], more, refl, one v more at)
      | inr at ↦
          let some : PrefixOfSome text_of IsPrefixOf (text_of v ++ at.0) =
          begins_after text_of IsPrefixOf v w _ _ _ at.2.1
          (λ t later is. begins_some text_of IsPrefixOf one w vs t later is) in
          rw at.1 some
    ]

begins_elements : {A : Type 0} (text_of : A → List ℕ) (IsPrefixOf : List ℕ → Type 0)
    → ((v : A) (f : List ℕ) → Begins f (text_of v) → IsPrefixOf f)
    → (vs : List A) (more rest : List ℕ) → separated text_of vs ++ 93 ∷ [] ≡ more ++ rest
    → IsPrefixOfElements text_of IsPrefixOf more
begins_elements text_of IsPrefixOf one [] more rest e = inr ([], more, refl, (rest, e))
begins_elements {A} text_of IsPrefixOf one (v ∷ vs) more rest e =
    elim (begins_some text_of IsPrefixOf one v _ more rest e)
    [ inl at ↦ inl at | inr at ↦ inr (at.0 ∷ at.1, at.2, at.3, at.4) ]

-- a beginning of a byte and more is none, or the byte and a beginning of the rest
begins_byte : (b : ℕ) (s prefix rest : List ℕ) (P : List ℕ → Type 0)
    → ((more later : List ℕ) → s ≡ more ++ later → P more) → b ∷ s ≡ prefix ++ rest
    → Begins prefix (b ∷ []) ⊎ ((more : List ℕ) × (prefix ≡ b ∷ more) × P more)
begins_byte b s [] rest P others e = inl (b ∷ [], refl)
begins_byte b s (c ∷ more) rest P others e = search rules

begins_prefix : (g : Grammar) (v : Value g) (prefix : List ℕ) → Begins prefix (text g v)
    → IsTextPrefix g prefix
unfolding text IsTextPrefix
begins_prefix (Fixed bytes) v prefix at = at
begins_prefix Str v prefix at = begins_byte _ _ _ _ IsPrefixOfBytes (begins_bytes v) at.1
begins_prefix (Then a b) v prefix at =
    elim (begins_parts _ _ _ _ at.1) [
      | inl first ↦ inl (begins_prefix a v.0 prefix first)
      | inr second ↦ inr (v.0, second.0, second.1, begins_prefix b _ _ second.2)
    ]
begins_prefix (Many order g) vs prefix at =
    begins_byte _ _ _ _
    (IsPrefixOfElements (text g) (IsTextPrefix g))
    (begins_elements (text g) (IsTextPrefix g) (begins_prefix g) _) at.1

-- ---- a prefix is a beginning

-- each grammar has a value
some_value : (g : Grammar) → Value g
some_value (Fixed bytes) = tt
some_value Str = []
some_value (Then a b) = (some_value a, some_value b)
some_value (Many order g) = []

spellings-append : (v w : List ℕ) → flat_map spelling (v ++ w) ≡ flat_map spelling v
    ++ flat_map spelling w
spellings-append [] w = refl
spellings-append (b ∷ v) w = search (rules, append_assoc, spellings-append v w)

bytes_begin : (more : List ℕ) → IsPrefixOfBytes more → (v : List ℕ)
    × Begins more (flat_map spelling v ++ 34 ∷ [])
bytes_begin more (at0, at1, at2, inl at) =
    let one : flat_map spelling (at.0 ∷ []) ≡ at1 ++ at.1.0 =
    append-nil (spelling at.0) ∙ at.1.1 in (
      at0 ++ at.0 ∷ [],
      (at.1.0 ++ 34 ∷ [], rw (spellings-append _ _, one, at2) (simp append_assoc)),
    )
bytes_begin more (at0, at1, at2, inr at) = (
  at0,
  (
    at.0,
    ap (λ (t : List ℕ). flat_map spelling at0 ++ t) at.1
        ∙ sym (append_assoc (flat_map spelling at0) at1 at.0)
        ∙ ap (λ (t : List ℕ). t ++ at.0) (sym at2),
  ),
)

-- elements with one more after them
separated-last : {A : Type 0} (text_of : A → List ℕ) (whole : List A) (v : A)
    → separated text_of (whole ++ v ∷ []) ≡ each_with_comma text_of whole ++ text_of v
separated-last text_of [] v = refl
separated-last text_of (w ∷ []) v = search (rules, append_assoc)
separated-last text_of (w ∷ u ∷ whole) v =
    search (rules, append_assoc, separated-last text_of (u ∷ whole) v)

elements_begin : {A : Type 0} (text_of : A → List ℕ) (IsPrefixOf : List ℕ → Type 0)
    → ((f : List ℕ) → IsPrefixOf f → (v : A) × Begins f (text_of v)) → (more : List ℕ)
    → IsPrefixOfElements text_of IsPrefixOf more → (vs : List A)
    × Begins more (separated text_of vs ++ 93 ∷ [])
elements_begin text_of IsPrefixOf one more (inl at) =
    let last = one at.1 at.3 in (
      at.0 ++ last.0 ∷ [],
      (
        last.1.0 ++ 93 ∷ [],
        rw (separated-last text_of _ _, last.1.1, at.2)
            (simp append_assoc),
      ),
    )
elements_begin text_of IsPrefixOf one more (inr at) = search (rules, append_assoc)

prefix_begins : (g : Grammar) (prefix : List ℕ) → IsTextPrefix g prefix → (v : Value g)
    × Begins prefix (text g v)
unfolding text IsTextPrefix
prefix_begins (Fixed bytes) prefix at = (tt, at)
prefix_begins Str prefix (inl at) = ([], begins_more _ _ _ at)
prefix_begins Str prefix (inr at) =
    let whole = bytes_begin _ at.2 in (
      whole.0,
      (
        whole.1.0,
        ap (λ (t : List ℕ). 34 ∷ t) whole.1.1
            ∙ ap (λ (t : List ℕ). t ++ whole.1.0) (sym at.1),
      ),
    )
prefix_begins (Then a b) prefix (inl at) =
    let first = prefix_begins a _ at in
    ((first.0, some_value b), begins_more _ _ _ first.1)
prefix_begins (Then a b) prefix (inr at) =
    let second = prefix_begins b _ at.3 in (
      (at.0, second.0),
      (
        second.1.0,
        ap (λ (t : List ℕ). text a at.0 ++ t) second.1.1
            ∙ sym (append_assoc (text a at.0) at.1 second.1.0)
            ∙ ap (λ (t : List ℕ). t ++ second.1.0) (sym at.2),
      ),
    )
prefix_begins (Many order g) prefix (inl at) = ([], begins_more _ _ _ at)
prefix_begins (Many order g) prefix (inr at) =
    let whole = elements_begin (text g) (IsTextPrefix g) (prefix_begins g) _ at.2 in (
      whole.0,
      (
        whole.1.0,
        ap (λ (t : List ℕ). 91 ∷ t) whole.1.1
            ∙ ap (λ (t : List ℕ). t ++ whole.1.0) (sym at.1),
      ),
    )

pub prefixes_begin_texts : (g : Grammar) → PrefixesBeginTexts g
prefixes_begin_texts g prefix = (prefix_begins g _, λ (v, at). begins_prefix g v _ at)
