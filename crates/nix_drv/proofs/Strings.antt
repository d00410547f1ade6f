-- A string's bytes are read exactly.
use Rattle.std.proofs.Common.{◌≡◌, ℕ, suc, ◌≤◌, Bool, true, false, eqb, List, [], ◌∷◌, ◌++◌, length, None, Result, Ok, Err, refl, sym, ap, subst, ◌∙◌, append_assoc, arith, inl, inr, ◌⊎◌, rules}
use Rattle.std.specs.List.{flat_map}
use Rattle.std.proofs.lemmas.Bool.{cases_Bool, eqb-true}
use Rattle.nix_drv.specs.Strings.{spelling, unescaped}
use Rattle.nix_drv.specs.Grammar.{Begins, IsPrefixOfBytes}
use Rattle.nix_drv.specs.private.Reading.{before, bytes_at, left_of}
use Rattle.nix_drv.proofs.Steps.{StopsAt, Told, Longest, left-before, before_none, before-before}
use Rattle.std.proofs.lemmas.List.{append-nil}

-- a byte that a string has in its text as itself
pub record IsPlain (b : ℕ) : Type 0 where
  pub no_quote : eqb b 34 ≡ false
  pub no_backslash : eqb b 92 ≡ false
  pub no_newline : eqb b 10 ≡ false
  pub no_return : eqb b 13 ≡ false
  pub no_tab : eqb b 9 ≡ false

-- every byte is one of the five or plain
pub by_byte : (P : ℕ → Type 0) → P 34 → P 92 → P 10 → P 13 → P 9 → ((b : ℕ) → IsPlain b → P b)
    → (b : ℕ) → P b
by_byte P quote backslash newline back tab plain b =
    elim (cases_Bool (eqb b 34)) [
      | inl e ↦ subst P (sym (eqb-true b 34 e)) quote
      | inr a ↦ elim (cases_Bool (eqb b 92)) [
        | inl e ↦ subst P (sym (eqb-true b 92 e)) backslash
        | inr c ↦ elim (cases_Bool (eqb b 10)) [
          | inl e ↦ subst P (sym (eqb-true b 10 e)) newline
          | inr d ↦ elim (cases_Bool (eqb b 13)) [
            | inl e ↦ subst P (sym (eqb-true b 13 e)) back
            | inr f ↦ elim (cases_Bool (eqb b 9)) [
              | inl e ↦ subst P (sym (eqb-true b 9 e)) tab
              | inr g ↦ plain b
                  (record {
                    no_quote = a;
                    no_backslash = c;
                    no_newline = d;
                    no_return = f;
                    no_tab = g;
                  })
            ]
          ]
        ]
      ]
    ]

-- every byte is one that an escape ends with, or no escape does
pub by_letter : (P : ℕ → Type 0) → P 34 → P 92 → P 110 → P 114 → P 116
    → ((b : ℕ) → unescaped b ≡ None → P b) → (b : ℕ) → P b
by_letter P quote backslash n r t other b = search (rules, cases_Bool, eqb, eqb-true)

pub spelling-plain : (b : ℕ) → IsPlain b → spelling b ≡ b ∷ []
unfolding spelling
spelling-plain b plain = search rules

pub bytes_at-plain : (b : ℕ) (s : List ℕ) → IsPlain b → bytes_at false (b ∷ s)
    ≡ before (b ∷ []) (bytes_at false s)
unfolding bytes_at
bytes_at-plain b s plain = search rules

pub bytes_at-refused : (b : ℕ) (s : List ℕ) → unescaped b ≡ None → bytes_at true (b ∷ s)
    ≡ Err (suc (length s))
unfolding bytes_at
bytes_at-refused b s none = rw (none, bytes_at) refl

-- a spelling is read as its byte
pub bytes_at-spelling : (b : ℕ) (s : List ℕ) → bytes_at false (spelling b ++ s)
    ≡ before (b ∷ []) (bytes_at false s)
unfolding spelling bytes_at
bytes_at-spelling b s = search (rules, by_byte, spelling-plain, bytes_at-plain)

-- ---- what is read

abbrev pub bytes_text : List ℕ → List ℕ
bytes_text v = flat_map spelling v ++ 34 ∷ []

told_before : (b : ℕ) (s : List ℕ) (r : Result (List ℕ × List ℕ) ℕ)
    → Told bytes_text IsPrefixOfBytes s r → Told bytes_text IsPrefixOfBytes (spelling b ++ s)
    (before (b ∷ []) r)
told_before b s (Ok x) told = search (rules, append_assoc)
told_before b s (Err left) told = record {
  prefix = spelling b ++ told.prefix;
  rest = told.rest;
  parts = ap (λ (t : List ℕ). spelling b ++ t) told.parts ∙ simp append_assoc;
  is_prefix = (
    b ∷ told.is_prefix.0,
    told.is_prefix.1,
    ap (λ (t : List ℕ). spelling b ++ t) told.is_prefix.2 ∙ simp append_assoc,
    told.is_prefix.3,
  );
  is_left = told.is_left;
}

-- nothing of what comes is part of a string
stops_here : (s : List ℕ) (left : ℕ) → length s ≡ left → StopsAt IsPrefixOfBytes s left
stops_here s left e = search rules

-- a backslash can still become an escape, and what follows it cannot
stops_after : (s : List ℕ) (left : ℕ) → length s ≡ left → StopsAt IsPrefixOfBytes (92 ∷ s) left
unfolding spelling
stops_after s left e = record {
  prefix = 92 ∷ [];
  rest = s;
  parts = refl;
  is_prefix = ([], 92 ∷ [], refl, inl (34, (34 ∷ [], refl)));
  is_left = e;
}

-- the backslash that was read
abbrev pub lead : Bool → List ℕ
lead true = 92 ∷ []
lead false = []

pub bytes-told : (escaped : Bool) (s : List ℕ)
    → Told bytes_text IsPrefixOfBytes (lead escaped ++ s) (bytes_at escaped s)
unfolding spelling bytes_at
bytes-told true [] = stops_after [] 0 refl
bytes-told false [] = stops_here [] 0 refl
bytes-told true (b ∷ s) =
    search (
      rules,
      by_letter,
      bytes_text,
      told_before,
      bytes_at-refused,
      stops_after,
      bytes-told false s,
    )
bytes-told false (b ∷ s) =
    search (
      rules,
      by_byte,
      bytes_text,
      stops_here,
      bytes_at-plain,
      spelling-plain,
      told_before,
      bytes-told true s,
      bytes-told false s,
    )

pub bytes_at-spellings : (v s : List ℕ) → bytes_at false (flat_map spelling v ++ s)
    ≡ before v (bytes_at false s)
bytes_at-spellings [] s = sym (before_none _)
bytes_at-spellings (b ∷ v) s =
    search (rules, append_assoc, bytes_at-spelling, before-before, bytes_at-spellings v s)

pub bytes-again : (v rest : List ℕ) → bytes_at false (bytes_text v ++ rest) ≡ Ok (v, rest)
unfolding bytes_at
bytes-again v rest = search (rules, append_assoc, bytes_at-spellings, append-nil)

pub bytes-shrinks : (escaped : Bool) (s : List ℕ) → left_of (bytes_at escaped s) ≤ length s
unfolding bytes_at
bytes-shrinks escaped [] = omega arith
bytes-shrinks true (b ∷ s) =
    search (rules, by_letter, left-before, bytes_at-refused, bytes-shrinks false s)
bytes-shrinks false (b ∷ s) =
    search (
      rules,
      by_byte,
      bytes_at-plain,
      left-before,
      bytes-shrinks true s,
      bytes-shrinks false s,
    )

-- ---- how far is read

nil_of_nil : (prefix more : List ℕ) → [] ≡ prefix ++ more → prefix ≡ []
nil_of_nil [] more e = refl
nil_of_nil (x ∷ prefix) more e = absurd cc

pub prefixes_of_one : (x : ℕ) (prefix more : List ℕ) → x ∷ [] ≡ prefix ++ more → (prefix ≡ [])
    ⊎ (prefix ≡ x ∷ [])
prefixes_of_one x [] more e = inl refl
prefixes_of_one x (y ∷ prefix) more e = search (rules, nil_of_nil)

prefixes_of_two : (x y : ℕ) (prefix more : List ℕ) → x ∷ y ∷ [] ≡ prefix ++ more → (prefix ≡ [])
    ⊎ (prefix ≡ x ∷ []) ⊎ (prefix ≡ x ∷ y ∷ [])
prefixes_of_two x y [] more e = inl refl
prefixes_of_two x y (z ∷ prefix) more e = search (rules, prefixes_of_one)

-- a beginning of a spelling is empty, a backslash, or whole
prefixes_of_spelling : (b : ℕ) (prefix more : List ℕ) → spelling b ≡ prefix ++ more → (prefix ≡ [])
    ⊎ (prefix ≡ 92 ∷ []) ⊎ (prefix ≡ spelling b)
unfolding spelling
prefixes_of_spelling = search (rules, by_byte, prefixes_of_two, prefixes_of_one, spelling-plain)

-- a last prefix that is none, a backslash, a spelling or the quote leaves nothing more to read
last_leaves : (last rest : List ℕ) → ((b : ℕ) × Begins last (spelling b)) ⊎ Begins last (34 ∷ [])
    → left_of (bytes_at false (last ++ rest)) ≤ length rest
unfolding bytes_at
last_leaves last rest (inl at) =
    search (rules, prefixes_of_spelling, bytes-shrinks, bytes_at-spelling, left-before)
last_leaves last rest (inr at) = search (rules, prefixes_of_one, bytes-shrinks)

pub bytes-longest : Longest IsPrefixOfBytes (bytes_at false)
bytes-longest prefix rest at =
    search (rules, append_assoc, bytes_at-spellings, left-before, last_leaves)
