-- Reading by a grammar answers with the one value, or stops after the longest prefix.
use Rattle.std.proofs.Common.{◌≡◌, ◌≢◌, ℕ, ◌-◌, ◌≤◌, List, [], ◌∷◌, ◌++◌, length, Result, Ok, Err, refl, sym, ap, subst, ◌∙◌, rules}
use Rattle.std.proofs.lemmas.Bool.{ne_eqb}
use Rattle.std.proofs.lemmas.List.{append-nil, length-append, nil_from_length}
use Rattle.nix_drv.specs.Grammar.{Grammar, Fixed, Str, Then, Many, Value, text, IsText, IsTextPrefix, IsPrefixOfBytes, IsPrefixOfElements, IsLongestPrefix, first_byte, IsNoBracket, IsClear}
use Rattle.nix_drv.specs.private.Reading.{bytes_at, list_at, read, left_of}
use Rattle.nix_drv.proofs.Steps.{StopsAt, Told}
use Rattle.nix_drv.proofs.Strings.{bytes_text}
use Rattle.nix_drv.proofs.Readers.{IsReader, reader_shrinks, fixed_reader, bytes_reader, after_reader, both_reader}
use Rattle.nix_drv.proofs.Elements.{elements_text}
use Rattle.nix_drv.proofs.Lists.{RefusesBracket, list_reader}

-- what doesn't begin with the bracket refuses it
refuses_bracket : (g : Grammar) → IsNoBracket (first_byte g) → RefusesBracket (read g)
unfolding read
refuses_bracket (Fixed []) clear s = absurd clear
refuses_bracket (Fixed (b ∷ bytes)) clear s = rw (ne_eqb b 93 clear) refl
refuses_bracket Str clear s = refl
refuses_bracket (Then a b) clear s = rw (refuses_bracket a clear s) refl
refuses_bracket (Many order g) clear s = refl

-- reading is exact for every grammar that is clear
pub reader : (g : Grammar) → IsClear g → IsReader (text g) (IsTextPrefix g) (read g)
unfolding read text IsTextPrefix
reader (Fixed bytes) clear = fixed_reader _
reader Str clear = after_reader _ bytes_text IsPrefixOfBytes (bytes_at _) bytes_reader
reader (Then a b) clear = search (rules, both_reader, reader a clear.0, reader b clear.1)
reader (Many order g) clear =
    after_reader _ (elements_text (text g)) (IsPrefixOfElements (text g) (IsTextPrefix g))
    (list_at (read g))
    (list_reader (text g) (IsTextPrefix g) (read g) (reader g clear.0) (refuses_bracket g clear.1))

-- ---- what the public call cites

stops : (g : Grammar) → ((v : Value g) → IsTextPrefix g (text g v))
    → (s : List ℕ) (r : Result (Value g × List ℕ) ℕ) → Told (text g) (IsTextPrefix g) s r
    → StopsAt (IsTextPrefix g) s (left_of r)
stops g whole s (Ok x) told = search rules
stops g whole s (Err left) told = told

-- before what is left lies the longest prefix
pub read-longest : (g : Grammar) → IsClear g → (s : List ℕ)
    → IsLongestPrefix g s (length s - left_of (read g s))
read-longest g clear s = search (rules, reader, stops, length-append)

pub read-shrinks : (g : Grammar) → IsClear g → (s : List ℕ) → left_of (read g s) ≤ length s
read-shrinks g clear s = reader_shrinks (reader g clear) s

pub read-again : (g : Grammar) → IsClear g → (v : Value g) (rest : List ℕ)
    → read g (text g v ++ rest) ≡ Ok (v, rest)
read-again g clear v rest = (reader g clear).again v rest

-- a text is read whole
pub read-text : (g : Grammar) → IsClear g → (v : Value g) (s : List ℕ) → IsText g v s → read g s
    ≡ Ok (v, [])
read-text g clear v s is = ap (read g) (is ∙ sym (append-nil (text g v))) ∙ read-again g clear v []

-- what was read, and what is left
abbrev pub done : {A : Type 0} → A × List ℕ → Result (A × List ℕ) ℕ
done x = Ok x

ok_is : {A : Type 0} (x y : A × List ℕ) → done x ≡ done y → x ≡ y
ok_is x y e = cc

pub value_is : {A : Type 0} (x y : A × List ℕ) → done x ≡ done y → x.0 ≡ y.0
value_is {A} x y e = search (rules, ok_is)

pub rest_is : {A : Type 0} (x y : A × List ℕ) → done x ≡ done y → x.1 ≡ y.1
rest_is {A} x y e = search (rules, ok_is)

-- of a text nothing is left
pub read_whole : (g : Grammar) → IsClear g → (s : List ℕ) (v : Value g) (rest : List ℕ) → read g s
    ≡ Ok (v, rest) → length rest ≡ 0 → IsText g v s
read_whole g clear s v rest e none = search (rules, reader, nil_from_length, append-nil)

-- what leaves bytes is no text, and stands after the longest prefix
pub surplus_no_text : (g : Grammar) → IsClear g → (s : List ℕ) (w : Value g) (rest : List ℕ)
    → read g s ≡ Ok (w, rest) → length rest ≢ 0 → (v : Value g) → IsText g v s → ⊥
surplus_no_text g clear s w rest e some v is = search (rules, rest_is, read-text)

pub surplus_fits : (g : Grammar) → IsClear g → (s : List ℕ) (v : Value g) (rest : List ℕ) → read g s
    ≡ Ok (v, rest) → length rest ≤ length s
surplus_fits g clear s v rest e = subst (λ (r : Result (Value g × List ℕ) ℕ). left_of r ≤ length s)
    e (read-shrinks g clear s)

pub surplus_prefix : (g : Grammar) → IsClear g → (s : List ℕ) (v : Value g) (rest : List ℕ)
    → read g s ≡ Ok (v, rest) → IsLongestPrefix g s (length s - length rest)
surplus_prefix g clear s v rest e =
    subst (λ (r : Result (Value g × List ℕ) ℕ). IsLongestPrefix g s (length s - left_of r)) e
    (read-longest g clear s)

-- where reading stops lies no text, and the longest prefix before it
pub stop_no_text : (g : Grammar) → IsClear g → (s : List ℕ) (left : ℕ) → read g s ≡ Err left
    → (v : Value g) → IsText g v s → ⊥
stop_no_text g clear s left e v is = search (rules, read-text)

pub stop_fits : (g : Grammar) → IsClear g → (s : List ℕ) (left : ℕ) → read g s ≡ Err left → left
    ≤ length s
stop_fits g clear s left e = subst (λ (r : Result (Value g × List ℕ) ℕ). left_of r ≤ length s) e
    (read-shrinks g clear s)

pub stop_prefix : (g : Grammar) → IsClear g → (s : List ℕ) (left : ℕ) → read g s ≡ Err left
    → IsLongestPrefix g s (length s - left)
stop_prefix g clear s left e =
    subst (λ (r : Result (Value g × List ℕ) ℕ). IsLongestPrefix g s (length s - left_of r)) e
    (read-longest g clear s)
