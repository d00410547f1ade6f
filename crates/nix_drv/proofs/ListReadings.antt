-- Reading the elements of a list one by one.
use Rattle.std.proofs.Common.{◌≡◌, ℕ, suc, ◌≤◌, eqb, List, [], ◌∷◌, ◌++◌, length, map, Result, Ok, Err, refl, sym, ap, subst, ◌∙◌, rules}
use Rattle.std.proofs.lemmas.Bool.{cases_Bool}
use Rattle.std.proofs.lemmas.List.{map-append}
use Rattle.nix_drv.specs.declared.fault.ParseFault.{ParseFault}
use Rattle.nix_drv.specs.declared.fault.ParseFault.TheVariants.{NoMemory, Left}
use Rattle.nix_drv.specs.declared.element.Next.{Next}
use Rattle.nix_drv.specs.declared.element.Next.TheVariants.{Comma, End}
use Rattle.nix_drv.specs.Grammar.{Grammar, Free, Many, IsClear}
use Rattle.nix_drv.specs.private.Reading.{◌>>=◌, before, next_at, elements_of, read, left_of}
use Rattle.nix_drv.specs.private.Listings.{sign_at}
use Rattle.nix_drv.specs.private.ParseFaults.{Fails}
use Rattle.nix_drv.proofs.Steps.{before-before}
use Rattle.nix_drv.proofs.Readers.{reader_shrinks}
use Rattle.nix_drv.proofs.Elements.{elements_open}
use Rattle.nix_drv.proofs.Exact.{reader}

-- what follows an element by the sign after it
abbrev follow : {A : Type 0} → (List ℕ → Result (List A × List ℕ) ℕ) → A → Next × List ℕ
    → Result (List A × List ℕ) ℕ
follow others v (Comma, rest) = before (v ∷ []) (others rest)
follow others v (End, rest) = Ok (v ∷ [], rest)

next_open : {A : Type 0} (others : List ℕ → Result (List A × List ℕ) ℕ) (v : A) (s : List ℕ)
    → next_at others v s ≡ (sign_at s >>= follow others v)
next_open others v [] = refl
next_open others v (b ∷ s) = search (rules, cases_Bool, eqb)

-- a sign is one byte
abbrev OneLess : ℕ → Result (Next × List ℕ) ℕ → Type 0
OneLess n (Ok x) = suc (length x.1) ≡ n
OneLess n (Err left) = Unit {0}

sign_is_one : (s : List ℕ) → OneLess (length s) (sign_at s)
sign_is_one [] = tt
sign_is_one (b ∷ s) = search (rules, cases_Bool, eqb)

sign_shorter : (s : List ℕ) (x : Next × List ℕ) → sign_at s ≡ Ok x → suc (length x.1) ≡ length s
sign_shorter s x e = subst (OneLess (length s)) e (sign_is_one s)

-- reading an element leaves no more
pub form_shrinks : (g : Grammar) → IsClear (Many Free g) → (s : List ℕ) → left_of (read g s)
    ≤ length s
form_shrinks g clear s = reader_shrinks (reader g clear.0) s

abbrev with_sign : {A : Type 0} → (List ℕ → Result (A × List ℕ) ℕ) → A × List ℕ
    → Result (List A × List ℕ) ℕ
with_sign one x = sign_at x.1 >>= follow (elements_of one) x.0

open_sign : {A : Type 0} (one : List ℕ → Result (A × List ℕ) ℕ)
    → ((s : List ℕ) → left_of (one s) ≤ length s) → (s : List ℕ) → elements_of one s
    ≡ (one s >>= with_sign one)
open_sign {A} one h s = search (rules, with_sign, next_open, elements_open)

-- no element was read, and so no list
pub element_fails : {A : Type 0} (one : List ℕ → Result (A × List ℕ) ℕ)
    → ((s : List ℕ) → left_of (one s) ≤ length s)
    → (stop : ParseFault) (items : List A) (s : List ℕ) (total : Result (List A × List ℕ) ℕ)
    → before items (elements_of one s) ≡ total → Fails stop (one s) → Fails stop total
element_fails one h NoMemory items s total so_far fails = tt
element_fails {A} one h (Left left) items s total so_far fails =
    search (rules, open_sign, with_sign)

after_element : {A : Type 0} (one : List ℕ → Result (A × List ℕ) ℕ)
    → ((s : List ℕ) → left_of (one s) ≤ length s)
    → (items : List A) (s : List ℕ) (v : A) (after : List ℕ) (total : Result (List A × List ℕ) ℕ)
    → before items (elements_of one s) ≡ total → one s ≡ Ok (v, after)
    → before items (sign_at after >>= follow (elements_of one) v) ≡ total
after_element {A} one h items s v after total so_far e = search (rules, open_sign, with_sign)

-- neither a comma nor the end stands after the element
pub sign_fails : {A : Type 0} (one : List ℕ → Result (A × List ℕ) ℕ)
    → ((s : List ℕ) → left_of (one s) ≤ length s)
    → (stop : ParseFault) (items : List A) (s : List ℕ) (v : A) (after : List ℕ)
    (total : Result (List A × List ℕ) ℕ)
    → before items (elements_of one s) ≡ total → one s ≡ Ok (v, after) → Fails stop (sign_at after)
    → Fails stop total
sign_fails one h NoMemory items s v after total so_far e fails = tt
sign_fails {A} one h (Left left) items s v after total so_far e fails =
    sym (after_element one h _ s v _ _ so_far e)
    ∙ ap (λ (r : Result (Next × List ℕ) ℕ). before items (r >>= follow (elements_of one) v))
    fails

-- one more element, and a comma
pub element_more : {A : Type 0} (one : List ℕ → Result (A × List ℕ) ℕ)
    → ((s : List ℕ) → left_of (one s) ≤ length s)
    → (items : List A) (s : List ℕ) (v : A) (after rest : List ℕ)
    (total : Result (List A × List ℕ) ℕ)
    → before items (elements_of one s) ≡ total → one s ≡ Ok (v, after) → sign_at after
    ≡ Ok (Comma, rest) → before (items ++ v ∷ []) (elements_of one rest) ≡ total
element_more one h items s v after rest total so_far e sign =
    sym (before-before items (v ∷ []) _)
    ∙ sym (ap (λ (r : Result (Next × List ℕ) ℕ).
    before items (r >>= follow (elements_of one) v)) sign)
    ∙ after_element one h _ s v _ _ so_far e

-- the last element, and the end of the list
pub element_last : {A : Type 0} (one : List ℕ → Result (A × List ℕ) ℕ)
    → ((s : List ℕ) → left_of (one s) ≤ length s)
    → (items : List A) (s : List ℕ) (v : A) (after rest : List ℕ)
    (total : Result (List A × List ℕ) ℕ)
    → before items (elements_of one s) ≡ total → one s ≡ Ok (v, after) → sign_at after
    ≡ Ok (End, rest) → total ≡ Ok (items ++ v ∷ [], rest)
element_last one h items s v after rest total so_far e sign =
    sym (after_element one h _ s v _ _ so_far e)
    ∙ ap (λ (r : Result (Next × List ℕ) ℕ). before items (r >>= follow (elements_of one) v))
    sign

-- an element and its sign leave less
pub element_shorter : {A : Type 0} (one : List ℕ → Result (A × List ℕ) ℕ)
    → ((s : List ℕ) → left_of (one s) ≤ length s)
    → (s : List ℕ) (v : A) (after : List ℕ) (x : Next × List ℕ) → one s ≡ Ok (v, after)
    → sign_at after ≡ Ok x → suc (length x.1) ≤ length s
element_shorter {A} one h s v after x e sign = search (rules, sign_shorter)

-- the values of the elements with one more
pub more_values : {A B : Type 0} (value : A → B) (old new : List A) (x : A) → new ≡ old ++ x ∷ []
    → map value new ≡ map value old ++ value x ∷ []
more_values value old new x e = search (rules, map-append)
