-- A list's text, element by element.
use Rattle.std.proofs.Common.{◌≡◌, ℕ, ◌-◌, ◌≤◌, List, [], ◌∷◌, ◌++◌, length, get_or, take, drop, map, sym, append_assoc, arith, rules}
use Rattle.std.proofs.lemmas.List.{append-nil, take_all, drop_all}
use Rattle.nix_drv.specs.Grammar.{Grammar, Value, text, separated}
use Rattle.nix_drv.specs.private.Listings.{list_text, others_text}

pub separated-others : {A : Type 0} (text_of : A → List ℕ) (v : A) (vs : List A)
    → separated text_of (v ∷ vs) ≡ text_of v ++ others_text text_of vs
separated-others text_of v [] = sym (append-nil (text_of v))
separated-others text_of v (w ∷ vs) = search (rules, separated-others text_of w vs)

rest_from_head : {A : Type 0} (xs : List A) (x : A) → 1 ≤ length xs → x ≡ get_or xs 0 x → x
    ∷ take (length xs - 1) (drop 1 xs) ≡ xs
rest_from_head [] x long e = absurd (omega arith)
rest_from_head {A} (y ∷ xs) x long e = search (rules, take_all)

-- no elements are left to be written
pub others_written : {A : Type 0} (g : Grammar) (value : A → Value g) (old out : List ℕ)
    (others : List A) (i : ℕ)
    → out ++ others_text (text g) (map value (drop i others)) ≡ old
    ++ others_text (text g) (map value others)
    → length others ≤ i → out ≡ old ++ others_text (text g) (map value others)
others_written {A} g value old out others i so_far past = search (rules, drop_all, append-nil)

-- a list of one element and others is written
pub list_written : {A : Type 0} (g : Grammar) (value : A → Value g)
    (before opened first out : List ℕ) (xs : List A) (x : A) → 1 ≤ length xs → x ≡ get_or xs 0 x
    → opened ≡ before ++ 91 ∷ [] → first ≡ opened ++ text g (value x)
    → out ≡ first ++ others_text (text g) (map value (take (length xs - 1) (drop 1 xs)))
    → out ++ 93 ∷ [] ≡ before ++ list_text (text g) (map value xs)
list_written {A} g value before opened first out xs x long is_first open_is first_is out_is =
    search (rules, rest_from_head, separated-others, append_assoc)
