-- A number, and the text that is found for it.
use Rattle.std.proofs.Common.{◌≡◌, ◌∙◌, ℕ, ◌<◌, ◌≤◌, List, ◌++◌, Result, Ok, Err, if◌then◌else◌, ap, codes, length, map, get_or, subst, Some, None, rules}
use Rattle.std.specs.Prelude.{OnOk, decimal, slice_get}
use Rattle.std.specs.Result.{is_ok}
use Rattle.std.specs.declared.alloc.AllocError.{AllocError}
use Rattle.std.proofs.lemmas.List.{append_assoc, length-map}
use Rattle.std.proofs.lemmas.Option.{slice_get-map, slice_get_past, slice_get_read}
use Rattle.run_report.specs.Words.{text_or_number, with_text, with_value}

-- an element of a mapped list
pub found_mapped : {A B : Type 0} (f : A → B) (xs : List A) (ys : List B) (n : ℕ) (x : A) → n
    < length xs → x ≡ get_or xs n x → map f xs ≡ ys → slice_get ys n ≡ Some (f x)
found_mapped f xs ys n x below is all = search (rules, slice_get-map, slice_get_read)

pub found_again : {A B : Type 0} (f : A → B) (xs : List A) (n : ℕ) (x : A) → slice_get xs n ≡ Some x
    → slice_get (map f xs) n ≡ Some (f x)
found_again f xs n x at = search (rules, slice_get-map)

-- a mapped list has no element past its end
pub none_mapped : {A B : Type 0} (f : A → B) (xs : List A) (ys : List B) (n : ℕ) → length xs ≤ n
    → map f xs ≡ ys → slice_get ys n ≡ None
none_mapped f xs ys n past all = search (rules, slice_get_past, length-map)

pub none_again : {A B : Type 0} (f : A → B) (xs : List A) (n : ℕ) → slice_get xs n ≡ None
    → slice_get (map f xs) n ≡ None
none_again f xs n none = search (rules, slice_get-map)

-- a name and a text, and a name and a number
pub with_found : (name : List ℕ) (texts : List (List ℕ)) (n : ℕ) (text : List ℕ) → slice_get texts n
    ≡ Some text → with_value name text ≡ with_text name texts n
with_found name texts n text at = search rules

pub with_none : (name : List ℕ) (texts : List (List ℕ)) (n : ℕ) → slice_get texts n ≡ None
    → with_value name (decimal n) ≡ with_text name texts n
with_none name texts n none = search rules

-- the text for a number, and the number where it has none
pub text_found : (texts : List (List ℕ)) (n : ℕ) (text : List ℕ) → slice_get texts n ≡ Some text
    → text ≡ text_or_number (slice_get texts n) n
text_found texts n text at = search rules

pub number_left : (texts : List (List ℕ)) (n : ℕ) → slice_get texts n ≡ None → decimal n
    ≡ text_or_number (slice_get texts n) n
number_left texts n none = search rules

-- an equal text was added
pub added_same : (answer : Result (Unit {0}) AllocError) (out old text text' : List ℕ) → text
    ≡ text' → OnOk answer (out ≡ old ++ text) → OnOk answer (out ≡ old ++ text')
added_same answer out old text text' same = search rules

-- a name and a value in parentheses were added, one after the other
pub value_added : (answer : Result (Unit {0}) AllocError) (out a b c d name value : List ℕ)
    → a ≡ out ++ name → b ≡ a ++ codes "(" → c ≡ b ++ value → OnOk answer (d ≡ c ++ codes ")")
    → OnOk answer (d ≡ out ++ with_value name value)
value_added answer out a b c d name value named opened valued closed =
    let whole : c ≡ out ++ (name ++ codes "(" ++ value) =
    valued ∙ ap (λ (l : List ℕ). l ++ value) (opened ∙ ap (λ (l : List ℕ). l ++ codes "(") named)
    ∙ ap (λ (l : List ℕ). l ++ value) (append_assoc out name (codes "("))
    ∙ append_assoc out (name ++ codes "(") value in
    let same : c ++ codes ")" ≡ out ++ with_value name value =
    ap (λ (l : List ℕ). l ++ codes ")") whole
    ∙ append_assoc out (name ++ codes "(" ++ value) (codes ")") in
    subst (λ (l : List ℕ). OnOk answer (d ≡ l)) same closed

-- a text and three more after it, as one
pub joined : (a x y z : List ℕ) → a ++ x ++ y ++ z ≡ a ++ (x ++ y ++ z)
joined a x y z = ap (λ (l : List ℕ). l ++ z) (append_assoc a x y) ∙ append_assoc a (x ++ y) z

-- where all went well, the text was added
pub on_ok : (answer : Result (Unit {0}) AllocError) (out added old : List ℕ)
    → out ≡ (if is_ok answer then added else old) → OnOk answer (out ≡ added)
on_ok (Ok done) out added old is = is
on_ok (Err fault) out added old is = tt
