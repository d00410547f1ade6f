-- Two lists whose items go together, index by index.
use Rattle.std.proofs.Common.{◌≡◌, ◌∙◌, ap, sym, subst, refl, ℕ, zero, suc, List, [], ◌∷◌, ◌++◌}
use Rattle.std.proofs.Common.{◌+◌, ◌<◌, arith, get_or, length, map, take}
use Rattle.std.specs.List.{AllZip, Contains}
use Rattle.std.proofs.lemmas.List.{map_more, take_more}
use Rattle.std.proofs.lemmas.Slice.Zip.{all_zipped_more}

-- one more pair
pub zip_more : {A B : Type 0} (R : A → B → Type 0) (xs : List A) (ys : List B) (i : ℕ) (x : A)
    (y : B) → i < length xs → x ≡ get_or xs i x → AllZip R (take i xs) ys → R x y
    → AllZip R (take (i + 1) xs) (ys ++ y ∷ [])
zip_more R xs ys i x y low is had one =
    subst (λ l. AllZip R l (ys ++ y ∷ []))
    (ap (λ v. take i xs ++ v ∷ []) is ∙ sym (take_more xs i x low))
    (all_zipped_more R (take i xs) ys x y had one)

-- one more pair, of an item that is read where it stands
pub zip_next : {A B : Type 0} (R : A → B → Type 0) (xs : List A) (ys : List B) (i : ℕ) (d : A) (y : B)
    → i < length xs → AllZip R (take i xs) ys → R (get_or xs i d) y
    → AllZip R (take (i + 1) xs) (ys ++ y ∷ [])
zip_next R xs ys i d y low had one =
    subst (λ l. AllZip R l (ys ++ y ∷ [])) (sym (take_more xs i d low))
    (all_zipped_more R (take i xs) ys (get_or xs i d) y had one)

-- what goes with an item of the second list
pub first_of_pair : {A B : Type 0} (R : A → B → Type 0) (xs : List A) (ys : List B) (i : ℕ) (y : B)
    → AllZip R xs ys → i < length ys → (x : A) × Contains xs x × R x (get_or ys i y)
first_of_pair R [] [] i y zip low = absurd (omega arith)
first_of_pair R [] (z ∷ ys) i y zip low = absurd zip
first_of_pair R (x ∷ xs) [] i y zip low = absurd zip
first_of_pair R (x ∷ xs) (z ∷ ys) zero y zip low = (x, (0, (omega arith), refl), zip.0)
first_of_pair R (x ∷ xs) (z ∷ ys) (suc i) y zip low =
    let more : i < length ys = omega arith in
    let found = first_of_pair R xs ys i y zip.1 more in
    let within : found.1.0 < length xs = found.1.1 in
    (found.0, (suc found.1.0, (omega arith), found.1.2), found.2)

-- what goes with an item of the first list
pub second_of_pair : {A B : Type 0} (R : A → B → Type 0) (xs : List A) (ys : List B) (i : ℕ) (x : A)
    → AllZip R xs ys → i < length xs → (y : B) × Contains ys y × R (get_or xs i x) y
second_of_pair R [] [] i x zip low = absurd (omega arith)
second_of_pair R [] (y ∷ ys) i x zip low = absurd zip
second_of_pair R (z ∷ xs) [] i x zip low = absurd zip
second_of_pair R (z ∷ xs) (y ∷ ys) zero x zip low = (y, (0, (omega arith), refl), zip.0)
second_of_pair R (z ∷ xs) (y ∷ ys) (suc i) x zip low =
    let more : i < length xs = omega arith in
    let found = second_of_pair R xs ys i x zip.1 more in
    let within : found.1.0 < length ys = found.1.1 in
    (found.0, (suc found.1.0, (omega arith), found.1.2), found.2)

-- one more pair, whose first item is mapped
pub zip_mapped : {A B C : Type 0} (R : C → B → Type 0) (g : A → C) (xs : List A) (ys : List B)
    (i : ℕ) (x : A) (y : B) → i < length xs → x ≡ get_or xs i x
    → AllZip R (map g (take i xs)) ys → R (g x) y
    → AllZip R (map g (take (i + 1) xs)) (ys ++ y ∷ [])
zip_mapped R g xs ys i x y low is had one =
    subst (λ l. AllZip R l (ys ++ y ∷ []))
    (ap (λ v. map g (take i xs) ++ g v ∷ []) is ∙ sym (map_more g xs i x low))
    (all_zipped_more R (map g (take i xs)) ys (g x) y had one)
