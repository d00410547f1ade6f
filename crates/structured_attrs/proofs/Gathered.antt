-- Lists that are gathered item by item, of which each may be missing.
use Rattle.std.proofs.Common.{◌≡◌, ℕ, List, [], ◌∷◌, ◌++◌, Option, Some, None, option_map, option_and_then, refl, ap, ◌∙◌, sym, append_assoc, append-nil}

-- what is gathered, and then the rest where there is one
abbrev pub gathered : {A : Type 0} → List A → Option (List A) → Option (List A)
gathered done rest = option_map (λ more. done ++ more) rest

-- at the start nothing is gathered
pub gathered-nothing : {A : Type 0} (rest : Option (List A)) → gathered [] rest ≡ rest
gathered-nothing None = refl
gathered-nothing (Some more) = refl

-- at the end nothing is left
pub gathered-all : {A : Type 0} (done : List A) → gathered done (Some []) ≡ Some done
gathered-all done = ap Some (append-nil done)

twice : {A : Type 0} (done front : List A) (rest : Option (List A)) → gathered done (gathered front rest) ≡ gathered (done ++ front) rest
twice done front None = refl
twice done front (Some more) = ap Some (sym (append_assoc done front more))

-- a front that is there joins what is gathered
pub gathered-more : {A B : Type 0} (front : B → List A) (done : List A) (o : Option B) (b : B) (rest : Option (List A)) → o ≡ Some b
    → gathered done (option_and_then (λ y. gathered (front y) rest) o) ≡ gathered (done ++ front b) rest
gathered-more front done o b rest is =
    ap (λ p. gathered done (option_and_then (λ y. gathered (front y) rest) p)) is ∙ twice done (front b) rest

-- where the front is missing, so is all
pub gathered-missing : {A B : Type 0} (front : B → List A) (done : List A) (o : Option B) (rest : Option (List A)) → o ≡ None
    → gathered done (option_and_then (λ y. gathered (front y) rest) o) ≡ None
gathered-missing front done o rest is = ap (λ p. gathered done (option_and_then (λ y. gathered (front y) rest) p)) is
