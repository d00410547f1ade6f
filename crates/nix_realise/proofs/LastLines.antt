-- Lines that are written one after another, each of an element of a list.
use Rattle.std.proofs.Common.{◌≡◌, ◌∙◌, ℕ, ◌+◌, ◌<◌, List, [], ◌∷◌, ◌++◌, add-one, ap, append_assoc, drop, drop-cons, get_or, length, sym}
use Rattle.std.specs.List.{flat_map}
use Rattle.std.proofs.lemmas.List.Folds.{flat_map-map}
use Rattle.run_report.specs.Listing.{numbers_of}
use Rattle.run_report.specs.declared.report.listing.Listed.{Listed}

-- one line more
pub line_more : {X Y : Type 0} (line : X → List Y) (xs : List X) (i : ℕ) (d : X)
    (out more all : List Y)
    → i < length xs → more ≡ out ++ line (get_or xs i d) → out ++ flat_map line (drop i xs) ≡ all
    → more ++ flat_map line (drop (i + 1) xs) ≡ all
line_more line xs i d out more all below is was =
    let next : drop i xs ≡ get_or xs i d ∷ drop (i + 1) xs = rw add-one (drop-cons xs i d below) in
    ap (λ m. m ++ flat_map line (drop (i + 1) xs)) is
    ∙ append_assoc out (line (get_or xs i d)) (flat_map line (drop (i + 1) xs))
    ∙ sym (ap (λ l. out ++ flat_map line l) next)
    ∙ was

-- the lines of listed derivations, by their numbers
pub lines_by_number : (line : ℕ → List ℕ) (listed : List Listed) (before after : List ℕ)
    → before ≡ [] → after ≡ before ++ flat_map (λ (l : Listed). line l.number) listed
    → after ≡ flat_map line (numbers_of listed)
lines_by_number line listed before after none is =
    is ∙ ap (λ b. b ++ flat_map (λ (l : Listed). line l.number) listed) none
    ∙ sym (flat_map-map line (λ (l : Listed). l.number) listed)
