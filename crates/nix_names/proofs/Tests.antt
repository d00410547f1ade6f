-- What tests say: two of one part each, and comparisons of texts.
use Rattle.std.proofs.Common.{◌≡◌, ◌≢◌, Bool, true, false, Decides, ◌&&◌, ℕ, List, nat_eq, ◌∙◌, rules}
use Rattle.std.specs.Cmp.Lexicographic.{pointwise}
use Rattle.std.proofs.lemmas.Bool.{and_from, and_parts, false≢true}
use Rattle.std.proofs.lemmas.Bool.Decides.{Decides-eqb}
use Rattle.std.proofs.lemmas.Slice.Eq.{slice_eq-Decides}

-- two tests, each of one part
pub both_parts : {P Q R : Type 0} (a b : Bool) → Decides a P → Decides b Q → (P → Q → R) → (R → P)
    → (R → Q) → Decides (a && b) R
both_parts a b first second join one two = search (rules, and_parts, and_from)

-- what a comparison of two texts said
pub told_other : (xs ys zs : List ℕ) (r : Bool) → r ≡ pointwise nat_eq xs ys → ys ≡ zs → r ≡ false
    → xs ≢ zs
told_other xs ys zs r is other unlike same =
    search (rules, false≢true, slice_eq-Decides, Decides-eqb)

pub told_same : (xs ys zs : List ℕ) (r : Bool) → r ≡ pointwise nat_eq xs ys → ys ≡ zs → r ≡ true
    → xs ≡ zs
told_same xs ys zs r is other alike = (slice_eq-Decides Decides-eqb xs ys r is).0 alike ∙ other
