-- The roots of a closure, as they are looked up one after the other.
use Rattle.std.proofs.Common.{◌≡◌, ℕ, ◌<◌, suc, List, ◌∷◌, ◌++◌, length, take, drop, get_or, sym, ap, ◌∙◌, All}
use Rattle.std.proofs.Math.Seq.{split_at}
use Rattle.valid_table.specs.Valid.{IsNotValid, IsValid}
use Rattle.valid_table.specs.declared.entry.Registration.{Registration}
use Rattle.nix_names.specs.Firsts.{IsFirst}

-- a root that is not valid, after valid ones, is the first such
pub first_not_valid :
    (registrations : List Registration) (roots : List (List ℕ)) (i : ℕ) (root copy : List ℕ) →
    i < length roots →
    root ≡ get_or roots i root →
    copy ≡ root →
    All (IsValid registrations) (take i roots) →
    IsNotValid registrations root →
    IsFirst (IsValid registrations) (IsNotValid registrations) roots copy
first_not_valid registrations roots i root copy below at same valid not_valid = record {
  before = take i roots;
  after = drop (suc i) roots;
  parts = split_at roots i root below ∙ ap (λ (r : List ℕ). take i roots ++ r ∷ drop (suc i) roots)
      (sym at ∙ sym same);
  others = valid;
  is = rw same not_valid;
}
