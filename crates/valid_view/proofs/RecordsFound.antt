-- The paths of a closure are valid.
use Rattle.std.proofs.Common.{ℕ, List, [], ◌∷◌, All, Contains, subst}
use Rattle.std.proofs.lemmas.List.Elements.{All-contains_itself, All-weaker}
use Rattle.valid_table.specs.Closure.{IsClosure, LeadsByReferences}
use Rattle.valid_table.specs.Valid.{IsValid}
use Rattle.valid_table.specs.declared.entry.Registration.{Registration}

-- what is led to is valid
valid_at_end : (registrations : List Registration) (from to : List ℕ) (steps : List (List ℕ))
    → LeadsByReferences registrations from to steps → IsValid registrations to
valid_at_end registrations from to [] leads = subst (IsValid registrations) leads.1 leads.0
valid_at_end registrations from to (next ∷ steps) leads =
    valid_at_end registrations next to steps leads.1

-- each path of a closure is valid
pub closure_valid : (registrations : List Registration) (roots all : List (List ℕ))
    → IsClosure registrations roots all → All (IsValid registrations) all
closure_valid registrations roots all is =
    All-weaker (Contains all) (IsValid registrations)
    (λ path has.
    let h = (is.each path).0 has in
    valid_at_end registrations h.0 path h.2.0 h.2.1)
    all (All-contains_itself all)
