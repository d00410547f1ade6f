-- What paths reach by references, and lists that have all of it.
use Rattle.std.proofs.Common.{◌≡◌, ℕ, ◌<◌, List, [], ◌∷◌, ◌++◌, length, get_or, nat_eq, sym, ap, ◌∙◌, arith, All, Contains, inl, inr, rules}
use Rattle.std.specs.Cmp.Lexicographic.{pointwise, nat_list_eq_equiv}
use Rattle.std.specs.List.{IsDistinct}
use Rattle.std.proofs.lemmas.Bool.{cases_lt, false≢true}
use Rattle.std.proofs.lemmas.List.Elements.{All-contains}
use Rattle.std.proofs.lemmas.Map.Keys.{apart_from_distinct}
use Rattle.valid_table.specs.private.Closing.{HasReferences, IsReachedFrom}
use Rattle.valid_table.specs.Closure.{LeadsByReferences}
use Rattle.valid_table.specs.PathInfos.{PathInfo}
use Rattle.valid_table.specs.Valid.{IsValid, RefersTo, Registers}
use Rattle.valid_table.specs.declared.entry.Registration.{Registration}
use Rattle.nix_names.proofs.Lists.{Contains-map}

-- a path that is registered with a record is valid
pub valid_from_registers : (registrations : List Registration) (path : List ℕ) (info : PathInfo)
    → Registers registrations path info → IsValid registrations path
valid_from_registers registrations path info has =
    Contains-map (λ (r : Registration). r.path) _ _ has

-- what leads on from a path begins at a valid path
pub valid_from_leads : (registrations : List Registration) (from to : List ℕ)
    (steps : List (List ℕ)) → LeadsByReferences registrations from to steps
    → IsValid registrations from
valid_from_leads registrations from to [] leads = leads.0
valid_from_leads registrations from to (next ∷ steps) leads = search (rules, valid_from_registers)

leads_more : (registrations : List Registration) (from to next : List ℕ) (steps : List (List ℕ))
    → LeadsByReferences registrations from to steps → RefersTo registrations to next
    → IsValid registrations next → LeadsByReferences registrations from next (steps ++ next ∷ [])
leads_more registrations from to next [] leads refers valid = search rules
leads_more registrations from to next (step ∷ steps) leads refers valid =
    (leads.0, leads_more registrations step to next steps leads.1 refers valid)

-- a valid reference of what is reached is reached
pub reached_more : (registrations : List Registration) (roots : List (List ℕ)) (path next : List ℕ)
    → IsReachedFrom registrations roots path → RefersTo registrations path next
    → IsValid registrations next → IsReachedFrom registrations roots next
reached_more registrations roots path next reached refers valid = (
  reached.0,
  reached.1,
  (
    reached.2.0 ++ next ∷ [],
    leads_more _ _ _ _ _
        reached.2.1 refers valid,
  ),
)

-- a valid path reaches itself
pub reached_itself : (registrations : List Registration) (roots : List (List ℕ)) (path : List ℕ)
    → Contains roots path → IsValid registrations path → IsReachedFrom registrations roots path
reached_itself registrations roots path has valid = search rules

-- paths that have all their valid references have all that one of them reaches
pub has_reached : (registrations : List Registration) (paths : List (List ℕ))
    → All (HasReferences registrations paths) paths → (from to : List ℕ) (steps : List (List ℕ))
    → Contains paths from → LeadsByReferences registrations from to steps → Contains paths to
has_reached registrations paths closed from to [] has leads = search rules
has_reached registrations paths closed from to (next ∷ steps) has leads =
    has_reached registrations paths closed next to steps
    (All-contains (HasReferences registrations paths) paths from closed has next leads.0
    (valid_from_leads registrations next to steps leads.1))
    leads.1

-- equal texts at two indices of distinct ones are one
pub same_index : (texts : List (List ℕ)) → IsDistinct (pointwise nat_eq) texts → (i j : ℕ) → i
    < length texts → j < length texts → get_or texts i [] ≡ get_or texts j [] → i ≡ j
same_index texts distinct i j in_i in_j same =
    elim (cases_lt i j) [
      | inl below ↦ absurd (apart i j below in_j same)
      | inr above ↦ elim (cases_lt j i)
          [ inl below ↦ absurd (apart j i below in_i (sym same)) | inr over ↦ omega arith ]
    ]
  where
    apart : (a b : ℕ) → a < b → b < length texts → get_or texts a [] ≡ get_or texts b [] → ⊥
    apart a b below within e =
        false≢true (sym (apart_from_distinct (pointwise nat_eq) _ a b [] distinct below within)
        ∙ ap (λ t. pointwise nat_eq t (get_or texts b [])) e
        ∙ nat_list_eq_equiv.refl (get_or texts b []))
