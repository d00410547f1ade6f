-- Closures stay the same when a closed list of entries goes on, and are told by their paths.
use Rattle.std.proofs.Common.{◌≡◌, ◌<◌, ℕ, List, [], ◌∷◌, ◌++◌, None, get_or, length, sym, subst, ◌∙◌, All, Contains, ⊎_elim, arith, rules}
use Rattle.std.specs.Prelude.{flat_map}
use Rattle.std.proofs.lemmas.Grind.{flat_map-append}
use Rattle.std.proofs.lemmas.List.{get_or-map, get_or_default}
use Rattle.std.proofs.lemmas.List.Elements.{All-contains, Contains-append_left, Contains-append_right}
use Rattle.nix_names.proofs.RisingLists.{rising_same}
use Rattle.valid_table.specs.Closure.{ClosureIsOne, ClosureStays, IsClosure, LeadsByReferences}
use Rattle.valid_table.specs.Entries.{registered, registered_by}
use Rattle.valid_table.specs.PathInfos.{PathInfo}
use Rattle.valid_table.specs.Valid.{AreReferencesValid, IsOnce, IsValid, RefersTo, Registers, references_of}
use Rattle.valid_table.specs.declared.entry.Registration.{Registration}
use Rattle.valid_table.proofs.Following.{one_info}
use Rattle.valid_table.proofs.JournalLists.{closed_references_valid, still_valid}
use Rattle.valid_table.proofs.RowNumbers.{path_count}
use Rattle.nix_names.proofs.Lists.{Contains-cons_cases}

-- what an element's list has is among all
Contains-flat_map : {A B : Type 0} (f : A → List B) (xs : List A) (x : A) (y : B) → Contains xs x
    → Contains (f x) y → Contains (flat_map f xs) y
Contains-flat_map f [] x y has one = absurd (omega (arith, has.1))
Contains-flat_map f (z ∷ zs) x y has one =
    ⊎_elim
    (λ same. Contains-append_left _ _ y
    (subst (λ w. Contains (f w) y) (sym same) one))
    (λ later. Contains-append_right (f z) (flat_map f zs) y (Contains-flat_map f zs x y later one))
    (Contains-cons_cases z _ x has)

-- a reference of what is registered is one of the references
refers_in : (registrations : List Registration) (path next : List ℕ)
    → RefersTo registrations path next → Contains (references_of registrations) next
refers_in registrations path next refers = search (rules, Contains-flat_map)

-- a valid path has a record
pub registers_from_valid : (registrations : List Registration) (path : List ℕ)
    → IsValid registrations path → (info : PathInfo) × Registers registrations path info
registers_from_valid registrations path valid =
    let none : Registration =
    record { path = path; info = record { references = []; digest = None; nar = None } } in
    let r : Registration = get_or registrations valid.0 none in
    let own : Registration = record { path = path; info = r.info } in
    let below : valid.0 < length registrations = omega (arith, valid.1, path_count registrations) in
    let same : r.path
    ≡ path = sym
    (get_or-map (λ (x : Registration). x.path) _ valid.0 none path below) ∙ valid.2
    in
    let is : r ≡ own = λ i. record { path = same i; info = r.info } in
    (r.info, (valid.0, below, get_or_default registrations valid.0 own none below ∙ is))

-- what leads by first registrations does so by more of them
pub leads_after : (first more : List Registration) (from to : List ℕ) (steps : List (List ℕ))
    → LeadsByReferences first from to steps → LeadsByReferences (first ++ more) from to steps
leads_after first more from to [] leads = (still_valid _ _ _ leads.0, leads.1)
leads_after first more from to (next ∷ steps) leads =
    search (rules, Contains-append_left, leads_after first more next to steps leads.1)

-- from a valid path, more registrations lead nowhere else
pub leads_before : (first more : List Registration) → AreReferencesValid first
    → IsOnce (first ++ more) → (from to : List ℕ) (steps : List (List ℕ)) → IsValid first from
    → LeadsByReferences (first ++ more) from to steps → LeadsByReferences first from to steps
leads_before first more closed once from to [] valid leads = (valid, leads.1)
leads_before first more closed once from to (next ∷ steps) valid leads =
    let had = registers_from_valid _ _ valid in
    let same : leads.0.0 ≡ had.0 = one_info _ once _ _ _ leads.0.1
    (Contains-append_left _ _ _ had.1) in
    let refers : RefersTo first from next =
    (had.0, had.1, subst (λ (info : PathInfo). Contains info.references next) same leads.0.2) in
    let next_valid : IsValid first next = All-contains (IsValid first) _ _
    closed (refers_in _ _ _ refers) in
    (refers, leads_before first more closed once next to steps next_valid leads.1)

-- a closure stays the same where more is registered
pub closure_stays_after : (first more : List Registration) (roots all : List (List ℕ))
    → AreReferencesValid first → IsOnce (first ++ more) → All (IsValid first) roots
    → IsClosure first roots all → IsClosure (first ++ more) roots all
closure_stays_after first more roots all closed once valid is = record {
  rising = is.rising;
  each = λ path. (
    λ has. let h = (is.each path).0 has
        in (h.0, h.1, (h.2.0, leads_after _ _ _ _ _ h.2.1)),
    λ h. (is.each path).1 (
      h.0,
      h.1,
      (
        h.2.0,
        leads_before _ _ closed once _ _ _
            (All-contains (IsValid first) _ _ valid h.1) h.2.1,
      ),
    ),
  );
}

-- the law of closures
pub closure_stays : ClosureStays
closure_stays entries more roots all closed closed_more once valid is =
    let whole : registered (entries ++ more) ≡ registered entries
    ++ registered more = flat_map-append registered_by entries more in
    subst (λ (registrations : List Registration). IsClosure registrations roots all) (sym whole)
    (closure_stays_after _ _ _ _
    (closed_references_valid _ closed) (subst IsOnce whole once) valid is)

-- some paths have one closure
pub closure_is_one : ClosureIsOne
closure_is_one registrations roots a b is is' =
    rising_same a b is.rising is'.rising
    (λ path. (
      λ has. (is'.each path).1 ((is.each path).0 has),
      λ has. (is.each path).1 ((is'.each path).0 has),
    ))
