-- The records of paths among registrations.
use Rattle.std.proofs.Common.{◌≡◌, ◌∙◌, ℕ, Bool, true, false, cond, List, [], ◌∷◌, ◌++◌, Some, nat_eq, refl, sym, ap, subst}
use Rattle.std.specs.Prelude.{Contains}
use Rattle.std.specs.Cmp.Lexicographic.{pointwise}
use Rattle.std.specs.Option.{option_or}
use Rattle.std.proofs.lemmas.List.Folds.{find-append}
use Rattle.std.proofs.lemmas.Option.{none-some, same_Some}
use mathlib.Core.List.{IsPrefix}
use Rattle.nix_names.proofs.Lists.{Contains-first, Contains-later, Contains-map}
use Rattle.nix_names.proofs.RisingLists.{equal_from_eq}
use Rattle.valid_table.specs.Entries.{registered}
use Rattle.valid_table.specs.PathInfos.{PathInfo}
use Rattle.valid_table.specs.Valid.{IsOnce, IsValid, Registers}
use Rattle.valid_table.specs.declared.entry.Entry.{Entry}
use Rattle.valid_table.specs.declared.entry.Registration.{Registration}
use Rattle.valid_table.proofs.Following.{one_info}
use Rattle.valid_table.proofs.JournalLists.{registered-append}
use Rattle.build_outcome.specs.Checks.{record_at}
use Rattle.build_outcome.proofs.Sizes.{record_there}

-- a record that is found is registered for the path
pub record_is : (registrations : List Registration) (path : List ℕ) (r : Registration)
    → record_at registrations path ≡ Some r → Contains registrations r × (r.path ≡ path)
record_is [] path r is = absurd (none-some r is)
record_is (q ∷ rest) path r is =
    by (pointwise nat_eq q.path path) refl is (λ later. record_is rest path r later)
  where
    by : (same : Bool) → pointwise nat_eq q.path path ≡ same
        → cond same (Some q) (record_at rest path) ≡ Some r
        → (record_at rest path ≡ Some r → Contains rest r × (r.path ≡ path))
        → Contains (q ∷ rest) r × (r.path ≡ path)
    by true e found go =
        let same = same_Some q r found in (
          subst (Contains (q ∷ rest)) same (Contains-first q rest),
          ap (λ (x : Registration). x.path) (sym same) ∙ equal_from_eq q.path path e,
        )
    by false e found go = (Contains-later q rest r (go found).0, (go found).1)

pub record_registers : (registrations : List Registration) (path : List ℕ) (r : Registration)
    → record_at registrations path ≡ Some r → Registers registrations path r.info
record_registers registrations path r is =
    let found = record_is registrations path r is in
    subst (λ (p : List ℕ). Contains registrations (record { path = p; info = r.info })) found.1
    found.0

-- a path that is registered once has the record that is registered
pub record_known : (registrations : List Registration) (path : List ℕ) (info : PathInfo)
    → IsOnce registrations → Registers registrations path info
    → record_at registrations path ≡ Some (record { path = path; info = info })
record_known registrations path info once has =
    let there = record_there registrations path
    (Contains-map (λ (r : Registration). r.path) registrations (record { path = path; info = info })
    has) in
    let same : there.0.info ≡ info = one_info registrations once path there.0.info info
    (record_registers registrations path there.0 there.1) has in
    there.1
    ∙ ap (λ (p : List ℕ). Some (record { path = p; info = there.0.info }))
    (record_is registrations path there.0 there.1).1
    ∙ ap (λ (i : PathInfo). Some (record { path = path; info = i })) same

-- a record that is found is found where more is registered
pub record_more : (first more : List Registration) (path : List ℕ) (r : Registration)
    → record_at first path ≡ Some r → record_at (first ++ more) path ≡ Some r
record_more first more path r is =
    find-append (λ (x : Registration). pointwise nat_eq x.path path) first more
    ∙ ap (λ o. option_or o (record_at more path)) is

-- a valid path keeps its record in each list that goes on
pub record_after : (before after : List Entry) (path : List ℕ) → IsPrefix before after
    → IsValid (registered before) path
    → record_at (registered before) path ≡ record_at (registered after) path
record_after before after path goes valid =
    let there = record_there (registered before) path valid in
    there.1
    ∙ sym (record_more (registered before) (registered goes.0) path there.0 there.1)
    ∙ ap (λ (rs : List Registration). record_at rs path) (sym (registered-append before goes.0))
    ∙ ap (λ (entries : List Entry). record_at (registered entries) path) goes.1

pub found_after : (before after : List Entry) (path : List ℕ) (r : Registration)
    → IsPrefix before after → record_at (registered before) path ≡ Some r
    → record_at (registered after) path ≡ Some r
found_after before after path r goes is =
    ap (λ (entries : List Entry). record_at (registered entries) path) (sym goes.1)
    ∙ ap (λ (rs : List Registration). record_at rs path) (registered-append before goes.0)
    ∙ record_more (registered before) (registered goes.0) path r is
