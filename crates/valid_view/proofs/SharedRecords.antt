-- The records of closures by lists that go on from one list.
use Rattle.std.proofs.Common.{◌≡◌, ℕ, List, [], ◌∷◌, ◌++◌, All, map, subst, sym}
use Rattle.std.specs.Prelude.{Contains}
use mathlib.Core.List.{IsPrefix}
use Rattle.std.proofs.lemmas.List.{append-nil}
use Rattle.std.proofs.lemmas.List.Elements.{All-contains}
use Rattle.nix_names.proofs.Lists.{All-from_contains, Contains-from_map, Contains-map}
use Rattle.valid_table.specs.Closure.{IsClosure, LeadsByReferences}
use Rattle.valid_table.specs.Entries.{registered}
use Rattle.valid_table.specs.PathInfos.{PathInfo}
use Rattle.valid_table.specs.Valid.{IsValid, Registers}
use Rattle.valid_table.specs.declared.entry.Entry.{Entry}
use Rattle.valid_table.specs.declared.entry.Registration.{Registration}
use Rattle.valid_view.specs.Answers.{AreRecords}
use Rattle.valid_view.specs.SharedClosures.{RecordsAreShared}
use Rattle.valid_view.specs.Shown.{IsShowable}
use Rattle.valid_view.proofs.SharedClosures.{closure_is_shared, validity_lasts}
use Rattle.valid_view.proofs.Showable.{showable_prefix}

-- what is reached is valid
reached_valid : (registrations : List Registration) (from to : List ℕ) (steps : List (List ℕ))
    → LeadsByReferences registrations from to steps → IsValid registrations to
reached_valid registrations from to [] leads = subst (IsValid registrations) leads.1 leads.0
reached_valid registrations from to (next ∷ steps) leads =
    reached_valid registrations next to steps leads.1

-- a valid path has a record
record_of : (registrations : List Registration) (path : List ℕ) → IsValid registrations path
    → (info : PathInfo) × Registers registrations path info
record_of registrations path valid =
    let found = Contains-from_map (λ (r : Registration). r.path) registrations path valid in (
      found.0.info,
      subst (λ (p : List ℕ). Contains registrations
          (record { path = p; info = found.0.info })) found.2 found.1,
    )

-- the beginning of a list that may be shown may be shown
showable_before : (common a : List Entry) → IsShowable a → IsPrefix common a → IsShowable common
showable_before common a showable goes =
    showable_prefix common goes.0 (subst IsShowable (sym goes.1) showable)

-- a list begins with itself
itself : (entries : List Entry) → IsPrefix entries entries
itself entries = ([], append-nil entries)

-- a record of a path that was valid before is that path's in each list
record_shared : (common a b : List Entry) (r : Registration) → IsShowable a → IsShowable b
    → IsPrefix common a → IsPrefix common b → IsValid (registered common) r.path
    → Registers (registered a) r.path r.info → Registers (registered b) r.path r.info
record_shared common a b r of_a of_b in_a in_b valid has =
    let before = record_of (registered common) r.path valid in
    let same : r.info ≡ before.0 =
    ((validity_lasts common a in_a of_a r.path).1 before.0 before.1).1 r.info has in
    subst (Registers (registered b) r.path) (sym same)
    ((validity_lasts common b in_b of_b r.path).1 before.0 before.1).0

-- the law
pub records_are_shared : RecordsAreShared
records_are_shared common a b roots rows of_a of_b in_a in_b valid are =
    let paths : List (List ℕ) = map (λ (r : Registration). r.path) rows in
    let of_common : IsShowable common = showable_before common a of_a in_a in
    let before : IsClosure (registered common) roots paths =
    closure_is_shared common a common roots paths of_a of_common in_a (itself common) valid
    are.closure in
    record {
      closure = closure_is_shared common a b roots paths of_a of_b in_a in_b valid are.closure;
      known = All-from_contains
          (λ (r : Registration). Registers (registered b) r.path r.info) rows
          (λ r has.
          let reached = (before.each r.path).0
          (Contains-map (λ (s : Registration). s.path) rows r has) in
          record_shared common a b r of_a of_b in_a in_b
          (reached_valid (registered common) reached.0 r.path reached.2.0 reached.2.1)
          (All-contains (λ (s : Registration). Registers (registered a) s.path s.info) rows r
          are.known has));
    }
