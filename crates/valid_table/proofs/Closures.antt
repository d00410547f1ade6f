-- The rows that were found are those of the closure.
use Rattle.std.proofs.Common.{ℕ, List, [], length, sym, subst, All, Contains, Ok, rules}
use Rattle.std.specs.Global.{Vec}
use Rattle.std.proofs.Math.Seq.{take-length}
use Rattle.std.proofs.lemmas.List.Elements.{All-contains}
use Rattle.nix_names.specs.Rising.{IsRising}
use Rattle.valid_table.specs.private.Closing.{AddsRows, HasReferences, HaveSame, IsFollowed, IsReachedFrom, paths_at}
use Rattle.valid_table.specs.Closure.{IsClosing, IsClosure}
use Rattle.valid_table.specs.Valid.{IsValid}
use Rattle.valid_table.specs.declared.entry.Registration.{Registration}
use Rattle.valid_table.proofs.Reaching.{has_reached}

-- the sorted paths of the followed rows are the closure of the roots
pub closure_found : (registrations : List Registration) (roots : List (List ℕ))
    (start found : List ℕ) (all : List (List ℕ)) → All (IsValid registrations) roots
    → AddsRows registrations [] roots start → IsFollowed registrations start found (length found)
    → IsRising all → HaveSame all (paths_at registrations found) → IsClosure registrations roots all
closure_found registrations roots start found all valid begins followed rising same = record {
  rising = rising;
  each = λ path. (
    λ (has : Contains all path).
        let reached : IsReachedFrom registrations (paths_at registrations start) path =
        All-contains (IsReachedFrom registrations (paths_at registrations start))
        _ _ followed.reached ((same path).0 has) in (
          reached.0,
          All-contains (Contains roots) _ _ asked
              reached.1,
          reached.2,
        ),
    λ reached.
        let root = reached.0 in
        let begun : Contains (paths_at registrations start) root =
        All-contains (λ p. IsValid registrations p → Contains (paths_at registrations start) p)
        _ _ begins.there reached.1
        (All-contains (IsValid registrations) _ _ valid reached.1) in
        let there : Contains (paths_at registrations found) root =
        All-contains (Contains (paths_at registrations found)) _
        _ followed.kept begun in
        (same path).1
        (has_reached _ _ each_followed _ _
        _ there reached.2.1),
  );
}
  where
    asked : All (Contains roots) (paths_at registrations start)
    asked = subst (λ (rows : List ℕ). All (Contains roots) (paths_at registrations rows))
        (sym begins.parts) begins.asked

    each_followed : All (HasReferences registrations (paths_at registrations found))
        (paths_at registrations found)
    each_followed =
        subst (λ (rows : List ℕ). All (HasReferences registrations (paths_at registrations found))
        (paths_at registrations rows)) (take-length found) followed.followed

-- where the paths of those rows are sorted, the question for the closure is answered
pub closing_answered : (registrations : List Registration) (roots : List (List ℕ))
    (start found : List ℕ) (paths : Vec (List ℕ))
    → All (IsValid registrations) roots → AddsRows registrations [] roots start
    → IsFollowed registrations start found (length found) → IsRising paths.items
    → HaveSame paths.items (paths_at registrations found) → IsClosing registrations roots (Ok paths)
closing_answered registrations roots start found paths valid begins followed rising same =
    search (rules, closure_found)
