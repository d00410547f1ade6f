-- What is found among the permitted paths that were looked at.
use Rattle.std.proofs.Common.{ℕ, List, [], ◌∷◌, ◌++◌, sym, subst, ⊎_elim}
use Rattle.std.specs.Prelude.{Contains}
use Rattle.std.proofs.lemmas.List.Elements.{Contains-push, Contains-append_left, Contains-push_cases}
use Rattle.nix_names.specs.Rising.{IsRising}
use Rattle.nix_names.specs.StorePaths.{hash_part_of}
use Rattle.nix_names.proofs.RisingLists.{earlier_below, rising_push}
use Rattle.ref_scan.specs.Scan.{IsFoundIn, OccursIn}

pub found_one :
    (lists : List (List ℕ)) (seen found : List (List ℕ)) (path : List ℕ) →
    IsRising (seen ++ path ∷ []) →
    IsFoundIn lists seen found →
    OccursIn (hash_part_of path) lists →
    IsFoundIn lists (seen ++ path ∷ []) (found ++ path ∷ [])
found_one lists seen found path rises before occurs = record {
  rising = rising_push found path before.rising
      (λ x has. earlier_below seen [] path x rises ((before.each x).0 has).0);
  each = λ x. (
    λ has. ⊎_elim
        (λ earlier. let old = (before.each x).0 earlier
        in (Contains-append_left seen (path ∷ []) x old.0, old.1))
        (λ is. subst (λ y. Contains (seen ++ path ∷ []) y × OccursIn (hash_part_of y) lists) is
        (Contains-push seen path, occurs))
        (Contains-push_cases found path x has),
    λ h. ⊎_elim
        (λ earlier. Contains-append_left found (path ∷ []) x ((before.each x).1 (earlier, h.1)))
        (λ is. subst (Contains (found ++ path ∷ [])) is (Contains-push found path))
        (Contains-push_cases seen path x h.0),
  );
}

pub found_no_more :
    (lists : List (List ℕ)) (seen found : List (List ℕ)) (path : List ℕ) →
    IsFoundIn lists seen found →
    ¬ OccursIn (hash_part_of path) lists →
    IsFoundIn lists (seen ++ path ∷ []) found
found_no_more lists seen found path before none = record {
  rising = before.rising;
  each = λ x. (
    λ has. let old = (before.each x).0 has in (
      Contains-append_left seen (path ∷ []) x old.0,
      old.1,
    ),
    λ h. ⊎_elim
        (λ earlier. (before.each x).1 (earlier, h.1))
        (λ is. absurd (none (subst (λ y. OccursIn (hash_part_of y) lists) (sym is) h.1)))
        (Contains-push_cases seen path x h.0),
  );
}
