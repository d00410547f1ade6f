-- What a scanner keeps, as it is made, fed and cut, and what it finds.
use Rattle.std.proofs.Common.{◌≡◌, ◌∙◌, sym, ℕ, ◌<◌, Bool, false, List, [], ◌∷◌, ◌++◌, ◌⊎◌, ◌↔◌, inl, inr, ⊎_elim, length, take, replicate, get_or, refl, ap, subst, append_assoc, Some, rules}
use Rattle.std.specs.Prelude.{Any, Contains, IsTrue}
use Rattle.std.proofs.lemmas.Bool.{false≢true, cases_lt}
use Rattle.std.proofs.lemmas.List.{get_or-replicate, length-map, length-replicate, get_or-map, get_or_past, take_at}
use Rattle.nix_names.specs.StorePaths.{hash_part_of, is_hash_part}
use Rattle.ref_scan.specs.private.Kept.{last_bytes}
use Rattle.ref_scan.specs.private.Marks.{IsPartMet, Searched}
use Rattle.ref_scan.specs.private.Parts.{ArePartsOf, IsPartNumber, part_at}
use Rattle.ref_scan.specs.Scan.{OccursIn, Within}
use Rattle.ref_scan.specs.private.Scanned.{Scanned, Sought}
use Rattle.ref_scan.proofs.Pieces.{Any-none, Any-left, Any-last, Any-last_cases, not_in_none, occurs_before_none}
use Rattle.ref_scan.proofs.Seams.{within_joined, joined_within}

abbrev pub sought_of : List (List ℕ) → List (List ℕ) → Bool → List (List ℕ) → List ℕ → Sought
sought_of permitted parts in_order ended present = record {
  permitted = permitted;
  parts = parts;
  in_order = in_order;
  ended = ended;
  present = present;
}

-- no mark is set at first
unmarked : (n k : ℕ) → get_or (replicate n false) k false ≡ false
unmarked n k = search (rules, get_or-replicate, get_or_past, length-replicate, cases_lt)

pub scanned_new :
    (permitted parts : List (List ℕ)) (in_order : Bool) (met : List Bool) (n : ℕ) →
    ArePartsOf permitted parts in_order →
    met ≡ replicate n false →
    n ≡ length parts →
    Scanned (sought_of permitted parts in_order [] []) met []
scanned_new permitted parts in_order met n of_paths none many =
    search (rules, length-replicate, false≢true, unmarked, Any-none, not_in_none, Any-last_cases)

pub scanned_fed :
    (permitted parts ended : List (List ℕ)) (in_order : Bool) (present piece seam : List ℕ)
    (met one two : List Bool) (tail after : List ℕ) →
    Scanned (sought_of permitted parts in_order ended present) met tail →
    seam ≡ tail ++ take 31 piece →
    Searched parts met one seam →
    Searched parts one two piece →
    after ≡ last_bytes (present ++ piece) →
    Scanned (sought_of permitted parts in_order ended (present ++ piece)) two after
scanned_fed permitted parts ended in_order present piece seam met one two tail after before is first
    second kept =
    let whole : seam ≡ last_bytes present ++ take 31 piece = is
    ∙ ap (λ l. l ++ take 31 piece) before.kept in
    record {
      of_paths = before.of_paths;
      count = second.count ∙ first.count ∙ before.count;
      marks = λ k at.
          let part = part_at parts k in
          let P = Within part in
          let is_part = before.of_paths.are_parts.each k [] at in
          let here : P present ⊎ (P (last_bytes present ++ take 31 piece) ⊎ P piece)
          → Any P (ended ++ (present ++ piece) ∷ []) =
          λ h. Any-last P ended (present ++ piece) (joined_within part present piece h) in (
            λ m. ⊎_elim
                (λ m'. ⊎_elim
                (λ m''. ⊎_elim
                (Any-left P ended ((present ++ piece) ∷ []))
                (λ h. here (inl h))
                (Any-last_cases P ended present ((before.marks k at).0 m'')))
                (λ h. here (inr (inl (subst P whole h))))
                ((first.each k at).0 m'))
                (λ h. here (inr (inr h)))
                ((second.each k at).0 m),
            λ h.
                let old : Any P (ended ++ present ∷ []) → IsPartMet two k =
                λ w. (second.each k at).1 (inl ((first.each k at).1
                (inl ((before.marks k at).1 w)))) in
                ⊎_elim
                (λ w. old (Any-left P ended (present ∷ []) w))
                (λ w. ⊎_elim
                (λ v. old (Any-last P ended present v))
                (λ v. (second.each k at).1
                (⊎_elim (λ u. inl ((first.each k at).1 (inr (subst P (sym whole) u)))) inr v))
                (within_joined part present piece is_part w))
                (Any-last_cases P ended (present ++ piece) h),
          );
      kept = kept;
    }

pub scanned_cut :
    (permitted parts ended : List (List ℕ)) (in_order : Bool) (present : List ℕ) (met : List Bool)
    (tail : List ℕ) →
    Scanned (sought_of permitted parts in_order ended present) met tail →
    Scanned (sought_of permitted parts in_order (ended ++ present ∷ []) []) met []
scanned_cut permitted parts ended in_order present met tail before = record {
  of_paths = before.of_paths;
  count = before.count;
  marks = λ k at.
      let part = part_at parts k in (
        λ m. Any-left (Within part) (ended ++ present ∷ []) ([] ∷ []) ((before.marks k at).0 m),
        λ h. (before.marks k at).1 (occurs_before_none part (ended ++ present ∷ [])
            (before.of_paths.are_parts.each k [] at) h),
      );
  kept = refl;
}

-- the mark of a part tells whether the part occurs
pub met_at :
    (sought : Sought) (met : List Bool) (tail part : List ℕ) (number : ℕ) →
    Scanned sought met tail →
    IsPartNumber sought.parts part (Some number) →
    IsPartMet met number ↔ OccursIn part (sought.ended ++ sought.present ∷ [])
met_at sought met tail part number scanned at = search rules

-- the number of the part of a path, where the parts stand as the paths do
pub part_in_order :
    (paths parts : List (List ℕ)) (in_order : Bool) (number : ℕ) →
    ArePartsOf paths parts in_order →
    IsTrue in_order →
    number < length paths →
    IsPartNumber parts (hash_part_of (get_or paths number [])) (Some number)
part_in_order paths parts in_order number of ordered lt = search (rules, length-map, get_or-map)

-- a slice of a list that was lent whole, and written
pub written : {X : Type 0} (new rest : List X) (n : ℕ) → length new ≡ n → take n (new ++ rest) ≡ new
written new rest n long = take_at new rest n long

-- one member's name and tree, fed each as lists of their own
pub member_fed :
    (lists trees rest whole : List (List ℕ)) (present name : List ℕ) →
    present ≡ [] →
    lists ++ (name ∷ (trees ++ rest)) ≡ whole →
    ((lists ++ (present ++ name) ∷ []) ++ trees) ++ rest ≡ whole
member_fed lists trees rest whole present name none is = search (rules, append_assoc)

-- the hash part of each path is one
pub are_hash_parts :
    (paths parts : List (List ℕ)) (in_order : Bool) →
    ArePartsOf paths parts in_order →
    (path : List ℕ) → Contains paths path → IsTrue (is_hash_part (hash_part_of path))
are_hash_parts paths parts in_order of path has =
    let at = of.known path has in
    subst (λ p. IsTrue (is_hash_part p)) at.2 (of.are_parts.each at.0 (hash_part_of path) at.1)
