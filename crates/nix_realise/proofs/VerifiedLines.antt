-- The lines of some valid paths grow by that of one more.
use Rattle.std.proofs.Common.{◌≡◌, ◌∙◌, ◌&&◌, ◌+◌, ◌<◌, ℕ, Bool, true, false, List, [], ◌∷◌, ◌++◌, ap, get_or, if◌then◌else◌, length, map, not, refl, subst, sym, take}
use Rattle.std.proofs.lemmas.List.{flat_map_more, map-append, take_more}
use Rattle.std.proofs.lemmas.List.Elements.{All-nil, All-push}
use Rattle.std.proofs.lemmas.List.Folds.{list_all-append}
use Rattle.std.specs.List.{list_all}
use Rattle.valid_table.specs.Tables.{JournalValue}
use Rattle.nix_realise.specs.Verifying.{AreLines, is_bad, line_of}
use Rattle.nix_realise.specs.private.Verified.{IsFound}
use Rattle.nix_realise.specs.declared.cli.exit.Status.{Status}
use Rattle.nix_realise.specs.declared.cli.exit.Status.TheVariants.{Done, Unrealised}
use Rattle.nix_realise.specs.declared.verification.verified.Verified.{Verified}

-- no lines
pub lines_nil : (journal : JournalValue) → AreLines journal [] [] Done
lines_nil journal = record {
  rows = [];
  paths_are = refl;
  each = All-nil (λ row. IsFound journal row.0 row.1);
  lines = refl;
  is_status = refl;
}

status_for : Bool → Status
status_for fine = if fine then Done else Unrealised

and_true : (b : Bool) → (b && true) ≡ b
and_true true = refl
and_true false = refl

status_push : (fine bad : Bool)
    → status_for (fine && not bad) ≡ (if bad then Unrealised else status_for fine)
unfolding status_for
status_push true true = refl
status_push true false = refl
status_push false true = refl
status_push false false = refl

all_fine_push : (rows : List (List ℕ × Verified)) (path : List ℕ) (found : Verified)
    → list_all (λ row. not (is_bad row.1)) (rows ++ (path, found) ∷ [])
    ≡ (list_all (λ row. not (is_bad row.1)) rows && not (is_bad found))
all_fine_push rows path found =
    list_all-append (λ row. not (is_bad row.1)) rows ((path, found) ∷ [])
    ∙ ap (λ b. list_all (λ row. not (is_bad row.1)) rows && b) (and_true (not (is_bad found)))

-- the lines of some paths and of one more
pub lines_push : (journal : JournalValue) (paths : List (List ℕ)) (text : List ℕ)
    (before : Status) (path : List ℕ) (found : Verified) (all : List ℕ) (after : Status)
    → AreLines journal paths text before → IsFound journal path found
    → all ≡ text ++ line_of path found
    → after ≡ (if is_bad found then Unrealised else before)
    → AreLines journal (paths ++ path ∷ []) all after
unfolding status_for
lines_push journal paths text before path found all after lines said grown ends = record {
  rows = lines.rows ++ (path, found) ∷ [];
  paths_are =
      map-append (λ row. row.0) lines.rows ((path, found) ∷ [])
      ∙ ap (λ ps. ps ++ path ∷ []) lines.paths_are;
  each =
      let P : List ℕ × Verified → Type 0 = λ row. IsFound journal row.0 row.1 in
      All-push P lines.rows (path, found) lines.each said;
  lines =
      grown ∙ ap (λ t. t ++ line_of path found) lines.lines
      ∙ flat_map_more (λ row. line_of row.0 row.1) [] lines.rows (path, found);
  is_status =
      let fine : Bool = list_all (λ row. not (is_bad row.1)) lines.rows in
      let both = all_fine_push lines.rows path found in
      ends ∙ ap (λ s. if is_bad found then Unrealised else s) lines.is_status
      ∙ sym (ap status_for both ∙ status_push fine (is_bad found));
}

-- the first paths and one more
pub lines_more : (journal : JournalValue) (paths : List (List ℕ)) (i : ℕ) (path text : List ℕ)
    (before : Status) (found : Verified) (all : List ℕ) (after : Status)
    → i < length paths → path ≡ get_or paths i path
    → AreLines journal (take i paths) text before → IsFound journal path found
    → all ≡ text ++ line_of path found → after ≡ (if is_bad found then Unrealised else before)
    → AreLines journal (take (i + 1) paths) all after
lines_more journal paths i path text before found all after within is lines said grown ends =
    subst (λ ps. AreLines journal ps all after)
    (ap (λ p. take i paths ++ p ∷ []) is ∙ sym (take_more paths i path within))
    (lines_push journal (take i paths) text before path found all after lines said grown ends)
