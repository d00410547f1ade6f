-- Rows that are followed, one after the other, to the rows of their references.
use Rattle.std.proofs.Common.{◌≡◌, ℕ, ◌+◌, ◌<◌, ◌≤◌, List, [], ◌∷◌, ◌++◌, length, take, map, get_or, Some, refl, sym, ap, subst, ◌∙◌, arith, All, Contains, rules}
use Rattle.std.specs.List.{slice_get}
use Rattle.std.proofs.Math.Seq.{take-length}
use Rattle.std.specs.Map.{values_of}
use Rattle.std.proofs.lemmas.Bool.Decides.{Decides-eqb}
use Rattle.std.proofs.lemmas.List.{get_or-map, get_or_default, map-append, take-append-le, take_all}
use Rattle.std.proofs.lemmas.List.Elements.{All-append, All-contains, All-contains_itself, All-get_or, All-map, All-nil, All-push, All-weaker, Contains-get_or}
use Rattle.std.proofs.lemmas.Map.Steps.{length-le_from_distinct_below}
use Rattle.std.proofs.lemmas.Map.Views.{Contains-from_any}
use Rattle.std.proofs.lemmas.Option.{get_or_from_slice_get}
use Rattle.valid_table.specs.private.Closing.{AddsRows, AreRows, HasReferences, IsFollowed, IsReachedFrom, path_at, paths_at}
use Rattle.valid_table.specs.Entries.{paths_registered}
use Rattle.valid_table.specs.PathInfos.{PathInfo}
use Rattle.valid_table.specs.Tables.{registrations_of}
use Rattle.valid_table.specs.Valid.{IsOnce, IsValid, Registers}
use Rattle.valid_table.specs.declared.entry.Registration.{Registration}
use Rattle.valid_table.proofs.AddedRows.{paths_kept}
use Rattle.valid_table.proofs.PathLists.{All-right}
use Rattle.valid_table.proofs.Reaching.{reached_itself, reached_more, same_index}
use Rattle.valid_table.proofs.RowNumbers.{path_count, row_count, valid_from_row}
use Rattle.nix_names.proofs.Lists.{Contains-map, taken_more}

-- there are at most as many rows, none twice, as are registered
pub few_rows : (registrations : List Registration) (rows : List ℕ) → AreRows registrations rows
    → length rows ≤ length registrations
few_rows registrations rows are =
    length-le_from_distinct_below _ _ are.distinct
    (λ row has. All-contains (λ r. r < length registrations) _ _ are.below
    (Contains-from_any (λ x y. (Decides-eqb x y).0) _ _ has))

-- a row among some is one of those registered
pub row_below : (registrations : List Registration) (rows : List ℕ) (i : ℕ)
    → AreRows registrations rows → i < length rows → get_or rows i 0 < length registrations
row_below registrations rows i are within = search (rules, All-get_or)

-- a path has one record
pub one_info : (registrations : List Registration) → IsOnce registrations
    → (path : List ℕ) (a b : PathInfo) → Registers registrations path a
    → Registers registrations path b → a ≡ b
one_info registrations once path a b has has' =
    let first : Registration = record { path = path; info = a } in
    let second : Registration = record { path = path; info = b } in
    let at : get_or (paths_registered registrations) has.0 []
    ≡ path = get_or-map (λ (r : Registration). r.path) _ _ _ [] has.1
    ∙ ap (λ (r : Registration). r.path) has.2 in
    let at' : get_or (paths_registered registrations) has'.0 []
    ≡ path = get_or-map (λ (r : Registration). r.path) _ _ _ [] has'.1
    ∙ ap (λ (r : Registration). r.path) has'.2 in
    let index : has.0 ≡ has'.0 = same_index _ once _ _
    (omega (arith, has.1, path_count registrations))
    (omega (arith, has'.1, path_count registrations)) (at ∙ sym at') in
    let same : first ≡ second = sym has.2 ∙ get_or_default registrations has.0 first second has.1
    ∙ ap (λ (k : ℕ). get_or registrations k second) index ∙ has'.2 in
    ap (λ (r : Registration). r.info) same

-- a row registers its path with its record
pub row_registers : (rows : List (List ℕ × PathInfo)) (row : ℕ) (info : PathInfo) → row
    < length rows → slice_get (values_of rows) row ≡ Some info
    → Registers (registrations_of rows) (path_at (registrations_of rows) row) info
row_registers rows row info below at =
    let registrations : List Registration = registrations_of rows in
    let own : Registration = record { path = path_at registrations row; info = info } in
    let within : row < length registrations = omega (arith, below, row_count rows) in
    let is : get_or registrations row own ≡ record {
      path = (get_or rows row ([], info)).0;
      info = (get_or rows row ([], info)).1;
    } =
    get_or-map (λ (e : List ℕ × PathInfo). record { path = e.0; info = e.1 }) _ _
    _ own below in
    let same_info : (get_or rows row ([], info)).1
    ≡ info = sym (get_or-map (λ (e : List ℕ × PathInfo). e.1) rows row ([], info) info below)
    ∙ get_or_from_slice_get (values_of rows) row info info at in
    let same_path : (get_or registrations row own).path ≡ path_at registrations row =
    sym (get_or-map (λ (r : Registration). r.path) registrations row own [] within) in (
      row,
      within,
      λ i. record {
        path = same_path i;
        info =
            (ap (λ (r : Registration). r.info) is ∙ same_info) i;
      },
    )

-- the path of a row is valid
row_is_valid : (registrations : List Registration) (row : ℕ) → row < length registrations
    → IsValid registrations (path_at registrations row)
row_is_valid registrations row below = valid_from_row _ _ _ (below, refl)

rows_are_valid : (registrations : List Registration) (rows : List ℕ)
    → All (λ r. r < length registrations) rows
    → All (IsValid registrations) (paths_at registrations rows)
rows_are_valid registrations rows below = search (rules, All-map, All-weaker, row_is_valid)

-- before any row is followed
pub followed_none : (registrations : List Registration) (start : List ℕ)
    → AreRows registrations start → IsFollowed registrations start start 0
followed_none registrations start rows =
    search (rules, All-contains_itself, reached_itself, Contains-get_or, rows_are_valid, All-nil)

-- one more row is followed
pub followed_more : (registrations : List Registration) → IsOnce registrations
    → (start found new : List ℕ) (count row : ℕ) (info : PathInfo)
    → IsFollowed registrations start found count → count < length found → row
    ≡ get_or found count row → Registers registrations (path_at registrations row) info
    → AddsRows registrations found info.references new
    → IsFollowed registrations start new (count + 1)
followed_more registrations once start found new count row info before below at registers adds =
    let roots = paths_at registrations start in
    let path = path_at registrations row in
    let keeps = paths_kept _ _ _ _ adds.parts in
    let has_row : Contains found row = (count, below, sym at) in
    let row_reached : IsReachedFrom registrations roots path =
    All-contains (IsReachedFrom registrations roots) _ _
    before.reached (Contains-map (path_at registrations) _ _ has_row) in
    record {
      rows = adds.rows;
      kept = All-weaker (Contains (paths_at registrations found))
          (Contains (paths_at registrations new)) keeps _ before.kept;
      reached = subst (All (IsReachedFrom registrations roots))
          (sym (ap (map (path_at registrations)) adds.parts
          ∙ map-append (path_at registrations) found adds.added))
          (All-append (IsReachedFrom registrations roots) _
          _ before.reached
          (λ k d within. reached_more _ _ _
          (get_or (paths_at registrations adds.added) k d) row_reached
          (info, registers, adds.asked k d within) (added_valid k d within)));
      followed = subst (All (HasReferences registrations (paths_at registrations new)))
          (sym first_paths)
          (All-push (HasReferences registrations (paths_at registrations new))
          (paths_at registrations (take count found)) path
          (All-weaker (HasReferences registrations (paths_at registrations found))
          (HasReferences registrations (paths_at registrations new))
          (λ p has next refers valid. keeps next (has next refers valid))
          (paths_at registrations (take count found)) before.followed)
          row_has);
    }
  where
    added_valid : All (IsValid registrations) (paths_at registrations adds.added)
    added_valid = rows_are_valid registrations adds.added
        (All-right (λ r. r < length registrations) found adds.added
        (subst (All (λ r. r < length registrations)) adds.parts adds.rows.below))

    first_paths : paths_at registrations (take (count + 1) new)
        ≡ paths_at registrations (take count found) ++ path_at registrations row ∷ []
    first_paths =
        let taken : take (count + 1) new ≡ take count found ++ row ∷ [] =
        ap (take (count + 1)) adds.parts ∙ take-append-le (count + 1) found adds.added (omega arith)
        ∙ taken_more found count row below at in
        ap (map (path_at registrations)) taken
        ∙ map-append (path_at registrations) (take count found) (row ∷ [])

    row_has : HasReferences registrations (paths_at registrations new) (path_at registrations row)
    row_has next refers valid =
        let same : refers.0 ≡ info = one_info registrations once (path_at registrations row)
        refers.0 info refers.1 registers in
        All-contains (λ p. IsValid registrations p → Contains (paths_at registrations new) p)
        info.references next adds.there
        (subst (λ (i : PathInfo). Contains i.references next) same refers.2) valid

-- where none is left, all rows are followed
pub followed_all : (registrations : List Registration) (start found : List ℕ) (count : ℕ)
    → IsFollowed registrations start found count → length found ≤ count
    → IsFollowed registrations start found (length found)
followed_all registrations start found count so_far none = record {
  rows = so_far.rows;
  kept = so_far.kept;
  reached = so_far.reached;
  followed = subst (λ (rows : List ℕ).
      All (HasReferences registrations (paths_at registrations found))
      (paths_at registrations rows)) (take_all count found none ∙ sym (take-length found))
      so_far.followed;
}
