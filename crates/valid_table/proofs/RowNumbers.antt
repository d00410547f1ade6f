-- The rows of a table, by their numbers, and the paths at them.
use Rattle.std.proofs.Common.{◌≡◌, ℕ, ◌<◌, List, length, get_or, nat_eq, Option, Some, None, is_some, subst, ◌∙◌, Contains, MatchOption, rules}
use Rattle.std.specs.Cmp.Lexicographic.{pointwise, nat_list_eq_equiv}
use Rattle.std.specs.Map.{keys_of}
use Rattle.std.proofs.lemmas.Bool.{false≢true}
use Rattle.std.proofs.lemmas.List.{get_or-map, get_or_default, length-map}
use Rattle.std.proofs.lemmas.List.Quantifiers.{position-Some}
use Rattle.std.proofs.lemmas.Map.Views.{hash_map_contains_key_iff}
use Rattle.std.proofs.lemmas.Simd.{map-map}
use Rattle.indexmap.specs.IndexMap.{IndexMap, get_by, index_of_by, keys}
use Rattle.nix_names.proofs.RisingLists.{equal_from_eq}
use Rattle.valid_table.specs.private.Closing.{IsRowOf}
use Rattle.valid_table.specs.Entries.{paths_registered}
use Rattle.valid_table.specs.PathInfos.{PathInfo}
use Rattle.valid_table.specs.Tables.{registrations_of}
use Rattle.valid_table.specs.Valid.{IsValid}
use Rattle.valid_table.specs.declared.entry.Registration.{Registration}

-- the paths that rows register are their keys
pub paths_are_keys : (rows : List (List ℕ × PathInfo)) → paths_registered (registrations_of rows)
    ≡ keys_of rows
paths_are_keys rows = search (rules, map-map)

-- there are as many paths as rows
pub path_count : (registrations : List Registration) → length (paths_registered registrations)
    ≡ length registrations
path_count registrations = search (rules, length-map)

-- the path of the registration at an index
pub path_read : (rs : List Registration) (i : ℕ) (r : Registration) (d : List ℕ) → i < length rs
    → get_or (paths_registered rs) i d ≡ (get_or rs i r).path
path_read rs i r d lt = search (rules, get_or-map)

-- a row is a registration
pub row_count : (rows : List (List ℕ × PathInfo)) → length (registrations_of rows) ≡ length rows
row_count rows = search (rules, length-map)

-- what a look-up by index answers is the row of the path, or that it is not valid
pub row_found : {S : Type 0} (m : IndexMap (List ℕ) PathInfo S) (path : List ℕ) (row : Option ℕ)
    → row ≡ index_of_by (pointwise nat_eq path) m → is_some row
    ≡ is_some (get_by (pointwise nat_eq path) m)
    → MatchOption row (IsValid (registrations_of m.entries) path → ⊥)
    (IsRowOf (registrations_of m.entries) path)
row_found m path None is found =
    λ valid.
    let has : Contains (keys m) path = subst (λ (ks : List (List ℕ)). Contains ks path)
    (paths_are_keys _) valid in
    false≢true (found ∙ (hash_map_contains_key_iff nat_list_eq_equiv equal_from_eq m _).1 has)
row_found m path (Some row) is found =
    search (rules, position-Some, equal_from_eq, path_count, paths_are_keys)

-- a path with a row is valid
pub valid_from_row : (registrations : List Registration) (path : List ℕ) (row : ℕ)
    → IsRowOf registrations path row → IsValid registrations path
valid_from_row registrations path row of = search (rules, path_count, get_or_default)
