-- The rows of a table, and the registrations that they are.
use Rattle.std.proofs.Common.{◌≡◌, ◌∙◌, ℕ, zero, suc, ◌+◌, ◌<◌, List, [], ◌∷◌, ◌++◌, length, take, drop, get_or, refl, sym, ap, subst, arith, nat_eq, Bor, Bool, Result, Ok, Err, true≢false, rules}
use Rattle.std.specs.Prelude.{◌↔◌, Contains, IsOk, IsTrue, OnOk, Option, Some, None, MatchOption, is_some}
use Rattle.std.specs.Cmp.Lexicographic.{pointwise, nat_list_eq_equiv}
use Rattle.std.specs.Map.{keys_of, lookup}
use Rattle.std.specs.Option.{option_copied}
use Rattle.std.proofs.lemmas.Bool.{false≢true}
use Rattle.std.proofs.lemmas.List.{append_assoc, map_push}
use Rattle.std.proofs.lemmas.Map.Views.{Contains-from_lookup, Contains-keys_from_lookup, IsSome-lookup_from_Contains, hash_map_contains_key_iff}
use Rattle.indexmap.proofs.CallerLemmas.{insert_entry-new}
use Rattle.indexmap.specs.IndexMap.{IndexMap, get_by, insert_entry}
use Rattle.nix_names.proofs.RisingLists.{equal_from_eq}
use Rattle.valid_table.specs.PathInfos.{PathInfo}
use Rattle.valid_table.specs.Tables.{registrations_of}
use Rattle.valid_table.specs.Valid.{IsNotValid, IsOnce, IsValid, Registers}
use Rattle.valid_table.specs.declared.entry.Registration.{Registration}
use Rattle.valid_table.proofs.JournalLists.{paths_of-append}
use Rattle.valid_table.proofs.PathLists.{once_apart}
use Rattle.valid_table.proofs.RowNumbers.{paths_are_keys}
use Rattle.nix_names.proofs.Lists.{parts_at, taken_more}

-- a row is among the registrations
registers_row : (rows : List (List ℕ × PathInfo)) (path : List ℕ) (info : PathInfo)
    → Contains rows (path, info) → Registers (registrations_of rows) path info
registers_row [] path info (k, lt, is) = absurd (omega arith)
registers_row (row ∷ rows) path info (zero, lt, is) = search rules
registers_row (row ∷ rows) path info (suc k, lt, is) =
    let (n, below, same) = registers_row rows path info (k, omega arith, is)
    in (suc n, omega arith, same)

-- what a look-up by path finds
pub found_row :
    (rows : List (List ℕ × PathInfo)) (path : List ℕ) (found : Option (Bor PathInfo)) →
    option_copied found ≡ lookup (pointwise nat_eq path) rows →
    MatchOption found (IsValid (registrations_of rows) path → ⊥)
    (λ info. Registers (registrations_of rows) path info.now)
found_row rows path None is = λ valid.
    let there = IsSome-lookup_from_Contains nat_list_eq_equiv _ _
    (subst (λ keys. Contains keys path) (paths_are_keys _) valid) in
    true≢false (sym there ∙ ap is_some (sym is))
found_row rows path (Some info) is = registers_row _ _ _
    (Contains-from_lookup equal_from_eq _ _ _ (sym is))

-- a path that isn't among the keys is not found
not_found : (rows : List (List ℕ × PathInfo)) (path : List ℕ) → (Contains (keys_of rows) path → ⊥)
    → lookup (pointwise nat_eq path) rows ≡ None
not_found rows path apart = go (lookup (pointwise nat_eq path) rows) refl
  where
    go : (found : Option PathInfo) → lookup (pointwise nat_eq path) rows ≡ found
        → lookup (pointwise nat_eq path) rows ≡ None
    go None is = is
    go (Some info) is =
        absurd (apart (Contains-keys_from_lookup equal_from_eq _ _ (ap is_some is)))

-- whether a path is among the keys tells whether it is valid
pub has_row_says :
    {S : Type 0} (rows : IndexMap (List ℕ) PathInfo S) (path : List ℕ) (found : Bool) →
    found ≡ is_some (get_by (pointwise nat_eq path) rows) →
    IsTrue found ↔ IsValid (registrations_of rows.entries) path
has_row_says rows path found is =
    let keys = paths_are_keys rows.entries in
    let says = hash_map_contains_key_iff nat_list_eq_equiv equal_from_eq rows _ in (
      λ yes. subst (λ ks. Contains ks path) (sym keys) (says.0 (sym is ∙ yes)),
      λ valid. is ∙ says.1 (subst (λ ks. Contains ks path) keys valid),
    )

-- a row that is moved in
pub row_pushed :
    {S : Type 0} (rows : IndexMap (List ℕ) PathInfo S) (r : Registration)
    (new : List (List ℕ × PathInfo)) →
    IsNotValid (registrations_of rows.entries) r.path →
    new ≡ insert_entry (pointwise nat_eq) rows.entries r.path r.info →
    registrations_of new ≡ registrations_of rows.entries ++ r ∷ []
row_pushed rows r new fresh added =
    search (rules, not_found, paths_are_keys, insert_entry-new, map_push)

-- the path of a registration after others is not valid by them, where no path is registered twice
pub next_new : (known later : List Registration) (r : Registration) → IsOnce (known ++ r ∷ later)
    → IsNotValid known r.path
next_new known later r once = search (rules, once_apart, paths_of-append)

-- one more row
pub row_added :
    {S : Type 0} (rows : IndexMap (List ℕ) PathInfo S) (before rs : List Registration) (i : ℕ)
    (r : Registration) (new : List (List ℕ × PathInfo)) →
    IsOnce (before ++ rs) →
    registrations_of rows.entries ≡ before ++ take i rs →
    i < length rs →
    r ≡ get_or rs i r →
    new ≡ insert_entry (pointwise nat_eq) rows.entries r.path r.info →
    registrations_of new ≡ before ++ take (i + 1) rs
row_added rows before rs i r new once is_so lt is added =
    let prefix = before ++ take i rs in
    let later = drop (i + 1) rs in
    let whole : before ++ rs ≡ prefix ++ r ∷ later = ap (λ l. before ++ l) (parts_at _ i r lt is)
    ∙ sym (append_assoc before (take i rs) (r ∷ later)) in
    row_pushed rows r new (rw is_so (next_new prefix later r (subst IsOnce whole once))) added
    ∙ ap (λ l. l ++ r ∷ []) is_so
    ∙ append_assoc before (take i rs) (r ∷ [])
    ∙ ap (λ l. before ++ l) (sym (taken_more _ i r lt is))

-- what holds where there is a value holds where there is one
pub on_ok : {T E P : Type 0} (result : Result T E) → IsOk result → OnOk result P → P
on_ok (Ok x) is holds = holds
on_ok (Err e) is holds = absurd (false≢true is)
