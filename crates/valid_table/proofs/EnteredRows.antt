-- Registrations that are put among the rows of a table before their lines are checked.
use Rattle.std.proofs.Common.{◌≡◌, ◌∙◌, ℕ, ◌+◌, ◌<◌, ◌≤◌, Bool, true, false, List, [], ◌∷◌, ◌++◌, length, take, get_or, sym, ap, subst, arith, refl, inl, inr, nat_eq, rules}
use Rattle.std.specs.Prelude.{Contains, IfSome, OnOk, Some, Result, Ok, Err, is_some}
use Rattle.std.specs.List.{IsDistinct, take-map}
use Rattle.std.specs.Cmp.Lexicographic.{pointwise}
use Rattle.std.specs.Map.{keys_of}
use Rattle.std.proofs.lemmas.Bool.{false≢true}
use Rattle.std.proofs.lemmas.List.{append_assoc, take-append-drop, take_all}
use Rattle.std.proofs.lemmas.Option.{slice_get-get_or}
use Rattle.std.proofs.lemmas.List.Elements.{All-weaker, Contains-append_cases, Contains-append_left, Contains-append_right}
use Rattle.indexmap.proofs.CallerLemmas.{keys-insert_entry-present}
use Rattle.indexmap.specs.IndexMap.{IndexMap, get_by, insert_entry}
use Rattle.nix_names.specs.Rising.{IsRising}
use Rattle.nix_names.proofs.Lists.{parts_at, taken_more}
use Rattle.nix_names.proofs.RisingLists.{distinct_from_rising}
use Rattle.valid_table.specs.private.Checking.{IsLineCheck}
use Rattle.valid_table.specs.private.Closing.{HaveSame}
use Rattle.valid_table.specs.private.Entering.{AreUnknown, IsNewPrefix, IsPut, IsNotKnown}
use Rattle.valid_table.specs.Entries.{paths_registered}
use Rattle.valid_table.specs.PathInfos.{PathInfo}
use Rattle.valid_table.specs.Tables.{registrations_of}
use Rattle.valid_table.specs.Valid.{IsNotValid, IsValid}
use Rattle.valid_table.specs.declared.entry.Registration.{Registration}
use Rattle.valid_table.specs.declared.fault.TableFault.{TableFault}
use Rattle.valid_table.specs.declared.fault.TableFault.TheVariants.{NotClosed, Twice}
use Rattle.valid_table.proofs.EnteredPaths.{new_more, path_at}
use Rattle.valid_table.proofs.JournalLists.{paths_of-append}
use Rattle.valid_table.proofs.PathLists.{once_apart}
use Rattle.valid_table.proofs.RowNumbers.{paths_are_keys, path_count}
use Rattle.valid_table.proofs.TableRows.{has_row_says, row_pushed}

-- what the insertion of a row answers
pub row_put : {S : Type 0} (rows : IndexMap (List ℕ) PathInfo S) (r : Registration)
    (new : List (List ℕ × PathInfo)) (had : Bool)
    → had ≡ is_some (get_by (pointwise nat_eq r.path) rows)
    → new ≡ insert_entry (pointwise nat_eq) rows.entries r.path r.info
    → IsPut (registrations_of rows.entries) (registrations_of new) r had
row_put rows r new true is added =
    let valid = (has_row_says rows _ _ is).0 refl in (
      valid,
      paths_are_keys _
          ∙ ap keys_of added
          ∙ keys-insert_entry-present (pointwise nat_eq) rows _ _ (sym is)
          ∙ sym (paths_are_keys _),
    )
row_put rows r new false is added =
    let fresh : IsNotValid (registrations_of rows.entries) r.path =
    (λ valid. false≢true ((has_row_says rows _ _ is).1 valid)) in
    (fresh, row_pushed rows r _ fresh added)

-- ---- the first of some registrations, after known ones

abbrev prefix : List Registration → List Registration → ℕ → List Registration
prefix known rs i = known ++ take i rs

prefix_paths : (known rs : List Registration) (i : ℕ) → paths_registered (prefix known rs i)
    ≡ paths_registered known ++ take i (paths_registered rs)
prefix_paths known rs i = paths_of-append _ _
    ∙ ap (λ l. paths_registered known ++ l) (sym (take-map (λ (r : Registration). r.path) i rs))

-- the next path is not among the first
next_apart : (rs : List Registration) (i : ℕ) (r : Registration) → IsRising (paths_registered rs)
    → i < length rs → r ≡ get_or rs i r → Contains (take i (paths_registered rs)) r.path → ⊥
next_apart rs i r rising lt is has =
    let paths = paths_registered rs in
    let at : r.path ≡ get_or paths i r.path = sym (path_at _ i r _ lt is) in
    once_apart _ _ _
    (subst (IsDistinct (pointwise nat_eq))
    (parts_at paths i r.path (omega (arith, lt, path_count rs)) at)
    (distinct_from_rising _ rising)) has

-- so it is valid by both where it is by known ones
pub known_next : (known rs : List Registration) (i : ℕ) (r : Registration)
    → IsRising (paths_registered rs) → i < length rs → r ≡ get_or rs i r
    → IsValid (prefix known rs i) r.path
    → IsValid known r.path
known_next known rs i r rising lt is valid =
    elim (Contains-append_cases _ _ _
    (subst (λ ps. Contains ps r.path) (prefix_paths _ _ i) valid)) [
      | inl there ↦ there
      | inr among ↦ absurd (next_apart _ i r rising lt is among)
    ]

unknown_next : (known rs : List Registration) (i : ℕ) (r : Registration)
    → IsNotValid (prefix known rs i) r.path → IsNotKnown (paths_registered known) r.path
unknown_next known rs i r not valid =
    not (subst (λ ps. Contains ps r.path) (sym (prefix_paths _ _ i))
    (Contains-append_left _ _ _ valid))

-- one more was put after them
pub put_more : (known rs now new : List Registration) (i : ℕ) (r : Registration)
    → now ≡ prefix known rs i → AreUnknown (paths_registered known) (take i (paths_registered rs))
    → i < length rs
    → r ≡ get_or rs i r → IsPut now new r false
    → (new ≡ prefix known rs (i + 1)) × AreUnknown (paths_registered known)
    (take (i + 1) (paths_registered rs))
put_more known rs now new i r is_prefix unknown lt is put = (
  put.1
      ∙ ap (λ l. l ++ r ∷ []) is_prefix
      ∙ append_assoc known (take i rs) (r ∷ [])
      ∙ ap (λ l. known ++ l) (sym (taken_more _ i r lt is)),
  new_more _ _ i r unknown lt is
      (unknown_next _ _ i r (subst (λ l. IsNotValid l r.path) is_prefix put.0)),
)

-- the next one had its path there
pub put_twice : (known rs now new : List Registration) (i : ℕ) (r : Registration)
    → IsRising (paths_registered rs) → now ≡ prefix known rs i
    → AreUnknown (paths_registered known) (take i (paths_registered rs)) → i < length rs
    → r ≡ get_or rs i r
    → IsPut now new r true
    → IsNewPrefix (paths_registered known) (paths_registered rs) i × (paths_registered new
    ≡ paths_registered known ++ take i (paths_registered rs))
put_twice known rs now new i r rising is_prefix unknown lt is put = (
  record {
    within = omega (arith, lt, path_count rs);
    new = unknown;
    next = subst (λ o. IfSome o (Contains (paths_registered known)))
        (sym (slice_get-get_or (paths_registered rs) i r.path (omega (arith, lt, path_count rs))
        ∙ ap Some (path_at _ i r _ lt is)))
        (known_next _ _ i r rising lt is (subst (λ l. IsValid l r.path) is_prefix put.0));
  },
  put.1 ∙ ap paths_registered is_prefix ∙ prefix_paths _ _ i,
)

-- all were put after them
pub put_all : (known rs new : List Registration) (n : ℕ) → length rs ≤ n → new ≡ prefix known rs n
    → new ≡ known ++ rs
put_all known rs new n long is = search (rules, take_all)

pub put_paths : (known rs new : List Registration) (n : ℕ) → length rs ≤ n → new ≡ prefix known rs n
    → paths_registered new ≡ paths_registered known ++ take (length rs) (paths_registered rs)
put_paths known rs new n long is = search (rules, put_all, paths_of-append, take_all, path_count)

-- ---- lines that were checked after more rows with the same paths

Contains-take : (paths : List (List ℕ)) (i : ℕ) (path : List ℕ) → Contains (take i paths) path
    → Contains paths path
Contains-take paths i path has =
    subst (λ ps. Contains ps path) (take-append-drop i paths) (Contains-append_left _ _ _ has)

-- after the first of some paths, and after all of them, the same are known
pub same_known : (known paths : List (List ℕ)) (i : ℕ)
    → HaveSame ((known ++ take i paths) ++ paths) (known ++ paths)
same_known known paths i = λ path. (
  λ has. elim (Contains-append_cases _ _ _ has) [
    | inl prefix ↦ elim (Contains-append_cases _ _ _ prefix) [
      | inl there ↦ Contains-append_left known paths path there
      | inr taken ↦ Contains-append_right known paths path (Contains-take _ i _ taken)
    ]
    | inr own ↦ Contains-append_right known paths path own
  ],
  λ has. elim (Contains-append_cases _ _ _ has) [
    | inl there ↦
        Contains-append_left (known ++ take i paths) paths path
        (Contains-append_left _ _ _ there)
    | inr own ↦ Contains-append_right (known ++ take i paths) paths path own
  ],
)

-- so the same is answered for the lines
pub same_check : (all known : List (List ℕ)) (rs : List Registration) (new first : ℕ)
    (result : Result ℕ TableFault) → HaveSame all known → IsLineCheck all rs new first result
    → IsLineCheck known rs new first result
same_check all known rs new first (Ok later) same (long, closed, number) =
    (long, All-weaker (Contains all) (Contains known) (λ p has. (same p).0 has) _ closed, number)
same_check all known rs new first (Err (Twice n)) same (lt, closed, number) =
    (lt, All-weaker (Contains all) (Contains known) (λ p has. (same p).0 has) _ closed, number)
same_check all known rs new first (Err (NotClosed n)) same
    (before, r, after, index, parts, lt, closed, unknown, number) = (
      before,
      r,
      after,
      index,
      parts,
      lt,
      All-weaker (Contains all) (Contains known) (λ p has. (same p).0 has) _ closed,
      (
        unknown.0,
        record {
          before = unknown.1.before;
          after = unknown.1.after;
          parts = unknown.1.parts;
          others = All-weaker (Contains all) (Contains known) (λ p has. (same p).0 has) _
              unknown.1.others;
          is = λ has. unknown.1.is ((same unknown.0).1 has);
        },
        unknown.2,
      ),
      number,
    )
same_check all known rs new first (Err other) same check = check

pub check_before : (known now rs : List Registration) (new first : ℕ) (result : Result ℕ TableFault)
    → paths_registered now ≡ paths_registered known ++ take new (paths_registered rs)
    → IsLineCheck (paths_registered (now ++ rs)) rs new first result
    → IsLineCheck (paths_registered (known ++ rs)) rs new first result
check_before known now rs new first result is check =
    same_check _ _ _ _ _ _
    (subst (HaveSame (paths_registered (now ++ rs))) (sym (paths_of-append _ _))
    (subst (λ ps. HaveSame ps (paths_registered known ++ paths_registered rs))
    (sym (paths_of-append _ _ ∙ ap (λ ps. ps ++ paths_registered rs) is))
    (same_known (paths_registered known) (paths_registered rs) new))) check

-- what holds where all paths were new holds where no line was wrong
pub where_right : {P : Type 0} (all : List (List ℕ)) (rs : List Registration) (new first : ℕ)
    (result : Result ℕ TableFault) → IsLineCheck all rs new first result → (length rs ≤ new → P)
    → OnOk result P
where_right all rs new first (Ok later) check holds = holds check.0
where_right all rs new first (Err e) check holds = tt
