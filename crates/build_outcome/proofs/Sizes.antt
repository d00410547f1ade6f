-- The sizes of closures.
use Rattle.std.proofs.Common.{◌≡◌, ◌≢◌, ◌∙◌, ◌↔◌, ◌⊎◌, inl, inr, ⊎_elim, ℕ, zero, suc, ◌+◌, ◌-◌, ◌<◌, ◌≤◌, Bool, true, false, cond, List, [], ◌∷◌, ◌++◌, Option, Some, None, drop, get_or, length, map, Err, is_some, nat_eq, take, refl, rules, sym, ap, subst, arith}
use Rattle.std.specs.Prelude.{All, Contains, find, option_and_then, option_map, zip}
use Rattle.std.specs.Cmp.Lexicographic.{pointwise, texts_ties}
use Rattle.std.specs.List.{HoldsAt, slice_get, sum_by}
use Rattle.std.specs.List.Sorted.{IsBinarySearchResult, IsSearchInRange}
use Rattle.std.specs.Option.{option_or}
use Rattle.std.specs.Ordering.{is_eq}
use Rattle.std.specs.declared.cmp.Ordering.TheVariants.{Equal}
use Rattle.std.proofs.lemmas.Bool.{false≢true}
use Rattle.std.proofs.lemmas.List.{length-map}
use Rattle.std.proofs.lemmas.List.Sums.{sum_by-cons, sum_by_more, sum_by_more_le}
use Rattle.std.proofs.lemmas.List.Elements.{All-contains}
use Rattle.std.proofs.lemmas.List.Folds.{find-append}
use Rattle.std.proofs.lemmas.Option.{none-some, same_Some, slice_get-get_or}
use Rattle.indexmap.specs.IndexMap.{IndexMap, Updates}
use Rattle.nix_names.specs.Rising.{IsRising}
use Rattle.nix_names.proofs.Lists.{Contains-cons_cases, Contains-first, Contains-from_get, Contains-from_map, Contains-later, Contains-map, Contains-nothing, get_from_contains}
use Rattle.nix_names.proofs.RisingLists.{IsBelow, equal_from_eq, first_below, not_below_itself, rising_later, unequal_from_eq}
use Rattle.valid_table.specs.Entries.{paths_registered}
use Rattle.valid_table.specs.PathInfos.{NarInfo, PathInfo}
use Rattle.valid_table.specs.declared.entry.Registration.{Registration}
use Rattle.valid_table.proofs.Searched.{compared, search_tells}
use Rattle.build_outcome.specs.Checks.{AreOuterRecords, nar_at, record_at, registration_of, size_of, size_of_all, with_outputs}
use Rattle.build_outcome.specs.Verdicts.{outputs_of}
use Rattle.build_outcome.specs.declared.job.Job.{Job}
use Rattle.build_outcome.specs.declared.job.JobOutput.{JobOutput}
use Rattle.build_outcome.specs.private.Sizing.{AreNars, kept_nar}

-- the archive that a registration tells of
abbrev nar_of : Registration → Option NarInfo
nar_of r = r.info.nar

-- ---- archives, first by some registrations and then by others

nar_either : (known others : List Registration) (path : List ℕ) (found : Option Registration)
    → record_at known path ≡ found
    → nar_at (known ++ others) path
    ≡ option_and_then nar_of (option_or found (record_at others path))
nar_either known others path found is =
    ap (option_and_then nar_of)
    (find-append (λ (r : Registration). pointwise nat_eq r.path path) known others
    ∙ ap (λ (f : Option Registration). option_or f (record_at others path)) is)

module _ (kept : List ℕ → Option (Option NarInfo)) (known others : List Registration)
    (are : AreNars kept known) (path : List ℕ) where
  pub nar_kept : (nar : Option NarInfo) → kept path ≡ Some nar
      → nar ≡ nar_at (known ++ others) path
  nar_kept nar is = by (record_at known path) refl
    where
      by : (found : Option Registration) → record_at known path ≡ found
          → nar ≡ nar_at (known ++ others) path
      by None e = absurd (none-some nar (sym (are path ∙ ap (option_map nar_of) e) ∙ is))
      by (Some r) e =
          sym (nar_either known others path (Some r) e
          ∙ same_Some (nar_of r) nar (sym (are path ∙ ap (option_map nar_of) e) ∙ is))

  pub nar_not_kept : kept path ≡ None → nar_at others path ≡ nar_at (known ++ others) path
  nar_not_kept is = by (record_at known path) refl
    where
      by : (found : Option Registration) → record_at known path ≡ found
          → nar_at others path ≡ nar_at (known ++ others) path
      by None e = sym (nar_either known others path None e)
      by (Some r) e =
          absurd (none-some (nar_of r) (sym is ∙ are path ∙ ap (option_map nar_of) e))

-- ---- archives that are kept

-- a map has one more entry
abbrev pub Sets : (before after : List ℕ → Option (Option NarInfo)) → (path : List ℕ)
    → Option NarInfo → Type 0
Sets before after path nar = (after path ≡ Some nar)
    × ((other : List ℕ) → other ≢ path → after other ≡ before other)

pub nars_none : (kept : List ℕ → Option (Option NarInfo)) → ((path : List ℕ) → kept path ≡ None)
    → AreNars kept []
nars_none kept none path = none path

pub nars_more : (before after : List ℕ → Option (Option NarInfo)) (r : Registration)
    (rest : List Registration) → AreNars before rest → Sets before after r.path r.info.nar
    → AreNars after (r ∷ rest)
nars_more before after r rest are sets path = by (pointwise nat_eq r.path path) refl
  where
    by : (same : Bool) → pointwise nat_eq r.path path ≡ same
        → after path ≡ option_map nar_of (cond same (Some r) (record_at rest path))
    by true e =
        subst (λ (p : List ℕ). after p ≡ Some r.info.nar) (equal_from_eq r.path path e) sets.0
    by false e = sets.1 path (λ other. unequal_from_eq r.path path e (sym other)) ∙ are path

pub kept_none : {S : Type 0} (nars : IndexMap (List ℕ) (Option NarInfo) S) → nars.entries ≡ []
    → (path : List ℕ) → kept_nar nars path ≡ None
kept_none nars none path = search (rules, nat_eq)

apart_paths : (a b : List ℕ) → (a ≡ b → ⊥) → pointwise nat_eq a b ≡ false
apart_paths a b ne = by (pointwise nat_eq a b) refl
  where
    by : (same : Bool) → pointwise nat_eq a b ≡ same → same ≡ false
    by true e = absurd (ne (equal_from_eq a b e))
    by false e = refl

kept_set_at : {S : Type 0} (before after : IndexMap (List ℕ) (Option NarInfo) S)
    (path : List ℕ) (nar : Option NarInfo)
    → Updates (pointwise nat_eq) before after path (Some nar)
    → Sets (kept_nar before) (kept_nar after) path nar
kept_set_at before after path nar updates = search (rules, apart_paths)

pub kept_set : {S : Type 0} (before after : IndexMap (List ℕ) (Option NarInfo) S)
    (key path : List ℕ) (kept nar : Option NarInfo) → key ≡ path → kept ≡ nar
    → Updates (pointwise nat_eq) before after key (Some kept)
    → Sets (kept_nar before) (kept_nar after) path nar
kept_set before after key path kept nar same is updates =
    subst (λ (p : List ℕ). Sets (kept_nar before) (kept_nar after) p nar) same
    (subst (λ (x : Option NarInfo). Sets (kept_nar before) (kept_nar after) key x) is
    (kept_set_at before after key kept updates))

-- the outputs with their records, from one on
pub own_from : (paths : List (List ℕ)) (infos : List PathInfo) (n : ℕ) (path : List ℕ)
    (info : PathInfo) → slice_get paths n ≡ Some path → slice_get infos n ≡ Some info
    → drop n (map registration_of (zip paths infos))
    ≡ record { path = path; info = info } ∷ drop (suc n) (map registration_of (zip paths infos))
own_from [] infos n path info at at' = absurd (none-some path at)
own_from (p ∷ paths) [] n path info at at' = absurd (none-some info at')
own_from (p ∷ paths) (i ∷ infos) zero path info at at' =
    ap (λ (q : List ℕ). record { path = q; info = i } ∷ map registration_of (zip paths infos))
    (same_Some p path at)
    ∙ ap (λ (j : PathInfo). record { path = path; info = j }
    ∷ map registration_of (zip paths infos)) (same_Some i info at')
own_from (p ∷ paths) (i ∷ infos) (suc n) path info at at' =
    own_from paths infos n path info at at'

pub own_all : (paths : List (List ℕ)) (infos : List PathInfo) (n : ℕ) → length paths ≤ n
    → drop n (map registration_of (zip paths infos)) ≡ []
own_all [] infos n past = nothing n
  where
    nothing : (k : ℕ) → drop k (map registration_of (zip [] infos)) ≡ []
    nothing zero = refl
    nothing (suc k) = refl
own_all (p ∷ paths) [] n past = nothing n
  where
    nothing : (k : ℕ) → drop k (map registration_of (zip (p ∷ paths) [])) ≡ []
    nothing zero = refl
    nothing (suc k) = refl
own_all (p ∷ paths) (i ∷ infos) zero past = absurd (omega arith)
own_all (p ∷ paths) (i ∷ infos) (suc n) past = own_all paths infos n (omega arith)

-- ---- the first registration of a path

bytes_itself : (x : List ℕ) → pointwise nat_eq x x ≡ true
bytes_itself x = by (pointwise nat_eq x x) refl
  where
    by : (same : Bool) → pointwise nat_eq x x ≡ same → same ≡ true
    by true e = refl
    by false e = absurd (unequal_from_eq x x e refl)

pub record_missing : (registrations : List Registration) (path : List ℕ)
    → (Contains (paths_registered registrations) path → ⊥) → record_at registrations path ≡ None
record_missing [] path none = refl
record_missing (r ∷ rest) path none =
    by (pointwise nat_eq r.path path) refl
    (record_missing rest path
    (λ has. none (Contains-later r.path (paths_registered rest) path has)))
  where
    by : (same : Bool) → pointwise nat_eq r.path path ≡ same → record_at rest path ≡ None
        → cond same (Some r) (record_at rest path) ≡ None
    by true e later = absurd (none (subst (Contains (paths_registered (r ∷ rest)))
        (equal_from_eq r.path path e) (Contains-first r.path (paths_registered rest))))
    by false e later = later

pub record_there : (registrations : List Registration) (path : List ℕ)
    → Contains (paths_registered registrations) path
    → (r : Registration) × (record_at registrations path ≡ Some r)
record_there [] path has = absurd (Contains-nothing path has)
record_there (r ∷ rest) path has =
    by (pointwise nat_eq r.path path) refl (λ later. record_there rest path later)
  where
    by : (same : Bool) → pointwise nat_eq r.path path ≡ same
        → (Contains (paths_registered rest) path
        → (found : Registration) × (record_at rest path ≡ Some found))
        → (found : Registration)
        × (cond same (Some r) (record_at rest path) ≡ Some found)
    by true e go = (r, refl)
    by false e go = ⊎_elim
        (λ same. absurd (unequal_from_eq r.path path e same))
        go
        (Contains-cons_cases r.path (paths_registered rest) path has)

-- of registrations in rising order, each is the first of its path
pub record_of_rising : (registrations : List Registration) (n : ℕ) (r : Registration)
    → IsRising (paths_registered registrations) → slice_get registrations n ≡ Some r
    → record_at registrations r.path ≡ Some r
record_of_rising [] n r rises at = absurd (none-some r at)
record_of_rising (q ∷ rest) zero r rises at =
    ap (λ (x : Registration). record_at (q ∷ rest) x.path) (sym (same_Some q r at))
    ∙ ap (λ same. cond same (Some q) (record_at rest q.path)) (bytes_itself q.path)
    ∙ at
record_of_rising (q ∷ rest) (suc n) r rises at =
    by (pointwise nat_eq q.path r.path) refl
    (record_of_rising rest n r (rising_later q.path (paths_registered rest) rises) at)
  where
    has : Contains (paths_registered rest) r.path
    has = Contains-map (λ (x : Registration). x.path) rest r (Contains-from_get rest n r at)

    by : (same : Bool) → pointwise nat_eq q.path r.path ≡ same
        → record_at rest r.path ≡ Some r
        → cond same (Some q) (record_at rest r.path) ≡ Some r
    by true e later = absurd (not_below_itself r.path
        (subst (λ p. IsBelow p r.path) (equal_from_eq q.path r.path e)
        (first_below q.path (paths_registered rest) r.path rises has)))
    by false e later = later

-- ---- a search by path

pub nar_found : (records : List Registration) (path : List ℕ) (i : ℕ) (r : Registration)
    → IsRising (paths_registered records) → i < length records
    → HoldsAt (λ x. compared path x ≡ Equal) records i → r ≡ get_or records i r
    → nar_at records path ≡ r.info.nar
nar_found records path i r rises low here is =
    let same : r.path ≡ path =
    equal_from_eq r.path path
    (texts_ties r.path path ∙ ap is_eq (subst (λ (x : Registration). compared path x ≡ Equal) (sym is)
    (here r))) in
    let at : slice_get records i ≡ Some r = slice_get-get_or records i r low ∙ ap Some (sym is) in
    ap (λ (p : List ℕ). nar_at records p) (sym same)
    ∙ ap (option_and_then nar_of) (record_of_rising records i r rises at)

pub nar_missing : (records : List Registration) (path : List ℕ) (i : ℕ)
    → IsRising (paths_registered records) → IsSearchInRange (Err i) (length records)
    → IsBinarySearchResult (compared path) records (Err i) → nar_at records path ≡ None
nar_missing records path i rises within apart =
    ap (option_and_then nar_of) (record_missing records path
    (λ has. false≢true ((search_tells records path (Err i) rises within apart).1 has)))

pub none_told : {X : Type 0} (found : Option X) → is_some found ≡ false → found ≡ None
none_told None is = refl
none_told (Some x) is = absurd (false≢true (sym is))

pub some_told : {X : Type 0} (found : Option X) → is_some found ≡ true → found ≡ None → ⊥
some_told None is none = false≢true is
some_told (Some x) is none = none-some x (sym none)

-- ---- what is known of the paths of a closure

paths_known : (paths : List (List ℕ)) (infos : List PathInfo) → length infos ≡ length paths
    → paths_registered (map registration_of (zip paths infos)) ≡ paths
paths_known [] infos same = refl
paths_known (p ∷ paths) [] same = absurd (omega (arith, same))
paths_known (p ∷ paths) (i ∷ infos) same =
    ap (λ l. p ∷ l) (paths_known paths infos (omega (arith, same)))

module _ (job : Job) (infos : List PathInfo) where
  -- the records of the outputs, at their paths
  abbrev pub known : List Registration
  known = map registration_of (zip (outputs_of job) infos)

  output_known : (path : List ℕ) → length infos ≡ length job.outputs.items
      → Contains (outputs_of job) path
      → (r : Registration) × (record_at known path ≡ Some r)
  output_known path count own =
      record_there known path (subst (λ (l : List (List ℕ)). Contains l path)
      (sym (paths_known (outputs_of job) infos
      (count ∙ sym (length-map job.outputs.items (λ (o : JobOutput). o.path))))) own)

  nar_first : (one other : List Registration) (path : List ℕ) (r : Registration)
      → record_at known path ≡ Some r → nar_at (known ++ one) path ≡ nar_at (known ++ other) path
  nar_first one other path r is =
      nar_either known one path (Some r) is ∙ sym (nar_either known other path (Some r) is)

  nar_after : (one other : List Registration) (path : List ℕ)
      → record_at one path ≡ record_at other path
      → nar_at (known ++ one) path ≡ nar_at (known ++ other) path
  nar_after one other path same =
      nar_either known one path (record_at known path) refl
      ∙ ap (λ (o : Option Registration). option_and_then nar_of (option_or (record_at known path) o))
      same
      ∙ sym (nar_either known other path (record_at known path) refl)

pub nar_of_output : (one other : List Registration) (job : Job) (infos : List PathInfo)
    (path : List ℕ) → length infos ≡ length job.outputs.items → Contains (outputs_of job) path
    → nar_at (with_outputs one job infos) path ≡ nar_at (with_outputs other job infos) path
nar_of_output one other job infos path count own =
    let is = output_known job infos path count own in
    nar_first job infos one other path is.0 is.1

pub nar_of_other : (one other : List Registration) (job : Job) (infos : List PathInfo)
    (path : List ℕ) → record_at one path ≡ record_at other path
    → nar_at (with_outputs one job infos) path ≡ nar_at (with_outputs other job infos) path
nar_of_other one other job infos path same = nar_after job infos one other path same

pub same_nars : (registrations : List Registration) (job : Job) (infos : List PathInfo)
    (paths : List (List ℕ)) (records : List Registration)
    → length infos ≡ length job.outputs.items
    → AreOuterRecords registrations job paths records → (path : List ℕ) → Contains paths path
    → nar_at (map registration_of (zip (outputs_of job) infos) ++ records) path
    ≡ nar_at (with_outputs registrations job infos) path
same_nars registrations job infos paths records count are path has =
    by (record_at (known job infos) path) refl
  where
    by : (found : Option Registration) → record_at (known job infos) path ≡ found
        → nar_at (known job infos ++ records) path ≡ nar_at (known job infos ++ registrations) path
    by (Some r) e = nar_first job infos records registrations path r e
    by None e =
        let apart : Contains (outputs_of job) path → ⊥ = λ own.
        let there = output_known job infos path count own in none-some there.0 (sym e ∙ there.1) in
        let from = Contains-from_map (λ (r : Registration). r.path) records path
        (are.each path has apart) in
        let index = get_from_contains records from.0 from.1 in
        let here : record_at records path ≡ Some from.0 =
        subst (λ (p : List ℕ). record_at records p ≡ Some from.0) from.2
        (record_of_rising records index.0 from.0 are.rising index.1) in
        let there : record_at registrations path ≡ Some from.0 =
        subst (λ (p : List ℕ). record_at registrations p ≡ Some from.0) from.2
        (All-contains (λ (r : Registration). record_at registrations r.path ≡ Some r) records
        from.0 are.known from.1) in
        nar_after job infos records registrations path (here ∙ sym there)

pub same_sizes : (one other : List Registration) (paths : List (List ℕ))
    → ((path : List ℕ) → Contains paths path → nar_at one path ≡ nar_at other path)
    → size_of_all one paths ≡ size_of_all other paths
same_sizes one other [] same = refl
same_sizes one other (p ∷ paths) same =
    sum_by-cons (λ path. size_of (nar_at one path)) p paths
    ∙ ap (λ nar. size_of nar + size_of_all one paths) (same p (Contains-first p paths))
    ∙ ap (λ size. size_of (nar_at other p) + size)
    (same_sizes one other paths (λ path has. same path (Contains-later p paths path has)))
    ∙ sym (sum_by-cons (λ path. size_of (nar_at other path)) p paths)

-- ---- a limit

-- what is left of a limit, so far
pub left_more : (known : List Registration) (paths : List (List ℕ)) (i limit left rest : ℕ)
    (path : List ℕ) (size : ℕ) → i < length paths → get_or paths i path ≡ path
    → left + size_of_all known (take i paths) ≡ limit → size ≡ size_of (nar_at known path)
    → rest + size ≡ left → rest + size_of_all known (take (i + 1) paths) ≡ limit
left_more known paths i limit left rest path size low at sum is less =
    let more = sum_by_more (λ p. size_of (nar_at known p)) paths i path low in
    let here = ap (λ p. size_of (nar_at known p)) at in
    omega (arith, sum, is, less, more, here)

pub past_now : (known : List Registration) (paths : List (List ℕ)) (i limit left : ℕ)
    (path : List ℕ) (size : ℕ) → i < length paths → get_or paths i path ≡ path
    → left + size_of_all known (take i paths) ≡ limit → size ≡ size_of (nar_at known path)
    → left < size → limit < size_of_all known paths
past_now known paths i limit left path size low at sum is less =
    let most = sum_by_more_le (λ p. size_of (nar_at known p)) paths i path low in
    let here = ap (λ p. size_of (nar_at known p)) at in
    omega (arith, sum, is, less, most, here)
