-- Paths whose archives are asked for and not known.
use Rattle.std.proofs.Common.{◌≡◌, ◌∙◌, ◌↔◌, ℕ, suc, zero, ◌<◌, true, false, List, [], ◌∷◌, ◌++◌, Option, Some, None, is_none, All, Contains, ap, arith, length, refl, slice_get, subst, sym, ⊎_elim}
use Rattle.std.specs.Prelude.{find}
use Rattle.std.proofs.lemmas.Bool.{false≢true}
use Rattle.std.proofs.lemmas.List.Elements.{All-contains, Contains-append_cases, Contains-append_left, Contains-append_right}
use Rattle.nix_names.specs.Rising.{IsRising}
use Rattle.nix_names.proofs.Lists.{Contains-from_get, Contains-from_map, Contains-map, Contains-middle, get_source}
use Rattle.nix_names.proofs.RisingLists.{distinct_from_rising}
use Rattle.valid_table.specs.Entries.{paths_registered}
use Rattle.valid_table.specs.PathInfos.{NarInfo, PathInfo}
use Rattle.valid_table.specs.Valid.{IsValid, Registers}
use Rattle.valid_table.specs.declared.entry.Registration.{Registration}
use Rattle.valid_table.proofs.Following.{one_info}
use Rattle.build_outcome.specs.Verdicts.{outputs_of}
use Rattle.build_outcome.specs.declared.job.Job.{Job}
use Rattle.build_outcome.specs.declared.job.WholeInput.{WholeInput}
use Rattle.build_outcome.proofs.RisingIndices.{first_alike, first_used}
use Rattle.builder_start.specs.Graphs.{IsGraph, IsInGraph, MayBeGraph}
use Rattle.builder_start.specs.Structured.{AreGoodRequests, AreNamable, IsFirstWithoutNar, LacksNar, texts_asked}
use Rattle.builder_start.proofs.Finds.{find_first, find_none}

-- ---- what may be asked for

pub requests_good : (rows : List Registration) (whole : List WholeInput)
    (asked : List (List ℕ × List (List ℕ))) (roots : List (List ℕ)) → roots ≡ texts_asked asked
    → All (IsValid rows) roots → MayBeGraph rows whole roots → AreGoodRequests rows whole asked
requests_good rows whole asked roots same valid may = record {
  valid = subst (All (IsValid rows)) same valid;
  may_be = subst (MayBeGraph rows whole) same may;
}

pub requests_bad : (rows : List Registration) (whole : List WholeInput)
    (asked : List (List ℕ × List (List ℕ))) (roots : List (List ℕ)) → roots ≡ texts_asked asked
    → (MayBeGraph rows whole roots → ⊥) → AreGoodRequests rows whole asked → ⊥
requests_bad rows whole asked roots same bad good =
    bad (subst (MayBeGraph rows whole) (sym same) good.may_be)

-- ---- one record for each path

abbrev record_of : List ℕ → PathInfo → Registration
record_of path info = record { path = path; info = info }

-- records of one path are one
one_row : (rows : List Registration) → IsRising (paths_registered rows) → (a b : Registration)
    → Contains rows a → Contains rows b → a.path ≡ b.path → a ≡ b
one_row rows rising a b has has' same =
    let there : Registers rows b.path a.info =
    subst (λ p. Registers rows p a.info) same has in
    let info : a.info ≡ b.info =
    one_info rows (distinct_from_rising (paths_registered rows) rising) b.path a.info b.info there has'
    in same_row a.path b.path a.info b.info same info
  where
    same_row : (p q : List ℕ) (x y : PathInfo) → p ≡ q → x ≡ y
        → record_of p x ≡ record_of q y
    same_row p q x y first second =
        ap (λ n. record_of n x) first ∙ ap (record_of q) second

-- a record of some has no archive
abbrev Lacks : List Registration → List ℕ → Type 0
Lacks graph path = (r : Registration) × Contains graph r × (r.path ≡ path) × (r.info.nar ≡ None)

none_is : (nar : Option NarInfo) → is_none nar ≡ true → nar ≡ None
none_is None is = refl
none_is (Some nar) is = absurd (false≢true is)

-- a path without an archive is one of the graph's
lacks_from : (rows : List Registration) (whole : List WholeInput) (roots : List (List ℕ)) (graph : List Registration)
    (asked : List (List ℕ × List (List ℕ))) → IsRising (paths_registered rows)
    → roots ≡ texts_asked asked → IsGraph rows whole roots graph → (path : List ℕ)
    → LacksNar rows whole asked path → Contains (paths_registered graph) path × Lacks graph path
lacks_from rows whole roots graph asked rising same is path lacks =
    let row : Registration = lacks.0 in
    let has : Contains (paths_registered graph) path =
    (is.paths.each path).1 (subst (λ rs. IsInGraph rows whole rs path) (sym same) lacks.4) in
    let found = Contains-from_map (λ (r : Registration). r.path) graph path has in
    let one : found.0 ≡ row =
    one_row rows rising found.0 row
    (All-contains (Contains rows) graph found.0 is.known found.1) lacks.1
    (found.2 ∙ sym lacks.2) in (
      has,
      (
        found.0,
        found.1,
        found.2,
        ap (λ (r : Registration). r.info.nar) one ∙ lacks.3,
      ),
    )

-- and the other way round
lacks_to : (rows : List Registration) (whole : List WholeInput) (roots : List (List ℕ)) (graph : List Registration)
    (asked : List (List ℕ × List (List ℕ)))
    → roots ≡ texts_asked asked → IsGraph rows whole roots graph → (path : List ℕ)
    → Contains (paths_registered graph) path × Lacks graph path → LacksNar rows whole asked path
lacks_to rows whole roots graph asked same is path h =
    let lacks = h.1 in (
      lacks.0,
      All-contains (Contains rows) graph lacks.0 is.known lacks.1,
      lacks.2,
      lacks.3,
      subst (λ rs. IsInGraph rows whole rs path) same ((is.paths.each path).0 h.0),
    )

-- where no record of the graph lacks its archive, no path does
pub none_lacks : (rows : List Registration) (whole : List WholeInput) (roots : List (List ℕ)) (graph : List Registration)
    (asked : List (List ℕ × List (List ℕ))) → IsRising (paths_registered rows)
    → roots ≡ texts_asked asked → IsGraph rows whole roots graph
    → find (λ (r : Registration). is_none r.info.nar) graph ≡ None
    → (path : List ℕ) → LacksNar rows whole asked path → ⊥
none_lacks rows whole roots graph asked rising same is none path lacks =
    let l = (lacks_from rows whole roots graph asked rising same is path lacks).1 in
    find_none (λ (r : Registration). is_none r.info.nar) graph none l.0 l.1
    (ap is_none l.3)

-- a record of a graph that is found has a valid path
pub found_valid : (rows : List Registration) (whole : List WholeInput) (roots : List (List ℕ)) (graph : List Registration)
    (row : Registration) → IsGraph rows whole roots graph
    → find (λ (r : Registration). is_none r.info.nar) graph ≡ Some row → IsValid rows row.path
found_valid rows whole roots graph row is found =
    let first = find_first (λ (r : Registration). is_none r.info.nar) graph row found in
    let has : Contains graph row =
    subst (λ rs. Contains rs row) (sym first.parts)
    (Contains-middle first.before first.after row) in
    Contains-map (λ (r : Registration). r.path) rows row
    (All-contains (Contains rows) graph row is.known has)

-- ---- the first path without an archive

get_middle : (before after : List Registration) (x : Registration)
    → slice_get (paths_registered (before ++ x ∷ after)) (length before) ≡ Some x.path
get_middle [] after x = refl
get_middle (y ∷ before) after x = get_middle before after x

front_get : (xs ys : List Registration) (k : ℕ) (x : Registration) → k < length xs
    → slice_get (xs ++ ys) k ≡ Some x → slice_get xs k ≡ Some x
front_get [] ys k x low is = absurd (omega arith)
front_get (y ∷ xs) ys zero x low is = is
front_get (y ∷ xs) ys (suc k) x low is = front_get xs ys k x (omega arith) is

-- the first record of the graph that lacks its archive is of the first such path
pub first_lacks : (rows : List Registration) (job : Job) (roots : List (List ℕ))
    (graph : List Registration)
    (asked : List (List ℕ × List (List ℕ))) (row : Registration) (index : ℕ)
    → IsRising (paths_registered rows) → roots ≡ texts_asked asked → IsGraph rows job.whole_inputs.items roots graph
    → find (λ (r : Registration). is_none r.info.nar) graph ≡ Some row
    → ((paths : List (List ℕ)) × AreNamable rows job paths
    × (slice_get paths index ≡ Some row.path))
    → IsFirstWithoutNar rows job asked index
first_lacks rows job roots graph asked row index rising same is found named =
    let first = find_first (λ (r : Registration). is_none r.info.nar) graph row found in
    let has : Contains graph row =
    subst (λ rs. Contains rs row) (sym first.parts)
    (Contains-middle first.before first.after row) in
    let here : slice_get (paths_registered graph) (length first.before) ≡ Some row.path =
    ap (λ (rs : List Registration). slice_get (paths_registered rs) (length first.before)) first.parts
    ∙ get_middle first.before first.after row in (
      named.0,
      named.1,
      first_alike named.0 (λ p. Contains (paths_registered graph) p × Lacks graph p)
          (LacksNar rows job.whole_inputs.items asked) index
          (λ p. (
            lacks_to rows job.whole_inputs.items roots graph asked same is p,
            lacks_from rows job.whole_inputs.items roots graph asked rising same is p,
          ))
          (first_used named.0 (paths_registered graph) (Lacks graph) (length first.before) index
          row.path named.1.rising is.paths.rising here named.2
          (row, has, refl, none_is row.info.nar first.is)
          (earlier first.before first.after first.parts first.others)),
    )
  where
    earlier : (before after : List Registration) → graph ≡ before ++ row ∷ after
        → All (λ (r : Registration). is_none r.info.nar ≡ false) before
        → (k : ℕ) (other : List ℕ) → k < length before
        → slice_get (paths_registered graph) k ≡ Some other → Lacks graph other → ⊥
    earlier before after parts others k other low at lacks =
        let source = get_source (λ (r : Registration). r.path) graph k other at in
        let front : slice_get before k ≡ Some source.0 =
        front_get before (row ∷ after) k source.0 low
        (subst (λ (rs : List Registration). slice_get rs k ≡ Some source.0) parts source.1) in
        let one : source.0 ≡ lacks.0 =
        one_row graph is.paths.rising source.0 lacks.0
        (Contains-from_get graph k source.0 source.1) lacks.1 (source.2 ∙ sym lacks.2) in
        false≢true
        (sym (All-contains (λ (r : Registration). is_none r.info.nar ≡ false) before source.0 others
        (Contains-from_get before k source.0 front))
        ∙ ap (λ (r : Registration). is_none r.info.nar) one ∙ ap is_none lacks.3)

-- ---- the paths that are named

pub namable_found : (rows : List Registration) (job : Job) (listed paths : List (List ℕ))
    → listed ≡ paths_registered rows ++ outputs_of job → IsRising paths
    → ((path : List ℕ) → Contains paths path ↔ Contains listed path)
    → AreNamable rows job paths
namable_found rows job listed paths is rising same = record {
  rising = rising;
  each = λ path. (
    λ has. Contains-append_cases (paths_registered rows) (outputs_of job) path
        (subst (λ ps. Contains ps path) is ((same path).0 has)),
    λ either.
        (same path).1
        (subst (λ ps. Contains ps path) (sym is)
        (⊎_elim (Contains-append_left (paths_registered rows) (outputs_of job) path)
        (Contains-append_right (paths_registered rows) (outputs_of job) path) either)),
  );
}
