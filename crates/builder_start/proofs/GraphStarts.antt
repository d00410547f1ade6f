-- The graphs of paths, and where their closures start.
use Rattle.std.proofs.Common.{◌≡◌, ◌∙◌, ◌↔◌, ◌⊎◌, ℕ, ◌+◌, ◌<◌, ◌≤◌, true, false, List, [], ◌∷◌, ◌++◌, All, Contains, IsTrue, ap, get_or, inl, inr, length, map, refl, subst, sym, take, ⊎_elim}
use Rattle.std.proofs.lemmas.Bool.{false≢true}
use Rattle.std.proofs.lemmas.List.{take_all}
use Rattle.std.proofs.lemmas.List.Elements.{All-contains, All-push, Contains-append_cases, Contains-append_left, Contains-append_right}
use Rattle.nix_names.specs.StorePaths.{IsDrvPath}
use Rattle.nix_names.proofs.Lists.{All-from_contains, Contains-cons_cases, Contains-middle, Contains-nothing, taken_more}
use Rattle.valid_table.specs.Closure.{IsClosure}
use Rattle.valid_table.specs.Entries.{paths_registered}
use Rattle.valid_table.specs.Valid.{IsValid}
use Rattle.valid_table.specs.declared.entry.Registration.{Registration}
use Rattle.build_outcome.specs.declared.job.WholeInput.{WholeInput}
use Rattle.builder_start.specs.Graphs.{AreClosureRecords, AreGraphPaths, IsGraph, IsInGraph, IsOutputReached, IsReached, MayBeGraph}
use Rattle.builder_start.specs.private.Starts.{AreStarts, IsOutputAmong}

-- ---- more paths

reached_more : (rows : List Registration) (roots more : List (List ℕ))
    → ((path : List ℕ) → Contains roots path → Contains more path) → (path : List ℕ)
    → IsReached rows roots path → IsReached rows more path
reached_more rows roots more f path is = (is.0, f is.0 is.1, is.2)

output_more : (rows : List Registration) (whole : List WholeInput) (roots more : List (List ℕ))
    → ((path : List ℕ) → Contains roots path → Contains more path) → (path : List ℕ)
    → IsOutputReached rows whole roots path → IsOutputReached rows whole more path
output_more rows whole roots more f path is =
    (is.0, is.1, reached_more rows roots more f is.0.drv is.2, is.3)

-- what is in the graph of some paths is in that of more
pub in_more : (rows : List Registration) (whole : List WholeInput) (roots more : List (List ℕ))
    → ((path : List ℕ) → Contains roots path → Contains more path) → (path : List ℕ)
    → IsInGraph rows whole roots path → IsInGraph rows whole more path
in_more rows whole roots more f path is = (
  is.0,
  ⊎_elim (λ root. inl (f is.0 root)) (λ output. inr (output_more rows whole roots more f is.0 output))
      is.1,
  is.2,
)

-- where the graph of more paths may be asked for, that of some may be
pub may_be_fewer : (rows : List Registration) (whole : List WholeInput)
    (roots more : List (List ℕ)) → ((path : List ℕ) → Contains roots path → Contains more path)
    → MayBeGraph rows whole more → MayBeGraph rows whole roots
may_be_fewer rows whole roots more f may = record {
  drvs = λ path is. may.drvs path (reached_more rows roots more f path is);
  outputs = λ path is. may.outputs path (output_more rows whole roots more f path is);
}

-- ---- the graph of some paths

-- the closure of where it starts is the graph
graph_paths : (rows : List Registration) (whole : List WholeInput)
    (roots starts paths : List (List ℕ)) → AreStarts rows whole roots starts
    → IsClosure rows starts paths → AreGraphPaths rows whole roots paths
graph_paths rows whole roots starts paths are is = record {
  rising = is.rising;
  each = λ path. (
    λ has.
        let from = (is.each path).0 has in
        (from.0, (are from.0).0 from.1, from.2),
    λ in_graph. (is.each path).1 (in_graph.0, (are in_graph.0).1 in_graph.1, in_graph.2),
  );
}

-- with the records of that
pub graph_is : (rows : List Registration) (whole : List WholeInput)
    (roots starts : List (List ℕ)) (records : List Registration)
    → AreStarts rows whole roots starts → AreClosureRecords rows starts records
    → IsGraph rows whole roots records
graph_is rows whole roots starts records are is = record {
  paths = graph_paths rows whole roots starts (paths_registered records) are is.closure;
  known = is.known;
}

-- an output is reached where its derivation's file is among what is reached
output_told : (rows : List Registration) (whole : List WholeInput) (roots reached : List (List ℕ))
    → IsClosure rows roots reached → (path : List ℕ)
    → IsOutputAmong reached whole path ↔ IsOutputReached rows whole roots path
output_told rows whole roots reached is path = (
  λ among. (among.0, among.1, (is.each among.0.drv).0 among.2, among.3),
  λ output. (output.0, output.1, (is.each output.0.drv).1 output.2, output.3),
)

pub starts_are : (rows : List Registration) (whole : List WholeInput)
    (roots reached outputs : List (List ℕ)) → IsClosure rows roots reached
    → ((path : List ℕ) → Contains outputs path ↔ IsOutputAmong reached whole path)
    → AreStarts rows whole roots (outputs ++ roots)
starts_are rows whole roots reached outputs is are path = (
  λ has.
      ⊎_elim
      (λ output. inr ((output_told rows whole roots reached is path).0 ((are path).0 output)))
      (λ root. inl root)
      (Contains-append_cases outputs roots path has),
  λ either.
      ⊎_elim (Contains-append_right outputs roots path)
      (λ output.
      Contains-append_left outputs roots path
      ((are path).1 ((output_told rows whole roots reached is path).1 output)))
      either,
)

-- ---- whether it may be asked for

-- each derivation's file that is reached is one of some
abbrev pub AreFilesAmong : (paths files : List (List ℕ)) → Type 0
AreFilesAmong paths files = (path : List ℕ) → Contains paths path → IsDrvPath path
    → Contains files path

pub files_told : (rows : List Registration) (whole : List WholeInput)
    (roots reached files : List (List ℕ)) → IsClosure rows roots reached
    → ((path : List ℕ) → Contains files path
    ↔ Contains (map (λ (input : WholeInput). input.drv) whole) path)
    → MayBeGraph rows whole roots → AreFilesAmong reached files
files_told rows whole roots reached files is same may path has drv =
    (same path).1 (may.drvs path ((is.each path).0 has) drv)

pub outputs_told : (rows : List Registration) (whole : List WholeInput)
    (roots reached outputs : List (List ℕ)) → IsClosure rows roots reached
    → ((path : List ℕ) → Contains outputs path ↔ IsOutputAmong reached whole path)
    → MayBeGraph rows whole roots → All (IsValid rows) outputs
outputs_told rows whole roots reached outputs is are may =
    All-from_contains (IsValid rows) outputs
    (λ path has.
    may.outputs path ((output_told rows whole roots reached is path).0 ((are path).0 has)))

pub may_be : (rows : List Registration) (whole : List WholeInput)
    (roots reached files outputs : List (List ℕ)) → IsClosure rows roots reached
    → ((path : List ℕ) → Contains files path
    ↔ Contains (map (λ (input : WholeInput). input.drv) whole) path)
    → AreFilesAmong reached files
    → ((path : List ℕ) → Contains outputs path ↔ IsOutputAmong reached whole path)
    → All (IsValid rows) outputs → MayBeGraph rows whole roots
may_be rows whole roots reached files outputs is same among are valid = record {
  drvs = λ path reaches drv. (same path).0 (among path ((is.each path).1 reaches) drv);
  outputs = λ path output.
      All-contains (IsValid rows) outputs path valid
      ((are path).1 ((output_told rows whole roots reached is path).1 output));
}

-- ---- paths, one after the other

-- a path of the first ones and one more
pub taken_cases : (paths : List (List ℕ)) (i : ℕ) (path : List ℕ) → i < length paths
    → path ≡ get_or paths i path → (other : List ℕ) → Contains (take (i + 1) paths) other
    → Contains (take i paths) other ⊎ (other ≡ path)
taken_cases paths i path within at other has =
    ⊎_elim (λ before. inl before)
    (λ last.
    ⊎_elim (λ same. inr (sym same)) (λ none. absurd (Contains-nothing other none))
    (Contains-cons_cases path [] other last))
    (Contains-append_cases (take i paths) (path ∷ []) other
    (subst (λ ps. Contains ps other) (taken_more paths i path within at) has))

-- one path more is no derivation's file, or is one of the files
pub files_more : (paths files : List (List ℕ)) (i : ℕ) (path : List ℕ) → i < length paths
    → path ≡ get_or paths i path → AreFilesAmong (take i paths) files
    → (IsDrvPath path → Contains files path) → AreFilesAmong (take (i + 1) paths) files
files_more paths files i path within at before here other has drv =
    ⊎_elim (λ earlier. before other earlier drv)
    (λ same. subst (Contains files) (sym same) (here (subst IsDrvPath same drv)))
    (taken_cases paths i path within at other has)

pub files_all : (paths files : List (List ℕ)) (i : ℕ) → length paths ≤ i
    → AreFilesAmong (take i paths) files → IsTrue true ↔ AreFilesAmong paths files
files_all paths files i end among = (
  λ _. subst (λ ps. AreFilesAmong ps files) (take_all i paths end) among,
  λ _. refl,
)

-- ---- whether paths have records

pub valid_more : (rows : List Registration) (paths : List (List ℕ)) (i : ℕ) (path : List ℕ)
    → i < length paths → path ≡ get_or paths i path → All (IsValid rows) (take i paths)
    → IsValid rows path → All (IsValid rows) (take (i + 1) paths)
valid_more rows paths i path within at before here =
    subst (All (IsValid rows)) (sym (taken_more paths i path within at))
    (All-push (IsValid rows) (take i paths) path before here)

pub valid_all : (rows : List Registration) (paths : List (List ℕ)) (i : ℕ) → length paths ≤ i
    → All (IsValid rows) (take i paths) → IsTrue true ↔ All (IsValid rows) paths
valid_all rows paths i end valid = (
  λ _. subst (All (IsValid rows)) (take_all i paths end) valid,
  λ _. refl,
)

pub valid_not : (rows : List Registration) (paths : List (List ℕ)) (i : ℕ) (path : List ℕ)
    → i < length paths → path ≡ get_or paths i path → (IsValid rows path → ⊥)
    → IsTrue false ↔ All (IsValid rows) paths
valid_not rows paths i path within at not = (
  λ never. absurd (false≢true never),
  λ all. absurd (not (subst (IsValid rows) (sym at) (all i path within))),
)

-- ---- whole inputs, one after the other

-- the files of all inputs, in another order
pub files_same : (whole : List WholeInput) (i : ℕ) (files sorted : List (List ℕ))
    → length whole ≤ i → files ≡ map (λ (input : WholeInput). input.drv) (take i whole)
    → ((path : List ℕ) → Contains sorted path ↔ Contains files path) → (path : List ℕ)
    → Contains sorted path ↔ Contains (map (λ (input : WholeInput). input.drv) whole) path
files_same whole i files sorted end is same path =
    subst (λ fs. Contains sorted path ↔ Contains fs path)
    (is ∙ ap (map (λ (input : WholeInput). input.drv)) (take_all i whole end)) (same path)

-- the outputs of the first inputs whose files are among some paths
abbrev pub AreFirstOutputs : (paths : List (List ℕ)) → List WholeInput → (i : ℕ)
    → (outputs : List (List ℕ)) → Type 0
AreFirstOutputs paths whole i outputs = (path : List ℕ) → Contains outputs path
    ↔ IsOutputAmong paths (take i whole) path

pub no_outputs : (paths : List (List ℕ)) (whole : List WholeInput)
    → AreFirstOutputs paths whole 0 []
no_outputs paths whole path = (
  λ none. absurd (Contains-nothing path none),
  λ some. absurd (Contains-nothing some.0 some.1),
)

module _ (paths : List (List ℕ)) (whole : List WholeInput) (i : ℕ) (input : WholeInput)
    (within : i < length whole) (at : input ≡ get_or whole i input) where
  earlier_among : (path : List ℕ) → IsOutputAmong paths (take i whole) path
      → IsOutputAmong paths (take (i + 1) whole) path
  earlier_among path some = (
    some.0,
    subst (λ is. Contains is some.0) (sym (taken_more whole i input within at))
        (Contains-append_left (take i whole) (input ∷ []) some.0 some.1),
    some.2,
    some.3,
  )

  last_among : (path : List ℕ) → Contains paths input.drv → Contains input.outputs.items path
      → IsOutputAmong paths (take (i + 1) whole) path
  last_among path has output = (
    input,
    subst (λ is. Contains is input) (sym (taken_more whole i input within at))
        (Contains-middle (take i whole) [] input),
    has,
    output,
  )

  among_cases : (path : List ℕ) → IsOutputAmong paths (take (i + 1) whole) path
      → IsOutputAmong paths (take i whole) path
      ⊎ (Contains paths input.drv × Contains input.outputs.items path)
  among_cases path some =
      ⊎_elim (λ before. inl (some.0, before, some.2, some.3))
      (λ last.
      ⊎_elim
      (λ same. inr (
        subst (λ (w : WholeInput). Contains paths w.drv) (sym same) some.2,
        subst (λ (w : WholeInput). Contains w.outputs.items path) (sym same) some.3,
      ))
      (λ none. absurd (Contains-nothing some.0 none))
      (Contains-cons_cases input [] some.0 last))
      (Contains-append_cases (take i whole) (input ∷ []) some.0
      (subst (λ is. Contains is some.0) (taken_more whole i input within at) some.1))

  -- the file of one input more is among the paths
  pub outputs_more : (outputs added : List (List ℕ)) → AreFirstOutputs paths whole i outputs
      → Contains paths input.drv → added ≡ input.outputs.items
      → AreFirstOutputs paths whole (i + 1) (outputs ++ added)
  outputs_more outputs added before has is path = (
    λ some.
        ⊎_elim (λ old. earlier_among path ((before path).0 old))
        (λ new. last_among path has (subst (λ ps. Contains ps path) is new))
        (Contains-append_cases outputs added path some),
    λ among.
        ⊎_elim (λ old. Contains-append_left outputs added path ((before path).1 old))
        (λ new.
        Contains-append_right outputs added path (subst (λ ps. Contains ps path) (sym is) new.1))
        (among_cases path among),
  )

  -- it is not
  pub outputs_still : (outputs : List (List ℕ)) → AreFirstOutputs paths whole i outputs
      → (Contains paths input.drv → ⊥) → AreFirstOutputs paths whole (i + 1) outputs
  outputs_still outputs before not path = (
    λ some. earlier_among path ((before path).0 some),
    λ among.
        ⊎_elim (λ old. (before path).1 old) (λ new. absurd (not new.0)) (among_cases path among),
  )

pub outputs_all : (paths : List (List ℕ)) (whole : List WholeInput) (i : ℕ)
    (outputs : List (List ℕ)) → length whole ≤ i → AreFirstOutputs paths whole i outputs
    → (path : List ℕ) → Contains outputs path ↔ IsOutputAmong paths whole path
outputs_all paths whole i outputs end are =
    subst (λ (ws : List WholeInput). (path : List ℕ) → Contains outputs path
    ↔ IsOutputAmong paths ws path) (take_all i whole end) are
