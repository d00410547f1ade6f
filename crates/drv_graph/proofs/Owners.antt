-- The owners of output paths, as those of one more derivation are entered.
use Rattle.std.proofs.Common.{◌≡◌, ◌∙◌, ℕ, ◌+◌, ◌<◌, ◌≤◌, Bool, true, false, List, [], ◌∷◌, ◌++◌, length, take, get_or, refl, sym, ap, subst, inl, inr, ⊎_elim, arith, nat_eq, not, eq-eqb, eqb-true, Option, Some, None, Err, rules}
use Rattle.std.specs.Prelude.{◌⊎◌, All, Contains, IfSome, slice_get, unwrap_or}
use Rattle.std.specs.Option.{option_eq}
use Rattle.std.proofs.lemmas.Bool.{false≢true}
use Rattle.std.proofs.lemmas.List.{length-map, take_more}
use Rattle.std.proofs.lemmas.List.Elements.{All-contains, Contains-append_left, Contains-push}
use Rattle.std.proofs.lemmas.Option.{none-some, same_Some, slice_get_read, slice_get_within}
use Rattle.drv_graph.specs.Loading.{AreDistinct}
use Rattle.drv_graph.specs.Nodes.{Node, output_paths_of}
use Rattle.drv_graph.specs.private.Owners.{AreEntered, AreOwnedBy, AreOwners, HasAsMany, IsClash, IsEntering, IsOwning, first_owner, outputs_of}
use Rattle.drv_graph.specs.PlanNodes.{AreKept, IsPlanNode, node_of, nodes_of}
use Rattle.drv_graph.specs.Plans.{HaveSamePaths}
use Rattle.drv_graph.specs.private.Walks.{SetsEntry}
use Rattle.drv_graph.specs.declared.fault.GraphFault.{GraphFault}
use Rattle.drv_graph.specs.declared.fault.GraphFault.TheVariants.{At}
use Rattle.drv_graph.specs.declared.fault.NodeFault.TheVariants.{OutputClash}
use Rattle.drv_graph.specs.declared.plans.node.PlanNode.{PlanNode}
use Rattle.drv_graph.proofs.PathLists.{all_among, as_long, known_cases, not_before, path_cases}
use Rattle.nix_names.proofs.Lists.{Contains-first, Contains-from_get, Contains-map, Contains-nothing, Contains-push_cases, either_side, get_grows, get_mapped, get_push_cases, get_pushed, get_source, same_element}

abbrev pub Lists : Type 0
Lists = List (List (List ℕ))

-- ---- what owners are

-- nothing is owned
pub owners_none : (owners : List ℕ → Option ℕ) → ((path : List ℕ) → owners path ≡ None)
    → AreOwners owners []
owners_none owners none = record {
  has = λ path n e. absurd (none-some n (sym (none path) ∙ e));
  of_each = λ n outputs at. absurd (none-some outputs at);
}

-- two derivations share no output path, or have the same
pub apart_or_same : (owners : List ℕ → Option ℕ) (left : Lists) (i j : ℕ) (a b : List (List ℕ))
    → AreOwners owners left → slice_get left i ≡ Some a → slice_get left j ≡ Some b
    → ((path : List ℕ) → Contains a path → Contains b path → ⊥) ⊎ HaveSamePaths a b
apart_or_same owners left i j a b right at at' =
    let mine = right.of_each i a at in
    let other = right.of_each j b at' in
    let one : (path : List ℕ) → Contains a path → Contains b path → mine.0 ≡ other.0 =
    λ path is is'.
    same_Some mine.0 other.0 (sym ((mine.2 path).0 is) ∙ (other.2 path).0 is') in
    ⊎_elim
    (λ same. inr (λ path. (
      λ is. (other.2 path).1 ((mine.2 path).0 is ∙ ap Some same),
      λ is. (mine.2 path).1 ((other.2 path).0 is ∙ ap Some (sym same)),
    )))
    (λ differs. inl (λ path is is'. ⊎_elim (λ lt. omega (arith, lt, one path is is'))
    (λ gt. omega (arith, gt, one path is is')) differs))
    (either_side _ _)

-- ---- one more derivation

-- none of its outputs had an owner
pub owners_new : (owners after : List ℕ → Option ℕ) (left : Lists) (own : List (List ℕ))
    → AreOwners owners left → ((path : List ℕ) → Contains own path → owners path ≡ None)
    → AreEntered owners after own (length left)
    → AreOwners after (left ++ own ∷ []) × AreOwnedBy after (length left) own
owners_new owners after left own right free entered =
    (record { has = has; of_each = of_each }, mine_alone)
  where
    its_own : (path : List ℕ) (n : ℕ) → Contains own path → after path ≡ Some n → length left ≡ n
    its_own path n mine e = search (rules, same_Some)

    as_before : (path : List ℕ) (n : ℕ) → (Contains own path → ⊥) → after path ≡ Some n
        → owners path ≡ Some n
    as_before path n other e = search rules

    has : (path : List ℕ) (n : ℕ) → after path ≡ Some n → (outputs : List (List ℕ))
        × (slice_get (left ++ own ∷ []) n ≡ Some outputs) × Contains outputs path
    has path n e =
        ⊎_elim
        (λ mine. (
          own,
          ap (λ k. slice_get (left ++ own ∷ []) k) (sym (its_own path n mine e))
              ∙ get_pushed left _,
          mine,
        ))
        (λ other.
        let old = right.has path n (as_before path n other e)
        in (old.0, get_grows _ _ n _ old.1, old.2))
        (known_cases _ _)

    mine_alone : AreOwnedBy after (length left) own
    mine_alone path = (
      entered.here path,
      λ e. ⊎_elim (λ is. is)
          (λ other.
          let old = right.has path (length left) (as_before path (length left) other e) in
          let low = slice_get_within left (length left) old.0 old.1 in absurd (omega (arith, low)))
          (known_cases _ _),
    )

    before : (n : ℕ) (outputs : List (List ℕ)) → slice_get left n ≡ Some outputs → (number : ℕ)
        × (number ≤ n) × AreOwnedBy after number outputs
    before n outputs old =
        search (rules, slice_get_within, none-some, its_own, as_before, known_cases)

    of_each : (n : ℕ) (outputs : List (List ℕ)) → slice_get (left ++ own ∷ []) n ≡ Some outputs
        → (number : ℕ) × (number ≤ n) × AreOwnedBy after number outputs
    of_each n outputs at =
        ⊎_elim (λ old. before n outputs old)
        (λ last. (
          length left,
          omega (arith, last.0),
          subst (AreOwnedBy after (length left)) last.1 mine_alone,
        ))
        (get_push_cases _ _ n _ at)

-- they have all the owner that an earlier derivation with as many has
pub owners_twin : (owners after : List ℕ → Option ℕ) (left : Lists) (own theirs : List (List ℕ))
    (m : ℕ) → AreOwners owners left → slice_get left m ≡ Some theirs → AreDistinct own
    → length theirs ≡ length own
    → ((path : List ℕ) → Contains own path → owners path ≡ Some m)
    → AreEntered owners after own m
    → AreOwners after (left ++ own ∷ []) × AreOwnedBy after m own
owners_twin owners after left own theirs m right at once long of_them entered =
    (record { has = has; of_each = of_each }, as_theirs)
  where
    same : (path : List ℕ) → after path ≡ owners path
    same path = ⊎_elim (λ mine. entered.here path mine ∙ sym (of_them path mine))
        (λ other. entered.others path other) (known_cases _ _)

    among : (path : List ℕ) → owners path ≡ Some m → Contains theirs path
    among path e = search (rules, same_element)

    has : (path : List ℕ) (n : ℕ) → after path ≡ Some n → (outputs : List (List ℕ))
        × (slice_get (left ++ own ∷ []) n ≡ Some outputs) × Contains outputs path
    has path n e = search (rules, same, get_grows)

    as_theirs : AreOwnedBy after m own
    as_theirs path = (
      entered.here path,
      λ e. all_among _ _ once (λ q is. among q (of_them q is)) (omega (arith, long)) _
          (among path (sym (same path) ∙ e)),
    )

    of_each : (n : ℕ) (outputs : List (List ℕ)) → slice_get (left ++ own ∷ []) n ≡ Some outputs
        → (number : ℕ) × (number ≤ n) × AreOwnedBy after number outputs
    of_each n outputs at' =
        ⊎_elim
        (λ old.
        let its = right.of_each n outputs old in (
          its.0,
          its.1,
          λ path. (
            λ is. same path ∙ (its.2 path).0 is,
            λ e. (its.2 path).1 (sym (same path) ∙ e),
          ),
        ))
        (λ last.
        let low = slice_get_within left m theirs at in (
          m,
          omega (arith, last.0, low),
          subst (AreOwnedBy after m) last.1 as_theirs,
        ))
        (get_push_cases _ _ n _ at')

-- ---- how paths are entered

-- an item that was read and copied
pub contains_item : (xs : List (List ℕ)) (i : ℕ) (x y : List ℕ) → i < length xs → x ≡ get_or xs i x
    → y ≡ x → Contains xs y
contains_item xs i x y lt is same = search (rules, same)

-- what a comparison of two owners said
pub same_owner : (a b : Option ℕ) (differs : Bool) → differs ≡ not (option_eq nat_eq a b) → differs
    ≡ false → a ≡ b
same_owner None None differs is failed = refl
same_owner None (Some y) differs is failed = absurd (false≢true (sym failed ∙ is))
same_owner (Some x) None differs is failed = absurd (false≢true (sym failed ∙ is))
same_owner (Some x) (Some y) differs is failed =
    ap Some (eqb-true x y (by (nat_eq x y) (sym failed ∙ is)))
  where
    by : (t : Bool) → false ≡ not t → t ≡ true
    by true e = refl
    by false e = absurd (false≢true e)

pub other_owner : (a b : Option ℕ) (differs : Bool) → differs ≡ not (option_eq nat_eq a b) → differs
    ≡ true → a ≡ b → ⊥
other_owner a b differs is passed same =
    false≢true (sym (ap (λ o. not (option_eq nat_eq a o)) (sym same) ∙ itself a) ∙ sym is ∙ passed)
  where
    itself : (o : Option ℕ) → not (option_eq nat_eq o o) ≡ false
    itself None = refl
    itself (Some x) = ap not (eq-eqb x x refl)

-- one path more
entered_more : (before now after : List ℕ → Option ℕ) (paths : List (List ℕ)) (path : List ℕ)
    (number : ℕ) → AreEntered before now paths number → SetsEntry now after path number
    → AreEntered before after (paths ++ path ∷ []) number
entered_more before now after paths path number entered sets = record {
  here = λ other has. ⊎_elim (λ same. ap after same ∙ sets.here)
      (λ differs.
      sets.others other differs
      ∙ ⊎_elim (λ old. entered.here other old) (λ same. absurd (differs (sym same)))
      (Contains-push_cases _ _ _ has))
      (path_cases _ _);
  others = λ other none.
      sets.others other
      (λ same. none (subst (Contains (paths ++ path ∷ [])) (sym same) (Contains-push _ _)))
      ∙ entered.others other (λ old. none (Contains-append_left _ _ _ old));
}

-- a path that is read was not entered, so it has the owner that it had
unchanged : (before now : List ℕ → Option ℕ) (paths : List (List ℕ)) (i : ℕ) (path : List ℕ)
    (number : ℕ) → AreDistinct paths → i < length paths → path ≡ get_or paths i path
    → AreEntered before now (take i paths) number → now path ≡ before path
unchanged before now paths i path number once lt is entered =
    search (rules, not_before, slice_get_read)

-- one path more had the owner that it has to have
pub enter_step :
    (before now after : List ℕ → Option ℕ) (paths : List (List ℕ)) (i : ℕ) (path key : List ℕ)
    (owner old : Option ℕ) (number : ℕ) →
    i < length paths →
    path ≡ get_or paths i path →
    key ≡ path →
    AreDistinct paths →
    ((other : List ℕ) → Contains (take i paths) other → before other ≡ owner) →
    AreEntered before now (take i paths) number →
    old ≡ now key →
    old ≡ owner →
    SetsEntry now after key number →
    ((other : List ℕ) → Contains (take (i + 1) paths) other → before other ≡ owner)
    × AreEntered before after (take (i + 1) paths) number
enter_step before now after paths i path key owner old number lt is copied once were entered found
    same sets =
    let taken : take i paths ++ path ∷ [] ≡ take (i + 1) paths =
    ap (λ p. take i paths ++ p ∷ []) is ∙ sym (take_more _ i _ lt) in
    let here : before path ≡ owner = sym (unchanged before now _ i _ _ once lt is
    entered)
    ∙ ap now (sym copied) ∙ sym found ∙ same in (
      λ other has. ⊎_elim (λ earlier. were other earlier) (λ last. ap before (sym last) ∙ here)
          (Contains-push_cases _ _ _
          (subst (λ l. Contains l other) (sym taken) has)),
      subst (λ l. AreEntered before after l number) taken
          (entered_more before now after _ _ _ entered
          (subst (λ p. SetsEntry now after p number) copied sets)),
    )

-- one path had another
pub enter_stops :
    (before now after : List ℕ → Option ℕ) (paths : List (List ℕ)) (i : ℕ) (path key : List ℕ)
    (owner old : Option ℕ) (number : ℕ) →
    i < length paths →
    path ≡ get_or paths i path →
    key ≡ path →
    AreDistinct paths →
    AreEntered before now (take i paths) number →
    old ≡ now key →
    (old ≡ owner → ⊥) →
    IsEntering before after owner paths number false
enter_stops before now after paths i path key owner old number lt is copied once entered found
    differs = search (rules, contains_item, unchanged, before)

-- ---- the outputs of the next derivation

-- the owner of its first output was left
pub owner_within : (kept : List PlanNode) (owners : List ℕ → Option ℕ) (own : List (List ℕ))
    (owner : Option ℕ) → AreOwners owners (outputs_of kept) → owner ≡ first_owner owners own
    → IfSome owner (λ n. n < length kept)
owner_within kept owners own None right is = tt
owner_within kept owners [] (Some n) right is = absurd (none-some n (sym is))
owner_within kept owners (path ∷ paths) (Some n) right is =
    search (rules, slice_get_within, length-map)

-- whether a derivation that is read has so many
pub as_many : (kept : List PlanNode) (number : Option ℕ) (n : ℕ) (node : PlanNode) (count len : ℕ)
    → IfSome number (λ m. m < length kept) → number ≡ Some n → node ≡ get_or kept n node
    → len ≡ (get_or kept n node).outputs.len → HasAsMany kept number count (nat_eq len count)
as_many kept number n node count len within is read told =
    let low : n < length kept = subst (λ o. IfSome o (λ m. m < length kept)) is within in
    let same : len ≡ node.outputs.len = told ∙ ap (λ (k : PlanNode). k.outputs.len) (sym read) in
    let long : len ≡ length node.outputs.items = omega (arith, same, node.outputs.ok.0) in
    subst (λ o. HasAsMany kept o count (nat_eq len count)) (sym is) (
      node,
      slice_get_read _ _ n _ refl low read,
      (
        λ yes. sym long ∙ eqb-true len count yes,
        λ same. eq-eqb len count (long ∙ same),
      ),
    )

-- a derivation has one of its outputs, and not another, which has another owner
clash_of : (kept : List PlanNode) (owners : List ℕ → Option ℕ) (own : List (List ℕ)) (n : ℕ)
    (path other : List ℕ) → AreOwners owners (outputs_of kept) → owners path ≡ Some n
    → Contains own path → Contains own other → (owners other ≡ owners path → ⊥) → IsClash kept own
clash_of kept owners own n path other right e is_own is_other differs =
    let found = right.has path n e in
    let source = get_source (λ (k : PlanNode). output_paths_of k.drv) _ n _ found.1 in
    let its = right.of_each n found.0 found.1 in
    record {
      node = source.0;
      is_node = Contains-from_get _ n _ source.1;
      output = path;
      is_output = subst (λ l. Contains l path) (sym source.2) found.2;
      is_own = is_own;
      no_twin = λ same.
          let there : Contains found.0 other = subst (λ l. Contains l other) source.2
          ((same other).1 is_other) in
          differs ((its.2 other).0 there ∙ sym ((its.2 path).0 found.2));
    }

-- so has the owner of the first, or of one where the first has none
pub clash_found : (kept : List PlanNode) (owners : List ℕ → Option ℕ) (own : List (List ℕ))
    (path : List ℕ) → AreOwners owners (outputs_of kept) → Contains own path
    → (owners path ≡ first_owner owners own → ⊥) → IsClash kept own
clash_found kept owners [] path right has differs = absurd (Contains-nothing _ has)
clash_found kept owners (first ∷ rest) path right has differs =
    by (owners first) (owners path) refl refl
  where
    by : (a b : Option ℕ) → owners first ≡ a → owners path ≡ b → IsClash kept (first ∷ rest)
    by (Some m) b e e' = search (rules, clash_of, Contains-first, has)
    by None (Some k) e e' = clash_of _ owners _ k _ _ right e' has
        (Contains-first _ _) (λ same. differs (sym same))
    by None None e e' = absurd (differs (e' ∙ sym e))

-- the owner of the first has more outputs, or fewer
pub clash_long : (kept : List PlanNode) (owners : List ℕ → Option ℕ) (own : List (List ℕ)) (n : ℕ)
    (node : PlanNode) → AreKept kept
    → All (λ (m : Node). AreDistinct (output_paths_of m.drv)) (nodes_of kept)
    → AreOwners owners (outputs_of kept) → AreDistinct own → first_owner owners own ≡ Some n
    → slice_get kept n ≡ Some node → (length node.outputs.items ≡ length own → ⊥)
    → IsClash kept own
clash_long kept owners [] n node are all right once e at differs = absurd (none-some n e)
clash_long kept owners (first ∷ rest) n node are all right once e at differs =
    let its = output_paths_of node.drv in
    let found = right.has first n e in
    let same_list : found.0 ≡ its = same_element _ n _ _ found.1
    (get_mapped (λ (k : PlanNode). output_paths_of k.drv) _ n _ at) in
    let among : Contains kept node = Contains-from_get _ n _ at in
    let is_kept : IsPlanNode (nodes_of kept) node =
    All-contains (IsPlanNode (nodes_of kept)) _ _ are
    among in
    let distinct : AreDistinct its =
    All-contains (λ (m : Node). AreDistinct (output_paths_of m.drv)) _ _
    all (Contains-map node_of _ _ among) in
    record {
      node = node;
      is_node = among;
      output = first;
      is_output = subst (λ l. Contains l first) same_list found.2;
      is_own = Contains-first _ rest;
      no_twin = λ same. differs
          (ap length is_kept.outputs ∙ as_long _ _ distinct once same);
    }

-- the derivation with the owner's number has more outputs, or fewer
pub clash_many : (kept : List PlanNode) (owners : List ℕ → Option ℕ) (own : List (List ℕ))
    (owner : Option ℕ) (answer : Bool) → AreKept kept
    → All (λ (m : Node). AreDistinct (output_paths_of m.drv)) (nodes_of kept)
    → AreOwners owners (outputs_of kept) → AreDistinct own → owner ≡ first_owner owners own
    → HasAsMany kept owner (length own) answer → answer ≡ false → IsClash kept own
clash_many kept owners own None answer are all right once is many failed =
    absurd (false≢true (sym failed ∙ many))
clash_many kept owners own (Some n) answer are all right once is many failed =
    search (rules, clash_long, false≢true)

-- one had another owner
pub clash_entered : (kept : List PlanNode) (owners after : List ℕ → Option ℕ) (own : List (List ℕ))
    (owner : Option ℕ) (number : ℕ) (answer : Bool) → AreOwners owners (outputs_of kept)
    → owner ≡ first_owner owners own → IsEntering owners after owner own number answer
    → answer ≡ false → IsClash kept own
clash_entered kept owners after own owner number answer right is entering failed =
    let one : IsEntering owners after owner own number false =
    subst (IsEntering owners after owner own number) failed entering in
    clash_found _ owners _ _ right one.1 (λ same. one.2 (same ∙ sym is))

-- all had the owner of the first, which has as many
pub owning_all :
    (kept : List PlanNode) (owners after : List ℕ → Option ℕ) (own : List (List ℕ))
    (owner : Option ℕ) (first : ℕ) (many entered : Bool) →
    AreKept kept →
    AreOwners owners (outputs_of kept) →
    AreDistinct own →
    HasAsMany kept owner (length own) many →
    many ≡ true →
    first ≡ unwrap_or owner (length kept) →
    IsEntering owners after owner own first entered →
    entered ≡ true →
    AreOwners after (outputs_of kept ++ own ∷ []) × AreOwnedBy after first own
owning_all kept owners after own None first many entered are right once many_are is next entering
    all = search (rules, length-map, owners_new)
owning_all kept owners after own (Some m) first many entered are right once many_are is earlier
    entering all =
    let both : IsEntering owners after (Some m) own first true =
    subst (IsEntering owners after (Some m) own first) all entering in
    let entered_right = subst (AreEntered owners after own) earlier both.1 in
    let node = many_are.0 in
    let is_kept : IsPlanNode (nodes_of kept) node =
    All-contains (IsPlanNode (nodes_of kept)) _ _ are
    (Contains-from_get _ m _ many_are.1) in
    let made = owners_twin owners after _ _ _ m right
    (get_mapped (λ (k : PlanNode). output_paths_of k.drv) _ m _ many_are.1) once
    (ap length (sym is_kept.outputs) ∙ many_are.2.0 is) both.0 entered_right in
    (made.0, subst (λ n. AreOwnedBy after n own) (sym earlier) made.1)

-- the fault of a clash
pub owning_clash : (kept : List PlanNode) (path : List ℕ) (own : List (List ℕ))
    (owners : List ℕ → Option ℕ) (fault : GraphFault)
    → fault ≡ At path OutputClash → IsClash kept own → IsOwning kept path own owners (Err fault)
owning_clash kept path own owners fault is clash = inr (is, clash)
