-- The entry of a derivation that was built, by what is tested of its records.
use Rattle.std.proofs.Common.{◌≡◌, ◌≢◌, ◌∙◌, ◌↔◌, ℕ, ◌+◌, ◌<◌, ◌≤◌, Bool, true, false, List, [], ◌∷◌, length, map, take, get_or, Some, refl, sym, ap, subst, rules}
use Rattle.std.specs.Prelude.{All, Contains, IfSome, IsTrue, slice_get}
use Rattle.std.specs.Option.{option_map}
use Rattle.std.proofs.lemmas.Bool.{false≢true}
use Rattle.std.proofs.lemmas.List.{length-map, take_all}
use Rattle.std.proofs.lemmas.List.Elements.{All-contains, All-push}
use Rattle.std.proofs.lemmas.List.Sorted.{Contains-permutation, IsPermutation-sym}
use Rattle.std.proofs.lemmas.Option.{slice_get-map}
use Rattle.nix_drv.specs.Derivation.{Drv, Output}
use Rattle.drv_graph.proofs.KindAnswers.{one_kind}
use Rattle.drv_graph.specs.Kinds.{HasKind}
use Rattle.drv_graph.specs.Loading.{AreDistinct}
use Rattle.drv_graph.specs.Nodes.{Node, paths_of as node_paths}
use Rattle.drv_graph.specs.PlanNodes.{output_paths_of}
use Rattle.drv_graph.specs.Plans.{Graph}
use Rattle.drv_graph.specs.declared.kinds.Kind.{Kind}
use Rattle.drv_graph.specs.declared.kinds.Kind.TheVariants.{Addressed, Fixed}
use Rattle.valid_table.specs.Entries.{IsSortedOf, paths_registered, registered}
use Rattle.valid_table.specs.PathInfos.{PathInfo}
use Rattle.valid_table.specs.Valid.{IsNotValid, IsOnce, IsValid}
use Rattle.valid_table.specs.declared.entry.Entry.{Entry}
use Rattle.valid_table.specs.declared.entry.Entry.TheVariants.{Done}
use Rattle.valid_table.specs.declared.entry.Registration.{Registration}
use Rattle.sched_core.specs.Books.{AreNewRecords, IsNotAllowed}
use Rattle.sched_core.specs.private.Dones.{AreFitting, HaveDigest, IsDoneEntry, IsDoneFault, infos_of}
use Rattle.run_states.specs.Legal.{AreNewOutputs, AreOutputRecords, IsEntryOf}
use Rattle.build_outcome.specs.Verdicts.{IsCyclic}
use Rattle.run_states.specs.declared.fault.BookFault.{BookFault}
use Rattle.run_states.specs.declared.fault.BookFault.TheVariants.{NoMemory}
use Rattle.nix_names.proofs.Lists.{All-from_contains, Contains-from_get, element_at, get_from_contains, get_source, same_element, taken_more}

-- ---- paths that are new

pub found_valid : (known : List Registration) (paths : List (List ℕ)) (i : ℕ) (path : List ℕ) → i
    < length paths
    → path ≡ get_or paths i path → IsValid known path
    → IsTrue false ↔ All (IsNotValid known) paths
found_valid known paths i path below is valid = (
  λ no. absurd (false≢true no),
  λ new. absurd (subst (IsNotValid known) (sym is) (new i path below) valid),
)

pub new_more : (known : List Registration) (paths : List (List ℕ)) (i : ℕ) (path : List ℕ) → i
    < length paths → path ≡ get_or paths i path
    → All (IsNotValid known) (take i paths) → (found : Bool) → found ≡ false
    → (IsTrue found ↔ IsValid known path)
    → All (IsNotValid known) (take (i + 1) paths)
new_more known paths i path below is so_far found none tells =
    rw (taken_more _ i _ below is) (All-push (IsNotValid known) _ _ so_far
    (λ valid. false≢true (sym none ∙ tells.1 valid)))

pub all_new : (known : List Registration) (paths : List (List ℕ)) (i : ℕ) → length paths ≤ i
    → All (IsNotValid known) (take i paths)
    → IsTrue true ↔ All (IsNotValid known) paths
all_new known paths i all new = (
  λ _. subst (All (IsNotValid known)) (take_all i paths all) new,
  λ _. refl,
)

-- ---- what is tested, and what is allowed

pub judged : (known : List Registration) (kind : Kind) (paths : List (List ℕ))
    (infos : List PathInfo) (digests : Bool) → length infos ≡ length paths
    → All (IsNotValid known) paths → (IsTrue digests ↔ HaveDigest kind infos)
    → IsTrue digests ↔ AreFitting known kind paths infos
judged known kind paths infos digests count new told = search (rules, digests)

-- the records of outputs of a kind at their paths, by what is tested
fitting_own : (entries : List Entry) (drv : Drv) (kind : Kind) (infos : List PathInfo)
    → HasKind drv kind → AreFitting (registered entries) kind (output_paths_of drv) infos
    → AreOutputRecords drv infos × AreNewOutputs entries drv
fitting_own entries drv kind infos has_kind fitting = (
  record {
    count = fitting.count ∙ length-map drv.outputs (λ (o : Output). o.path);
    fixed = λ method digest is_fixed info has.
        let same = one_kind drv _ (Fixed method digest) has_kind is_fixed in
        All-contains (λ (i : PathInfo). i.digest
        ≡ Some (record { method = method; digest = digest })) _ _
        (subst (λ (k : Kind). HaveDigest k infos) same fitting.digests)
        has;
  },
  λ path has. All-contains (IsNotValid (registered entries)) _ _
      fitting.new has,
)

own_fitting : (entries : List Entry) (drv : Drv) (kind : Kind) (infos : List PathInfo)
    → HasKind drv kind → AreOutputRecords drv infos → AreNewOutputs entries drv
    → AreFitting (registered entries) kind (output_paths_of drv) infos
own_fitting entries drv kind infos has_kind own new = record {
  count = own.count ∙ sym (length-map drv.outputs (λ (o : Output). o.path));
  new = All-from_contains (IsNotValid (registered entries)) _ new;
  digests = digests kind has_kind;
}
  where
    digests : (k : Kind) → HasKind drv k → HaveDigest k infos
    digests Addressed has = tt
    digests (Fixed method digest) has = All-from_contains (λ (i : PathInfo). i.digest
        ≡ Some (record { method = method; digest = digest }))
        _ (own.fixed method digest has)

-- ---- the entry

-- a list has a registration exactly if it has its path and its record at one index
beside : (all : List Registration) (path : List ℕ) (info : PathInfo)
    → Contains all (record { path = path; info = info }) ↔
    ((n : ℕ) × (slice_get (paths_registered all) n ≡ Some path)
    × (slice_get (infos_of all) n ≡ Some info))
beside all path info = (there, back)
  where
    path_in : Registration → List ℕ
    path_in r = r.path

    info_in : Registration → PathInfo
    info_in r = r.info

    there : Contains all (record { path = path; info = info })
        → (n : ℕ) × (slice_get (paths_registered all) n ≡ Some path)
        × (slice_get (infos_of all) n ≡ Some info)
    there has =
        let at = get_from_contains _ _ has in (
          at.0,
          slice_get-map path_in all at.0 ∙ ap (option_map path_in) at.1,
          slice_get-map info_in all at.0 ∙ ap (option_map info_in) at.1,
        )

    back : ((n : ℕ) × (slice_get (paths_registered all) n ≡ Some path)
        × (slice_get (infos_of all) n ≡ Some info))
        → Contains all (record { path = path; info = info })
    back (n, path_at, info_at) =
        search (
          rules,
          get_source,
          path_in,
          path_at,
          same_element,
          slice_get-map,
          info_in,
          Contains-from_get,
        )

sorted_entry : (node : Node) (infos : List PathInfo) (all outputs : List Registration)
    → paths_registered all ≡ output_paths_of node.drv
    → infos_of all ≡ infos → IsSortedOf all outputs
    → IsEntryOf node infos (Done node.path outputs)
sorted_entry node infos all outputs paths same sorted = record {
  outputs = outputs;
  is_done = refl;
  rising = sorted.rising;
  each = λ path info.
      let r : Registration = record { path = path; info = info } in
      let at : Contains all r
      ↔ ((n : ℕ) × (slice_get (output_paths_of node.drv) n ≡ Some path)
      × (slice_get infos n ≡ Some info)) =
      rw (paths, same) at (beside all path info) in (
        λ has. at.0 (Contains-permutation outputs all r (IsPermutation-sym all outputs sorted.same)
            has),
        λ h. Contains-permutation all outputs r sorted.same (at.1 h),
      );
}

-- ---- the derivation at hand

-- what is said of the node at a number holds of it
node_at : (nodes : List Node) (d : ℕ) (node : Node) (Holds : Node → Type 0)
    → IfSome (slice_get nodes d) Holds
    → slice_get nodes d ≡ Some node → Holds node
node_at nodes d node Holds holds at = search rules

path_at : (nodes : List Node) (d : ℕ) (node : Node) (path : List ℕ) → slice_get (node_paths nodes) d
    ≡ Some path
    → slice_get nodes d ≡ Some node → node.path ≡ path
path_at nodes d node path is at = search (rules, same_element, slice_get-map)

-- What a plan tells of one of its derivations.
pub record IsTold (graph : Graph) (d : ℕ) (kind : Kind) (paths : List (List ℕ)) : Type 0 where
  pub has_kind : IfSome (slice_get graph.nodes d) (λ (n : Node). HasKind n.drv kind)
  pub outputs : IfSome (slice_get graph.nodes d) (λ (n : Node). paths ≡ output_paths_of n.drv)

-- what is tested gives records of the derivation's outputs, all of them new
pub fitting_new : (graph : Graph) (d : ℕ) (entries : List Entry) (kind : Kind)
    (paths : List (List ℕ)) (infos : List PathInfo) → IsTold graph d kind paths
    → AreFitting (registered entries) kind paths infos → AreNewRecords graph entries d infos
fitting_new graph d entries kind paths infos told fitting node at =
    let own : paths ≡ output_paths_of node.drv =
    node_at _ d _ (λ n. paths ≡ output_paths_of n.drv) told.outputs at in
    let has_kind = node_at _ d _ (λ n. HasKind n.drv kind) told.has_kind at in
    fitting_own entries node.drv kind infos has_kind
    (subst (λ (ps : List (List ℕ)). AreFitting (registered entries) kind ps infos) own fitting)

pub done_is : (graph : Graph) (d : ℕ) (entries : List Entry) (kind : Kind) (paths : List (List ℕ))
    (infos : List PathInfo)
    (all outputs : List Registration) (path : List ℕ)
    → IsTold graph d kind paths → slice_get (node_paths graph.nodes) d ≡ Some path
    → AreFitting (registered entries) kind paths infos → (IsCyclic paths infos → ⊥)
    → paths_registered all ≡ paths → infos_of all ≡ infos → IsSortedOf all outputs
    → IsDoneEntry graph d entries infos (Done path outputs)
done_is graph d entries kind paths infos all outputs path told is fitting acyclic are same sorted
    node at =
    let own : paths ≡ output_paths_of node.drv =
    node_at _ d _ (λ n. paths ≡ output_paths_of n.drv) told.outputs at in
    let new = fitting_new _ d entries _ _ _ told fitting node at in (
      subst (λ (p : List ℕ). IsEntryOf node infos (Done p outputs))
          (path_at _ d _ _ is at)
          (sorted_entry _ _ _ _ (are ∙ own) same sorted),
      record {
        own = new.0;
        acyclic = subst (λ (ps : List (List ℕ)). IsCyclic ps infos → ⊥) own acyclic;
      },
      new.1,
    )

-- an entry's records are such
pub entry_new : (graph : Graph) (d : ℕ) (entries : List Entry) (infos : List PathInfo)
    (entry : Entry) (fault : BookFault) → IsDoneEntry graph d entries infos entry
    → fault ≡ NoMemory → IsDoneFault graph d entries infos fault
entry_new graph d entries infos entry fault told is =
    rw is (λ node at. let all = told node at in (all.1.own, all.2))

-- what isn't fitting, or has a cycle, isn't allowed
pub not_fitting : (graph : Graph) (d : ℕ) (entries : List Entry) (kind : Kind)
    (paths : List (List ℕ)) (infos : List PathInfo) → IsTold graph d kind paths
    → (AreFitting (registered entries) kind paths infos → ⊥)
    → IsNotAllowed graph entries d infos
not_fitting graph d entries kind paths infos told not_fit node at allowed =
    let own : paths ≡ output_paths_of node.drv =
    node_at _ d _ (λ n. paths ≡ output_paths_of n.drv) told.outputs at in
    let has_kind = node_at _ d _ (λ n. HasKind n.drv kind) told.has_kind at in
    not_fit (subst (λ (ps : List (List ℕ)). AreFitting (registered entries) kind ps infos)
    (sym own)
    (own_fitting entries node.drv kind infos has_kind allowed.records.own allowed.new))

pub cycle_not_allowed : (graph : Graph) (d : ℕ) (entries : List Entry) (kind : Kind)
    (paths : List (List ℕ)) (infos : List PathInfo) → IsTold graph d kind paths
    → IsCyclic paths infos → IsNotAllowed graph entries d infos
cycle_not_allowed graph d entries kind paths infos told cyclic node at allowed =
    search (rules, node_at)

-- outputs of a derivation of a plan can be sorted: there are some, and their paths differ
pub can_be_sorted : (graph : Graph) (d : ℕ) (kind : Kind) (paths : List (List ℕ))
    (all : List Registration) → d < length graph.nodes
    → AreDistinct paths
    → IsTold graph d kind paths → paths_registered all ≡ paths → (all ≢ []) × IsOnce all
can_be_sorted graph d kind paths all within distinct told are =
    let found = element_at _ d within in
    let node = found.0 in
    let own : paths ≡ output_paths_of node.drv =
    node_at _ d _ (λ n. paths ≡ output_paths_of n.drv) told.outputs found.1 in
    let has_kind = node_at _ d _ (λ n. HasKind n.drv kind) told.has_kind found.1 in (
      λ none. some_outputs node.drv kind has_kind
          (no_outputs node.drv.outputs (sym own ∙ sym are ∙ ap paths_registered none)),
      subst AreDistinct (sym are) distinct,
    )
  where
    some_outputs : (drv : Drv) (k : Kind) → HasKind drv k → drv.outputs ≡ [] → ⊥
    some_outputs drv Addressed has none = has.0 none
    some_outputs drv (Fixed method digest) has none = search rules

    no_outputs : (outputs : List Output) → map (λ (o : Output). o.path) outputs ≡ [] → outputs ≡ []
    no_outputs [] none = refl
    no_outputs (o ∷ os) none = absurd cc
