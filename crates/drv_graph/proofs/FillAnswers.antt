-- What filling a draft answers, from what its steps answer.
use Rattle.std.proofs.Common.{◌≡◌, ◌∙◌, ℕ, List, [], ◌∷◌, length, map, inl, inr, refl, sym, ap, subst, Bool, true, rules}
use Rattle.std.specs.Prelude.{◌≢◌, All, Contains, IfOk, Ok, Err, Result, filter, not}
use Rattle.std.specs.List.{AllZip}
use Rattle.std.proofs.lemmas.Simd.{map-map}
use Rattle.std.proofs.lemmas.Slice.Zip.{AllZip-long}
use Rattle.nix_names.specs.Names.{same_bytes}
use Rattle.nix_names.specs.Rising.{IsRising}
use Rattle.nix_names.specs.StorePaths.{IsPathOf}
use Rattle.nix_names.proofs.RisingLists.{IsBelow, first_below, not_below_itself, rising_later}
use Rattle.nix_names.proofs.FirstElements.{no_first}
use Rattle.nix_drv.specs.Derivation.{Drv, IsDrvText}
use Rattle.nix_drv.specs.OwnPath.{IsOwnPath, referenced_paths, text_path}
use Rattle.nix_drv.specs.Parts.{drv_of, path_of}
use Rattle.nix_drv.specs.References.{IsReferencesOf, IsStrayFault}
use Rattle.nix_drv.specs.Sources.{Answer}
use Rattle.nix_drv.specs.declared.derivation.Input.{Input as InputStruct}
use Rattle.nix_drv.specs.declared.derivation.Parts.{Parts}
use Rattle.nix_drv.specs.declared.fault.DrvFault.{DrvFault}
use Rattle.nix_drv.specs.declared.fault.DrvFault.TheVariants.{NoMemory as NoSpace, Syntax, Order, TooLong, TextPathMismatch, NotADrvName, NotSorted, BadReference}
use Rattle.drv_graph.specs.Filling.{AreInStore, IsFilledText, IsFilling, MayFill, file_name}
use Rattle.drv_graph.specs.private.FillSteps.{AreDraftPaths, AreUsed, IsFillRefused, IsFilledAfter, IsStrayRefused, IsTarget, IsTextPath, IsTextRefused}
use Rattle.drv_graph.specs.Loading.{IsLoading}
use Rattle.drv_graph.specs.Nodes.{AreHashes, Node, inputs_of}
use Rattle.drv_graph.specs.private.Insertion.{IsInserted}
use Rattle.drv_graph.specs.PlanNodes.{AreKept, nodes_of}
use Rattle.drv_graph.specs.Plans.{AreDrvsOf, AreNumbers, Graph, IsPlan, each_once}
use Rattle.drv_graph.specs.private.UsedInputs.{drvs_of_uses, hashes_of}
use Rattle.drv_graph.specs.private.Walks.{IsUsed}
use Rattle.drv_graph.specs.declared.fault.GraphFault.{GraphFault}
use Rattle.drv_graph.specs.declared.fault.GraphFault.TheVariants.{NoMemory, At, Draft, Name}
use Rattle.drv_graph.specs.declared.fault.NodeFault.TheVariants.{Text}
use Rattle.drv_graph.specs.declared.drafts.fill.Target.{Target}
use Rattle.drv_graph.specs.declared.plans.node.PlanNode.{PlanNode}
use Rattle.drv_graph.specs.declared.outputs.output_checks.UsedInput.{UsedInput}
use Rattle.drv_graph.proofs.FilledDrafts.{filled_right}
use Rattle.drv_graph.proofs.PathLists.{other_path}
use Rattle.drv_graph.proofs.UsedNodes.{used_drvs, used_hashes, used_paths}
use Rattle.nix_names.proofs.Lists.{Contains-first, Contains-later}
use Rattle.drv_graph.specs.declared.profile.Profile.{Profile}

-- ---- the draft's references

pub stray_draft : (dir : List ℕ) (paths : List (List ℕ)) (fault : DrvFault) → fault ≢ NoSpace
    → IsStrayFault dir paths fault → IsStrayRefused dir paths (Draft (Text fault))
stray_draft dir paths (BadReference text) some stray = inr (text, refl, stray)
stray_draft dir paths NoSpace some stray = absurd (some refl)
stray_draft dir paths (Syntax index) some stray = absurd stray
stray_draft dir paths (Order index) some stray = absurd stray
stray_draft dir paths TooLong some stray = absurd stray
stray_draft dir paths (TextPathMismatch path) some stray = absurd stray
stray_draft dir paths NotADrvName some stray = absurd stray
stray_draft dir paths NotSorted some stray = absurd stray

-- where all paths are of the folder there is no first that isn't
none_stray : (dir : List ℕ) (draft : Drv) → All (IsPathOf dir) (referenced_paths draft)
    → AreInStore dir draft
none_stray dir draft all text stray = search (rules, no_first)

-- ---- the draft's inputs

filter_all : {X : Type 0} (p : X → Bool) (xs : List X) → ((x : X) → Contains xs x → p x ≡ true)
    → filter p xs ≡ xs
filter_all p [] all = refl
filter_all p (x ∷ xs) all = rw (all x (Contains-first x xs))
    (ap (λ (ys : List _). x ∷ ys) (filter_all p _ (λ y has. all y (Contains-later x _ y has))))

pub once_rising : (paths : List (List ℕ)) → IsRising paths → each_once paths ≡ paths
once_rising [] rises = refl
once_rising (p ∷ ps) rises =
    let later = once_rising ps (rising_later p ps rises) in
    let other : (q : List ℕ) → Contains ps q → not (same_bytes p q) ≡ true =
    λ q has. ap not
    (other_path p q
    (λ same. not_below_itself q
    (subst (λ (r : List ℕ). IsBelow r q) same (first_below p _ q rises has)))) in
    ap (λ (qs : List (List ℕ)). p ∷ filter (λ q. not (same_bytes p q)) qs) later
    ∙ ap (λ (qs : List (List ℕ)). p ∷ qs) (filter_all (λ q. not (same_bytes p q)) _ other)

pub same_inputs : (parts : Parts) (draft : Drv) (inputs : List InputStruct)
    (paths given : List (List ℕ)) → drv_of parts ≡ draft → inputs ≡ parts.inputs.items → paths
    ≡ map path_of inputs → given ≡ paths → given ≡ inputs_of draft
same_inputs parts draft inputs paths given view same are is = search (rules, map-map)

pub numbers_loaded : (profile : Profile) (dir : List ℕ) (gives : List ℕ → Answer → Type 0)
    (roots : List (List ℕ))
    (answer : Result Graph GraphFault) → IsRising roots → IsLoading profile dir gives roots answer
    → IfOk answer (λ (graph : Graph). AreNumbers graph.nodes graph.roots roots)
numbers_loaded profile dir gives roots (Ok graph) rises loaded = search (rules, once_rising)
numbers_loaded profile dir gives roots (Err fault) rises loaded = tt

-- ---- the filled derivation

pub are_used : (kept : List PlanNode) (numbers : List ℕ) (used given : List UsedInput) (draft : Drv)
    → AreKept kept → AreNumbers (nodes_of kept) numbers (inputs_of draft)
    → AllZip (IsUsed kept) numbers used
    → given ≡ used → AreUsed (nodes_of kept) draft (drvs_of_uses given) (hashes_of given)
are_used kept numbers used given draft right are zip same =
    let paths = used_paths _ _ _ _ zip are in
    subst (λ (us : List UsedInput). AreUsed (nodes_of kept) draft (drvs_of_uses us) (hashes_of us))
    (sym same)
    (record {
      are_used = subst (λ (ps : List (List ℕ)). AreDrvsOf (nodes_of kept) ps (drvs_of_uses used))
          paths
          (used_drvs _ _ _ zip);
      are_hashes = subst (λ (ps : List (List ℕ)). AreHashes (nodes_of kept) ps (hashes_of used))
          paths (used_hashes _ _ _ right zip);
    })

pub paths_long : {profile : Profile} (dir name : List ℕ) (draft : Drv) (used : List Drv)
    (hashes paths given : List (List ℕ)) → AreDraftPaths profile dir name draft used hashes paths
    → given
    ≡ paths → length given ≡ length draft.outputs
paths_long dir name draft used hashes paths given (kind, right, expected) same =
    search (rules, AllZip-long)

pub filled_after : {profile : Profile} (dir name : List ℕ) (nodes : List Node)
    (draft filled : Drv) (used : List Drv)
    (hashes paths given : List (List ℕ)) → AreUsed nodes draft used hashes
    → AreDraftPaths profile dir name draft used hashes paths → given ≡ paths
    → IsInserted given draft filled
    → IsFilledAfter profile dir name nodes draft filled
filled_after dir name nodes draft filled used hashes paths given basis (kind, right, expected)
    same is = record {
      used = used;
      hashes = hashes;
      basis = basis;
      kind = kind;
      right = right;
      filled_is = filled_right _ _ _ _ _ _ expected _ _ right
          (subst (λ (ps : List (List ℕ)). IsInserted ps draft filled) same is);
    }

-- ---- all of it

module _ (dir : List ℕ) (gives : List ℕ → Answer → Type 0) (name : List ℕ) (draft : Drv) where
  module _ (target : Target) (is_target : IsTarget dir name draft target) where
    pub load_refused : (profile : Profile) (fault : GraphFault)
        → IsLoading profile dir gives (inputs_of draft) (Err fault)
        → IsFilling profile dir gives name draft (Err fault)
    load_refused profile NoMemory loaded = is_target.names.0
    load_refused profile (At path fault) loaded = search (rules, none_stray)
    load_refused profile (Draft fault) loaded = absurd loaded
    load_refused profile Name loaded = absurd loaded

    module _ {profile : Profile} (graph : Graph)
        (loaded : IsPlan dir gives (inputs_of draft) graph × (graph.profile ≡ profile)) where
      abbrev basis : (used : List Drv) (hashes : List (List ℕ))
          → AreUsed graph.nodes draft used hashes → MayFill profile dir gives name draft
      basis used hashes are = record {
        graph = graph;
        is_plan = loaded.0;
        is_under = loaded.1;
        used = used;
        hashes = hashes;
        are_used = are.are_used;
        are_hashes = are.are_hashes;
      }

      refused_as : (fault : GraphFault) → IsFillRefused profile dir name graph.nodes draft fault
          → IsFilling profile dir gives name draft (Err fault)
      refused_as fault (inl memory) = rw memory is_target.names.0
      refused_as fault (inr (used, hashes, are, inl memory)) = rw memory is_target.names.0
      refused_as fault (inr (used, hashes, are, inr (of, is, some, check))) =
          rw is (
            is_target.names,
            (none_stray _ _ is_target.in_store, some, (basis used hashes are, check)),
          )

      pub fill_refused : (fault : GraphFault)
          → IsFillRefused graph.profile dir name graph.nodes draft fault
          → IsFilling profile dir gives name draft (Err fault)
      fill_refused fault refused =
          refused_as fault
          (subst (λ p. IsFillRefused p dir name graph.nodes draft fault) loaded.1 refused)

      module _ (filled : Drv)
          (by_plan : IsFilledAfter graph.profile dir name graph.nodes draft filled) where
        is_filled : IsFilledAfter profile dir name graph.nodes draft filled
        is_filled = subst (λ p. IsFilledAfter p dir name graph.nodes draft filled) loaded.1 by_plan

        abbrev filled_text : (bytes : List ℕ) → IsDrvText filled bytes
            → IsFilledText profile dir gives name draft filled bytes
        filled_text bytes is_text = record {
          basis = basis is_filled.used is_filled.hashes is_filled.basis;
          kind = is_filled.kind;
          right = is_filled.right;
          filled_is = is_filled.filled_is;
          is_text = is_text;
        }

        pub text_refused : (fault : GraphFault) → IsTextRefused filled fault
            → IsFilling profile dir gives name draft (Err fault)
        text_refused fault (inl memory) = rw memory is_target.names.0
        text_refused fault (inr (is, (bytes, is_text, long))) =
            rw is (
              is_target.names,
              (
                none_stray _ _ is_target.in_store,
                (filled, bytes, filled_text bytes is_text, long),
              ),
            )

        same_paths : referenced_paths filled ≡ referenced_paths draft
        unfolding referenced_paths
        same_paths = search rules

        pub filling_right : (path : List ℕ) → IsTextPath dir target.file.items target.refs.items
            filled path → IsFilling profile dir gives name draft (Ok (filled, path))
        filling_right path is =
            let refs = subst (λ (ps : List (List ℕ)). IsReferencesOf ps target.refs.items)
            (sym same_paths) is_target.refs in
            let own : IsOwnPath dir (file_name name) filled is.bytes path = record {
              refs = target.refs.items;
              rising = refs.rising;
              same = refs.same;
              is_path = is.is_path
                  ∙ ap (λ (file : List ℕ). text_path dir file is.bytes target.refs.items)
                  is_target.file;
            } in (
              is_target.names,
              none_stray _ _ is_target.in_store,
              (is.bytes, filled_text is.bytes is.is_text, is.within, own),
            )
