-- A plan's derivations stand at the paths of derivations' files, and none has one path for two
-- outputs: their names differ.
use Rattle.std.proofs.Common.{◌≡◌, ◌∙◌, ℕ, Bool, true, false, List, [], ◌∷◌, ◌++◌, length, map, refl, sym, ap, nat_eq, arith, Ok, rules}
use Rattle.std.specs.Prelude.{All, Contains, codes, if◌then◌else◌}
use Rattle.std.specs.Cmp.Lexicographic.{pointwise}
use Rattle.std.specs.List.{AllByRecursion, IsDistinct}
use Rattle.std.proofs.lemmas.List.{append_cancel_left, length-append}
use Rattle.std.proofs.lemmas.List.Elements.{All-contains}
use Rattle.std.proofs.lemmas.Map.Keys.{IsDistinct-cons}
use Rattle.nix_names.specs.Names.{is_name}
use Rattle.nix_names.specs.Rising.{IsRising}
use Rattle.nix_names.specs.StorePaths.{IsDrvPath, name_of, store_path}
use Rattle.nix_names.proofs.PathDigests.{hash_part_of_fold}
use Rattle.nix_names.proofs.PathTexts.{name_of_path}
use Rattle.nix_names.proofs.RisingLists.{equal_from_eq, first_below, not_below_itself, rising_later}
use Rattle.nix_drv.specs.Derivation.{Drv, Output}
use Rattle.nix_drv.specs.Indices.{output_names}
use Rattle.nix_drv.specs.Sources.{Answer}
use Rattle.drv_graph.specs.Expected.{IsExpected, path_name}
use Rattle.drv_graph.specs.Kinds.{HasKind}
use Rattle.drv_graph.specs.Loading.{AreDistinct}
use Rattle.drv_graph.specs.Nodes.{Node, output_paths_of}
use Rattle.drv_graph.specs.Outputs.{IsThePath, IsWellNamed, PathsFit}
use Rattle.drv_graph.specs.Plans.{MayAnswer, MayBeAt}
use Rattle.drv_graph.specs.declared.kinds.Kind.{Kind}
use Rattle.drv_graph.specs.declared.kinds.Kind.TheVariants.{Addressed, Fixed}
use Rattle.drv_graph.proofs.PathLists.{other_path}
use Rattle.nix_names.proofs.Lists.{All-from_contains, Contains-cons_cases, Contains-first, Contains-later, Contains-map, Contains-nothing}
use Rattle.drv_graph.specs.declared.profile.Profile.{Profile}

-- a text isn't itself with more after it
no_more : (a b : List ℕ) → a ≡ a ++ codes "-" ++ b → ⊥
no_more a b same =
    let lengths : length a ≡ length (a ++ codes "-" ++ b) = ap length same in
    omega (arith, lengths, length-append (a ++ codes "-") b, length-append a (codes "-"))

-- outputs whose paths have one name have one name
one_output : (name a b : List ℕ) → path_name name a ≡ path_name name b → a ≡ b
one_output name a b same = by (pointwise nat_eq a (codes "out")) (pointwise nat_eq b (codes "out"))
    refl refl
  where
    chosen : Bool → List ℕ → List ℕ
    chosen is_out output = if is_out then name else name ++ codes "-" ++ output

    by : (x y : Bool) → pointwise nat_eq a (codes "out") ≡ x → pointwise nat_eq b (codes "out") ≡ y
        → a ≡ b
    by true true e f = equal_from_eq a _ e ∙ sym (equal_from_eq b _ f)
    by true false e f =
        absurd (no_more _ b (sym (ap (λ t. chosen t a) e) ∙ same ∙ ap (λ t. chosen t b) f))
    by false true e f =
        absurd (no_more _ a (sym (ap (λ t. chosen t b) f) ∙ sym same ∙ ap (λ t. chosen t a) e))
    by false false e f =
        let whole : name ++ codes "-" ++ a ≡ name ++ codes "-" ++ b = sym (ap (λ t. chosen t a) e)
        ∙ same ∙ ap (λ t. chosen t b) f in
        append_cancel_left (name ++ codes "-") a b whole

-- a store path has its name
name_of_store_path : (kind inner dir name : List ℕ) → is_name name ≡ true
    → name_of (store_path kind inner dir name) ≡ name
unfolding store_path
name_of_store_path kind inner dir name named = name_of_path dir _ _ (hash_part_of_fold _) named

-- outputs of a derivation that have one path have one name
one_name : (dir name : List ℕ) (kind : Kind) (drv : Drv) (hashes : List (List ℕ)) → HasKind drv kind
    → All (IsWellNamed name) drv.outputs
    → PathsFit IsThePath (IsExpected dir name kind drv hashes) drv → (o p : Output)
    → Contains drv.outputs o → Contains drv.outputs p
    → o.path ≡ p.path → o.name ≡ p.name
one_name dir name Addressed drv hashes has_kind named fit o p has has' same =
    let expected = IsExpected dir name Addressed drv hashes in
    let fits : (x : Output) → Contains drv.outputs x → (path : List ℕ) × expected x path
    × (x.path ≡ path) = λ x is.
    All-contains (λ (y : Output). (path : List ℕ) × expected y path × (y.path ≡ path)) _ x
    fit is in
    let at = fits o has in
    let at' = fits p has' in
    let title = name_of_store_path _ _ _
    _
    (All-contains (IsWellNamed name) _ o named has).1 in
    let title' = name_of_store_path _ _ _
    _
    (All-contains (IsWellNamed name) _ p named has').1 in
    let of : name_of o.path ≡ path_name name o.name = ap name_of (at.2 ∙ at.1.2) ∙ title in
    let of' : name_of p.path ≡ path_name name p.name = ap name_of (at'.2 ∙ at'.1.2) ∙ title' in
    one_output _ _ _ (sym of ∙ ap name_of same ∙ of')
one_name dir name (Fixed method digest) drv hashes has_kind named fit o p has has' same =
    search (rules, Contains-nothing, Contains-cons_cases)

-- outputs in order have different paths, where those with one path have one name
paths_differ : (outputs : List Output) → IsRising (map (λ (o : Output). o.name) outputs)
    → ((o p : Output) → Contains outputs o → Contains outputs p → o.path ≡ p.path → o.name ≡ p.name)
    → AreDistinct (map (λ (o : Output). o.path) outputs)
unfolding IsDistinct
paths_differ [] rising same = tt
paths_differ (x ∷ xs) rising same =
    IsDistinct-cons (pointwise nat_eq) _ _
    (others xs (λ p has. apart p has))
    (paths_differ xs (rising_later x.name (map (λ (o : Output). o.name) xs) rising)
    (λ o p has has'. same o p (Contains-later x _ o has) (Contains-later x _ p has')))
  where
    apart : (p : Output) → Contains xs p → x.path ≡ p.path → ⊥
    apart p has e =
        let name = same x p (Contains-first x xs) (Contains-later x xs p has) e in
        let below = first_below x.name (map (λ (o : Output). o.name) xs) p.name rising
        (Contains-map (λ (o : Output). o.name) xs p has) in
        not_below_itself p.name (rw name at below)

    others : (ys : List Output) → ((p : Output) → Contains ys p → x.path ≡ p.path → ⊥)
        → AllByRecursion (λ y. pointwise nat_eq x.path y ≡ false) (map (λ (o : Output). o.path) ys)
    others [] none = tt
    others (y ∷ ys) none = (
      other_path x.path y.path (none y (Contains-first y ys)),
      others ys (λ p has. none p (Contains-later y ys p has)),
    )

-- so those of a derivation whose outputs are right have
pub own_outputs : {profile : Profile} (dir : List ℕ) (before : List Node) (node : Node)
    (kind : Kind)
    → MayAnswer profile dir before node (Ok kind) → IsRising (output_names node.drv)
    → AreDistinct (output_paths_of node.drv)
own_outputs dir before node kind right rising = search (rules, paths_differ, one_name)

-- a plan's derivations stand at the paths of derivations' files
pub all_named : (dir : List ℕ) (gives : List ℕ → Answer → Type 0) (nodes : List Node)
    → All (λ (n : Node). MayBeAt dir gives n.path n.drv) nodes
    → All (λ (n : Node). IsDrvPath n.path) nodes
all_named dir gives nodes given = search (rules, All-from_contains, All-contains)
