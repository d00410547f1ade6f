-- The paths that a derivation names are paths of the folder where they were found to be, and the
-- paths that are expected of its outputs always are.
use Rattle.std.proofs.Common.{◌≡◌, ◌∙◌, ℕ, ◌<◌, List, [], ◌∷◌, length, map, get_or, sym, ap, subst, true, Ok, rules}
use Rattle.std.specs.Prelude.{All, Contains, codes}
use Rattle.std.proofs.lemmas.List.Elements.{All-contains, Contains-append_right}
use Rattle.nix_names.specs.Names.{is_name}
use Rattle.nix_names.specs.StorePaths.{IsPathOf}
use Rattle.nix_names.proofs.PathDigests.{store_path_is_path}
use Rattle.nix_names.proofs.Lists.{All-from_contains, All-left, Contains-first, Contains-from_map, Contains-map}
use Rattle.nix_drv.specs.Derivation.{Drv, Output}
use Rattle.nix_drv.specs.OwnPath.{referenced_paths}
use Rattle.nix_drv.specs.Parts.{output_of}
use Rattle.nix_drv.specs.declared.derivation.Output.{Output as OutputStruct}
use Rattle.drv_graph.specs.Expected.{IsExpected, drv_name_of, fixed_path, path_name}
use Rattle.drv_graph.specs.Kinds.{HasKind}
use Rattle.drv_graph.specs.Nodes.{Node, inputs_of}
use Rattle.drv_graph.specs.Outputs.{IsThePath, IsWellNamed}
use Rattle.drv_graph.specs.PlanNodes.{output_paths_of}
use Rattle.drv_graph.specs.Plans.{MayAnswer}
use Rattle.drv_graph.specs.declared.kinds.Kind.{Kind}
use Rattle.drv_graph.specs.declared.kinds.Kind.TheVariants.{Addressed, Fixed}
use Rattle.nix_names.specs.declared.digest.Digest.{Digest}
use Rattle.nix_names.specs.declared.digest.Digest.TheVariants.{Md5, Sha1, Sha256, Sha512}
use Rattle.nix_names.specs.declared.method.Method.{Method}
use Rattle.nix_names.specs.declared.method.Method.TheVariants.{Flat, Recursive}
use Rattle.drv_graph.specs.declared.profile.Profile.{Profile}

-- what is true of all that a list is seen as is true of an item that was read
pub item_is : {A B : Type 0} (P : B → Type 0) (view : A → B) (xs : List A) (i : ℕ) (x : A)
    → i < length xs → x ≡ get_or xs i x → All P (map view xs) → P (view x)
item_is P view xs i x lt is all = All-contains P _ _ all (Contains-map view _ x (i, lt, sym is))

-- the name of the path of an output that was read is a name
pub item_named : (name : List ℕ) (outputs : List OutputStruct) (i : ℕ) (x : OutputStruct)
    → i < length outputs → x ≡ get_or outputs i x → All (IsWellNamed name) (map output_of outputs)
    → is_name (path_name name x.name.items) ≡ true
item_named name outputs i x lt is all = (item_is (IsWellNamed name) output_of _ i x lt is all).1

-- a derivation's inputs and sources are in the folder where all of its paths are
pub inputs_in_store : (dir : List ℕ) (drv : Drv) → All (IsPathOf dir) (referenced_paths drv)
    → All (IsPathOf dir) (inputs_of drv)
unfolding referenced_paths
inputs_in_store dir drv all = search (rules, All-left)

pub sources_in_store : (dir : List ℕ) (drv : Drv) → All (IsPathOf dir) (referenced_paths drv)
    → All (IsPathOf dir) drv.sources
unfolding referenced_paths
sources_in_store dir drv all = All-from_contains (IsPathOf dir) _
    (λ x has. All-contains (IsPathOf dir) _ x all
    (Contains-append_right _ _ x has))

-- the name of the path of a fixed output is the derivation's
pub name_of_out : (name output : List ℕ) → output ≡ codes "out" → path_name name output ≡ name
name_of_out name output is = ap (path_name name) is

-- the name of a derivation with a fixed output is a name
pub fixed_named : (name : List ℕ) (kind : Kind) (drv : Drv) → HasKind drv kind
    → All (IsWellNamed name) drv.outputs → (o : Output) → drv.outputs ≡ o ∷ []
    → o.name ≡ codes "out" → is_name name ≡ true
fixed_named name kind drv is named o only out =
    search (rules, name_of_out, All-contains, Contains-first)

-- the path of a fixed output is a path of the folder
fixed_in_store : (dir name : List ℕ) (method : Method) (digest : Digest) → is_name name ≡ true
    → IsPathOf dir (fixed_path dir name method digest)
fixed_in_store dir name Flat digest named = search (rules, store_path_is_path)
fixed_in_store dir name Recursive (Md5 bytes) named = search (rules, store_path_is_path)
fixed_in_store dir name Recursive (Sha1 bytes) named = search (rules, store_path_is_path)
fixed_in_store dir name Recursive (Sha256 bytes) named = search (rules, store_path_is_path)
fixed_in_store dir name Recursive (Sha512 bytes) named = search (rules, store_path_is_path)

-- an expected path is a path of the folder
expected_in_store : (dir name : List ℕ) (kind : Kind) (drv : Drv) (hashes : List (List ℕ))
    → HasKind drv kind → All (IsWellNamed name) drv.outputs → (o : Output) → Contains drv.outputs o
    → (path : List ℕ) → IsExpected dir name kind drv hashes o path → IsPathOf dir path
expected_in_store dir name Addressed drv hashes is named o has path (bytes, is_text, made) =
    search (rules, store_path_is_path, All-contains)
expected_in_store dir name (Fixed method digest) drv hashes is named o has path made =
    search (rules, fixed_in_store, fixed_named)

-- so are the paths of outputs that are right
pub outputs_in_store : {profile : Profile} (dir : List ℕ) (nodes : List Node) (node : Node)
    (kind : Kind)
    → MayAnswer profile dir nodes node (Ok kind) → All (IsPathOf dir) (output_paths_of node.drv)
outputs_in_store dir nodes node kind right =
    All-from_contains (IsPathOf dir) _ (λ path has.
    let from = Contains-from_map (λ (o : Output). o.path) _ _ has in
    let fit = All-contains (λ (o : Output). (p : List ℕ)
    × IsExpected dir (drv_name_of node.path) kind node.drv right.hashes o p × IsThePath o.path p)
    _ _
    right.check.1 from.1 in
    subst (IsPathOf dir) (sym fit.2 ∙ from.2)
    (expected_in_store _ _ _ _ _
    right.check.0.has_kind right.check.0.named
    _ from.1 _ fit.1))
