-- Twins of a sound plan: two derivations that share an output path.
use Rattle.std.proofs.Common.{◌≡◌, ◌∙◌, ℕ, ◌<◌, zero, suc, List, [], ◌∷◌, length, take, refl, sym, ap, subst, ⊎_elim, arith, Some, rules}
use Rattle.std.specs.Prelude.{Contains, slice_get}
use Rattle.std.proofs.lemmas.List.{length-map}
use Rattle.std.proofs.lemmas.List.Elements.{All-contains}
use Rattle.std.proofs.lemmas.Option.{none-some}
use Rattle.sha2.specs.Sha256.{sha256}
use Rattle.nix_names.specs.declared.digest.Digest.{Digest}
use Rattle.nix_drv.specs.Derivation.{Drv, Output}
use Rattle.drv_graph.specs.Kinds.{HasKind, IsFixed}
use Rattle.drv_graph.specs.Loading.{AreDistinct}
use Rattle.drv_graph.specs.Nodes.{Node, fixed_text, output_paths_of}
use Rattle.drv_graph.specs.Plans.{AreLawful, AreTwins, IsLawful, ShareOutput}
use Rattle.drv_graph.specs.TwinLaws.{FixedTwinsHaveOneHash, SharersAreTwins, TwinsShareOutputs}
use Rattle.drv_graph.specs.declared.kinds.Kind.{Kind}
use Rattle.drv_graph.specs.declared.kinds.Kind.TheVariants.{Addressed, Fixed}
use Rattle.nix_names.specs.declared.method.Method.{Method}
use Rattle.drv_graph.proofs.PathLists.{as_long}
use Rattle.nix_names.proofs.Lists.{Contains-cons_cases, Contains-first, Contains-from_get, Contains-from_map, Contains-map, Contains-nothing, either_side, get_from_contains, same_element, split_get}
use Rattle.drv_graph.specs.declared.profile.Profile.{Profile}

-- ---- those that share an output path

get_taken : {A : Type 0} (xs : List A) (n k : ℕ) (x : A) → k < n → slice_get xs k ≡ Some x
    → slice_get (take n xs) k ≡ Some x
get_taken [] n k x low at = absurd (none-some x at)
get_taken (y ∷ ys) zero k x low at = absurd (omega (arith, low))
get_taken (y ∷ ys) (suc n) zero x low at = at
get_taken (y ∷ ys) (suc n) (suc k) x low at = get_taken _ n k x (omega (arith, low)) at

-- a derivation at an index is lawful after those before it
lawful_at : {profile : Profile} (dir : List ℕ) (nodes : List Node) (n : ℕ) (node : Node)
    → AreLawful profile dir nodes
    → slice_get nodes n ≡ Some node → IsLawful profile dir (take n nodes) node
lawful_at dir nodes n node lawful at = search (rules, split_get)

-- an earlier one that shares an output path is a twin
twin_before : {profile : Profile} (dir : List ℕ) (nodes : List Node) (i j : ℕ) (a b : Node)
    → AreLawful profile dir nodes
    → slice_get nodes i ≡ Some a → slice_get nodes j ≡ Some b → i < j → ShareOutput a.drv b.drv
    → AreTwins a.drv b.drv
twin_before dir nodes i j a b lawful at at' low shares =
    ⊎_elim (λ none. absurd (none shares)) (λ twins. twins)
    ((lawful_at _ _ j b lawful at').apart a
    (Contains-from_get _ i a (get_taken _ j i a low at)))

flipped : (a b : Drv) → AreTwins a b → AreTwins b a
flipped a b twins path = ((twins path).1, (twins path).0)

itself : (a b : Node) → a ≡ b → AreTwins a.drv b.drv
itself a b same = search rules

pub sharers_are_twins : SharersAreTwins
sharers_are_twins graph a b sound has has' shares =
    let at = get_from_contains _ a has in
    let at' = get_from_contains _ b has' in
    ⊎_elim
    (λ same. itself a b
    (same_element graph.nodes at.0 a b at.1
    (subst (λ n. slice_get graph.nodes n ≡ Some b) (sym same) at'.1)))
    (λ differs. ⊎_elim
    (λ low. twin_before _ _ _ _ a b sound.lawful at.1 at'.1 low shares)
    (λ high. flipped b.drv a.drv
    (twin_before _ _ _ _ b a sound.lawful at'.1 at.1 high
    (shares.1, shares.0, shares.3, shares.2, sym shares.4))) differs)
    (either_side _ _)

-- ---- what twins share

some_element : (outputs : List Output) → (outputs ≡ [] → ⊥) → (o : Output) × Contains outputs o
some_element [] some = absurd (some refl)
some_element (o ∷ os) some = (o, Contains-first o _)

-- a derivation with outputs of a kind has one
pub some_output : (drv : Drv) (kind : Kind) → HasKind drv kind → (o : Output)
    × Contains drv.outputs o
some_output drv Addressed has = some_element _ has.0
some_output drv (Fixed method digest) has = search (rules, Contains-first)

-- twins of which one has an output share it
shared : (a b : Drv) (o : Output) → AreTwins a b → Contains a.outputs o → ShareOutput a b
shared a b o twins has =
    let there : Contains (output_paths_of b) o.path =
    (twins o.path).0 (Contains-map (λ (p : Output). p.path) _ o has) in
    let theirs = Contains-from_map (λ (p : Output). p.path) _ _ there in
    (o, theirs.0, has, theirs.1, sym theirs.2)

pub twins_share_outputs : TwinsShareOutputs
twins_share_outputs graph a b sound has has' twins =
    let at = get_from_contains _ a has in
    let lawful = lawful_at _ _ _ a sound.lawful at.1 in
    let some = some_output a.drv lawful.kind lawful.right.check.0.has_kind in
    let once : (n : Node) → Contains graph.nodes n → AreDistinct (output_paths_of n.drv) =
    λ n among. All-contains (λ (m : Node). AreDistinct (output_paths_of m.drv)) _ n
    sound.own_outputs among in
    let long : length (output_paths_of a.drv) ≡ length (output_paths_of b.drv) =
    as_long _ _ (once a has) (once b has') twins in (
      shared a.drv b.drv _ twins some.1,
      sym (length-map a.drv.outputs (λ (o : Output). o.path)) ∙ long
          ∙ length-map b.drv.outputs (λ (o : Output). o.path),
    )

-- ---- the modulo hash of twins with one fixed output

only_one : (drv : Drv) (x y : Output) → drv.outputs ≡ x ∷ [] → drv.outputs ≡ y ∷ [] → x ≡ y
only_one drv x y is is' = search rules

-- the only output is fixed
only_fixed : (drv : Drv) (method : Method) (digest : Digest) (x : Output)
    → HasKind drv (Fixed method digest) → drv.outputs ≡ x ∷ [] → IsFixed x method digest
only_fixed drv method digest x has is = search (rules, only_one)

-- the only outputs of twins have one path
one_path : (a b : Drv) (x y : Output) → AreTwins a b → a.outputs ≡ x ∷ [] → b.outputs ≡ y ∷ []
    → x.path ≡ y.path
one_path a b x y twins is is' =
    let mine : Contains (output_paths_of a) x.path =
    subst (λ (os : List Output). Contains (output_paths_of (record a { outputs = os })) x.path)
    (sym is) (Contains-first _ []) in
    let theirs : Contains (y.path ∷ []) x.path =
    subst (λ (os : List Output). Contains (output_paths_of (record b { outputs = os })) x.path)
    is' ((twins x.path).0 mine) in
    ⊎_elim (λ same. sym same) (λ none. absurd (Contains-nothing _ none))
    (Contains-cons_cases _ [] x.path theirs)

pub fixed_twins_have_one_hash : FixedTwinsHaveOneHash
fixed_twins_have_one_hash method digest a b inputs others hash other is_a is_b twins
    (x, only, made) (y, only', made') =
    let fixed = only_fixed a _ _ x is_a only in
    let fixed' = only_fixed b _ _ y is_b only' in
    let algo : x.algo ≡ y.algo = fixed.0 ∙ sym fixed'.0 in
    let digits : x.hash ≡ y.hash = fixed.1 ∙ sym fixed'.1 in
    let path : x.path ≡ y.path = one_path a b x y twins only only' in
    let text : fixed_text x ≡ fixed_text y = cc in
    made ∙ ap sha256 text ∙ sym made'
