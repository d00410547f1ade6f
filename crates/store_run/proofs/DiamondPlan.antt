-- The plan of the diamond is sound. It has no twins, and no sources.
use Rattle.std.proofs.Common.{◌≡◌, ◌∙◌, inl, ◌<◌, ℕ, zero, suc, true, List, [], ◌∷◌, Some, Ok, refl, sym, ap, subst, ⊎_elim, arith, rules}
use Rattle.std.specs.Prelude.{All, Contains, codes, slice_get}
use Rattle.std.specs.List.{IsDistinct}
use Rattle.std.proofs.lemmas.List.Elements.{All-cons, All-nil}
use Rattle.hex.specs.Hex.{encode_with}
use Rattle.sha2.specs.Sha256.{compress, digest_bytes, first_words, hash_after, rounds, schedule, sha256}
use Rattle.nix_names.specs.Base32.{base32}
use Rattle.nix_names.specs.Digests.{digits_of}
use Rattle.nix_names.specs.Names.{is_dotted, is_name, is_name_char}
use Rattle.nix_names.specs.StorePaths.{IsDrvPath, fingerprint, fold, store_path}
use Rattle.nix_names.proofs.Lists.{Contains-cons_cases, Contains-first, Contains-later, Contains-nothing, get_from_contains}
use Rattle.nix_names.proofs.RisingLists.{unequal_from_eq}
use Rattle.nix_drv.specs.Derivation.{Drv, Input, Output}
use Rattle.drv_graph.specs.Expected.{IsExpected, drv_name_of}
use Rattle.drv_graph.specs.Kinds.{HasKind}
use Rattle.drv_graph.specs.Loading.{AreDistinct}
use Rattle.drv_graph.specs.Nodes.{AreHashes, Node, fixed_text, inputs_of, no_hashes, one_more_hash}
use Rattle.drv_graph.specs.Outputs.{HasOtherEntry, IsKnownUse, IsOutputsCheck, IsThePath, IsWellNamed, uses}
use Rattle.drv_graph.specs.PlanNodes.{output_paths_of}
use Rattle.drv_graph.specs.Plans.{AreDrvsOf, AreLawful, IsLawful, ShareOutput}
use Rattle.drv_graph.specs.SoundGraphs.{IsSound}
use Rattle.drv_graph.specs.declared.profile.Profile.TheVariants.{Plain}
use Rattle.store_run.specs.DiamondExample.{base, base_out, diamond, drv_of, left, left_out, right, right_out, top, top_out}
use Rattle.store_run.specs.Interruptions.{HasForeignSources, HasNoTwins}
use Rattle.store_run.specs.ScheduleExample.{Recipe}
use Rattle.store_run.specs.TwinExample.{empty_digest, out_empty, script}
use Rattle.store_run.proofs.AlonePlans.{all_one, all_two, env_value, one_of, store}
use Rattle.store_run.proofs.TwinPlans.{all_three, empty_kind, is_digest}

-- ---- names and output paths

base_named : is_name (codes "base") ≡ true
unfolding is_name is_name_char is_dotted
base_named = refl

left_named : is_name (codes "left") ≡ true
unfolding is_name is_name_char is_dotted
left_named = refl

right_named : is_name (codes "right") ≡ true
unfolding is_name is_name_char is_dotted
right_named = refl

top_named : is_name (codes "top") ≡ true
unfolding is_name is_name_char is_dotted
top_named = refl

out_named : is_name (codes "out") ≡ true
unfolding is_name is_name_char is_dotted
out_named = refl

base_is : out_empty (codes "base") ≡ base_out
unfolding first_words schedule rounds compress hash_after digest_bytes sha256 encode_with base32
    fingerprint fold store_path
base_is = refl

left_is : out_empty (codes "left") ≡ left_out
unfolding first_words schedule rounds compress hash_after digest_bytes sha256 encode_with base32
    fingerprint fold store_path
left_is = refl

right_is : out_empty (codes "right") ≡ right_out
unfolding first_words schedule rounds compress hash_after digest_bytes sha256 encode_with base32
    fingerprint fold store_path
right_is = refl

top_is : out_empty (codes "top") ≡ top_out
unfolding first_words schedule rounds compress hash_after digest_bytes sha256 encode_with base32
    fingerprint fold store_path
top_is = refl

-- the output with this number
abbrev pub out_at : ℕ → List ℕ
out_at zero = base_out
out_at (suc zero) = left_out
out_at (suc (suc zero)) = right_out
out_at (suc (suc (suc d))) = top_out

pub base_left : base_out ≡ left_out → ⊥
base_left same = unequal_from_eq base_out left_out refl same

pub base_right : base_out ≡ right_out → ⊥
base_right same = unequal_from_eq base_out right_out refl same

pub base_top : base_out ≡ top_out → ⊥
base_top same = unequal_from_eq base_out top_out refl same

pub left_right : left_out ≡ right_out → ⊥
left_right same = unequal_from_eq left_out right_out refl same

pub left_top : left_out ≡ top_out → ⊥
left_top same = unequal_from_eq left_out top_out refl same

pub right_top : right_out ≡ top_out → ⊥
right_top same = unequal_from_eq right_out top_out refl same

-- ---- one derivation

-- how each of them is built
abbrev pub recipe_of : (name : List ℕ) → Recipe
recipe_of name = record {
  name = name;
  builder = codes "/bin/sh";
  args = codes "-c" ∷ script ∷ [];
}

abbrev file_at : (out : List ℕ) → Output
file_at out = record {
  name = codes "out";
  path = out;
  algo = codes "sha256";
  hash = digits_of empty_digest;
}

pub kind_of : (name out : List ℕ) (inputs : List Input)
    → HasKind (drv_of name out inputs) empty_kind
kind_of name out inputs = (file_at out, (refl, refl), (refl, refl, is_digest))

module _ (name out : List ℕ) (inputs : List Input) (expected : out_empty name ≡ out) where
  abbrev drv : Drv
  drv = drv_of name out inputs

  none_other : (hashes : List (List ℕ))
      → HasOtherEntry IsThePath (IsExpected store name empty_kind drv hashes) drv (file_at out) → ⊥
  none_other hashes (entry, path, among, key, is, unfit) =
      unfit
      (env_value (recipe_of name) out (codes "sha256") (digits_of empty_digest) entry among key
      ∙ sym expected ∙ sym is)

  check_of : (used : List Drv) (hashes : List (List ℕ)) → is_name name ≡ true
      → All IsKnownUse (uses inputs used)
      → IsOutputsCheck IsThePath Plain store name drv used hashes (Ok empty_kind)
  check_of used hashes named known = (
    record {
      has_kind = kind_of name out inputs;
      taken = tt;
      named = all_one (IsWellNamed name) (file_at out) (out_named, named);
      known = known;
    },
    all_one (λ (o : Output). (path : List ℕ)
        × IsExpected store name empty_kind drv hashes o path × (o.path ≡ path)) (file_at out)
        (out, sym expected, refl),
    all_one (λ (o : Output). HasOtherEntry IsThePath
        (IsExpected store name empty_kind drv hashes) drv o → ⊥) (file_at out) (none_other hashes),
  )

  lawful_of : (path : List ℕ) (before : List Node) (used : List Drv) (hashes : List (List ℕ))
      → is_name name ≡ true → drv_name_of path ≡ name → AreDrvsOf before (inputs_of drv) used
      → AreHashes before (inputs_of drv) hashes → All IsKnownUse (uses inputs used)
      → ((earlier : Node) → Contains before earlier → ShareOutput earlier.drv drv → ⊥)
      → IsLawful Plain store before (record { path = path; drv = drv })
  lawful_of path before used hashes named filed are_used are_hashes known alone = record {
    kind = empty_kind;
    right = record {
      used = used;
      hashes = hashes;
      are_used = are_used;
      are_hashes = are_hashes;
      check = subst (λ (n : List ℕ). IsOutputsCheck IsThePath Plain store n drv used hashes
          (Ok empty_kind)) (sym filed) (check_of used hashes named known);
    };
    apart = λ earlier has. inl (alone earlier has);
  }

-- two of different paths share none
share_none : (name other out there : List ℕ) (inputs others : List Input) → (out ≡ there → ⊥)
    → ShareOutput (drv_of name out inputs) (drv_of other there others) → ⊥
share_none name other out there inputs others differ (x, y, of_x, of_y, same) =
    let path_in : Output → List ℕ = λ o. o.path in
    differ
    (ap path_in (one_of (file_at out) x of_x) ∙ same
    ∙ sym (ap path_in (one_of (file_at there) y of_y)))

-- ---- the four

abbrev hash_of : (out : List ℕ) → List ℕ
hash_of out = sha256 (fixed_text (file_at out))

base_hash : (before : List Node) → Contains before base
    → AreHashes before (base.path ∷ []) (hash_of base_out ∷ [])
base_hash before has =
    one_more_hash base empty_kind [] (hash_of base_out) [] [] has
    (kind_of (codes "base") base_out []) no_hashes (file_at base_out, refl, refl) no_hashes

lawful_base : IsLawful Plain store [] base
lawful_base =
    lawful_of (codes "base") base_out [] base_is base.path [] [] [] base_named refl tt no_hashes
    (All-nil IsKnownUse) (λ earlier has share. Contains-nothing earlier has)

lawful_left : IsLawful Plain store (base ∷ []) left
lawful_left =
    lawful_of (codes "left") left_out left.drv.inputs left_is left.path (base ∷ []) (base.drv ∷ [])
    (hash_of base_out ∷ []) left_named refl (Contains-first base [], tt)
    (base_hash (base ∷ []) (Contains-first base []))
    (all_one IsKnownUse _ (Contains-first (codes "out") []))
    (λ earlier has share. share_none (codes "base") (codes "left") base_out left_out []
    left.drv.inputs base_left
    (subst (λ (n : Node). ShareOutput n.drv left.drv) (sym (one_of base earlier has)) share))

lawful_right : IsLawful Plain store (base ∷ left ∷ []) right
lawful_right =
    lawful_of (codes "right") right_out right.drv.inputs right_is right.path (base ∷ left ∷ [])
    (base.drv ∷ []) (hash_of base_out ∷ []) right_named refl (Contains-first base (left ∷ []), tt)
    (base_hash (base ∷ left ∷ []) (Contains-first base (left ∷ [])))
    (all_one IsKnownUse _ (Contains-first (codes "out") []))
    (λ earlier has share. ⊎_elim
    (λ is. share_none (codes "base") (codes "right") base_out right_out [] right.drv.inputs
    base_right
    (subst (λ (n : Node). ShareOutput n.drv right.drv) (sym is) share))
    (λ later. share_none (codes "left") (codes "right") left_out right_out left.drv.inputs
    right.drv.inputs left_right
    (subst (λ (n : Node). ShareOutput n.drv right.drv) (sym (one_of left earlier later)) share))
    (Contains-cons_cases base (left ∷ []) earlier has))

three_hashes : AreHashes (base ∷ left ∷ right ∷ []) (left.path ∷ right.path ∷ [])
    (hash_of left_out ∷ hash_of right_out ∷ [])
three_hashes =
    let nodes = base ∷ left ∷ right ∷ [] in
    let of_base = base_hash nodes (Contains-first base (left ∷ right ∷ [])) in
    one_more_hash left empty_kind (hash_of base_out ∷ []) (hash_of left_out) (right.path ∷ [])
    (hash_of right_out ∷ [])
    (Contains-later base (left ∷ right ∷ []) left (Contains-first left (right ∷ [])))
    (kind_of (codes "left") left_out left.drv.inputs) of_base (file_at left_out, refl, refl)
    (one_more_hash right empty_kind (hash_of base_out ∷ []) (hash_of right_out) [] []
    (Contains-later base (left ∷ right ∷ []) right
    (Contains-later left (right ∷ []) right (Contains-first right [])))
    (kind_of (codes "right") right_out right.drv.inputs) of_base
    (file_at right_out, refl, refl) no_hashes)

top_apart : (earlier : Node) → Contains (base ∷ left ∷ right ∷ []) earlier
    → ShareOutput earlier.drv top.drv → ⊥
top_apart earlier has share =
    ⊎_elim
    (λ is. share_none (codes "base") (codes "top") base_out top_out [] top.drv.inputs base_top
    (subst (λ (n : Node). ShareOutput n.drv top.drv) (sym is) share))
    (λ rest. ⊎_elim
    (λ is. share_none (codes "left") (codes "top") left_out top_out left.drv.inputs top.drv.inputs
    left_top
    (subst (λ (n : Node). ShareOutput n.drv top.drv) (sym is) share))
    (λ last. share_none (codes "right") (codes "top") right_out top_out right.drv.inputs
    top.drv.inputs right_top
    (subst (λ (n : Node). ShareOutput n.drv top.drv) (sym (one_of right earlier last)) share))
    (Contains-cons_cases left (right ∷ []) earlier rest))
    (Contains-cons_cases base (left ∷ right ∷ []) earlier has)

lawful_top : IsLawful Plain store (base ∷ left ∷ right ∷ []) top
lawful_top =
    lawful_of (codes "top") top_out top.drv.inputs top_is top.path (base ∷ left ∷ right ∷ [])
    (left.drv ∷ right.drv ∷ []) (hash_of left_out ∷ hash_of right_out ∷ []) top_named refl (
      Contains-later base (left ∷ right ∷ []) left (Contains-first left (right ∷ [])),
      (
        Contains-later base (left ∷ right ∷ []) right
            (Contains-later left (right ∷ []) right (Contains-first right [])),
        tt,
      ),
    )
    three_hashes
    (all_two IsKnownUse _ _ (Contains-first (codes "out") []) (Contains-first (codes "out") []))
    top_apart

lawful_four : AreLawful Plain store diamond.graph.nodes
lawful_four [] after node parts = search (rules, store, lawful_base)
lawful_four (x ∷ []) after node parts = search (rules, store, lawful_left)
lawful_four (x ∷ y ∷ []) after node parts = search (rules, store, lawful_right)
lawful_four (x ∷ y ∷ z ∷ []) after node parts = search (rules, store, lawful_top)
lawful_four (x ∷ y ∷ z ∷ w ∷ []) after node parts = absurd cc
lawful_four (x ∷ y ∷ z ∷ w ∷ v ∷ before) after node parts = absurd cc

-- ---- the plan

all_four : {X : Type 0} (P : X → Type 0) (x y z w : X) → P x → P y → P z → P w
    → All P (x ∷ y ∷ z ∷ w ∷ [])
all_four P x y z w first second third fourth =
    All-cons P x (y ∷ z ∷ w ∷ []) first (all_three P y z w second third fourth)

pub diamond_sound : IsSound diamond.graph
unfolding IsDistinct
diamond_sound = record {
  dir = store;
  lawful = lawful_four;
  few = omega arith;
  distinct = (
    (refl, (refl, (refl, tt))),
    ((refl, (refl, tt)), ((refl, tt), (tt, tt))),
  );
  roots_within = all_one (λ root. root < 4) 3 (omega arith);
  roots_once = (tt, tt);
  named = all_four (λ (n : Node). IsDrvPath n.path) _ _ _ _ refl refl refl refl;
  own_outputs = all_four (λ (n : Node). AreDistinct (output_paths_of n.drv)) _ _ _ _ (tt, tt)
      (tt, tt) (tt, tt) (tt, tt);
}

pub same_node : (x y : Node) → ◌≡◌ {A = _} (Some x) (Some y) → x ≡ y
same_node x y is = cc

own_out : (d : ℕ) (a : Node) → slice_get diamond.graph.nodes d ≡ Some a
    → output_paths_of a.drv ≡ out_at d ∷ []
own_out zero a at = ap (λ (n : Node). output_paths_of n.drv) (sym (same_node base a at))
own_out (suc zero) a at = ap (λ (n : Node). output_paths_of n.drv) (sym (same_node left a at))
own_out (suc (suc zero)) a at =
    ap (λ (n : Node). output_paths_of n.drv) (sym (same_node right a at))
own_out (suc (suc (suc zero))) a at =
    ap (λ (n : Node). output_paths_of n.drv) (sym (same_node top a at))
own_out (suc (suc (suc (suc d)))) a at = absurd cc

own_sources : (d : ℕ) (a : Node) → slice_get diamond.graph.nodes d ≡ Some a → a.drv.sources ≡ []
own_sources zero a at = ap (λ (n : Node). n.drv.sources) (sym (same_node base a at))
own_sources (suc zero) a at = ap (λ (n : Node). n.drv.sources) (sym (same_node left a at))
own_sources (suc (suc zero)) a at = ap (λ (n : Node). n.drv.sources) (sym (same_node right a at))
own_sources (suc (suc (suc zero))) a at =
    ap (λ (n : Node). n.drv.sources) (sym (same_node top a at))
own_sources (suc (suc (suc (suc d)))) a at = absurd cc

same_out : (d e : ℕ) (a b : Node) → slice_get diamond.graph.nodes d ≡ Some a
    → slice_get diamond.graph.nodes e ≡ Some b → out_at d ≡ out_at e → d ≡ e
same_out zero zero a b at at' same = refl
same_out zero (suc zero) a b at at' same = absurd (base_left same)
same_out zero (suc (suc zero)) a b at at' same = absurd (base_right same)
same_out zero (suc (suc (suc e))) a b at at' same = absurd (base_top same)
same_out (suc zero) zero a b at at' same = absurd (base_left (sym same))
same_out (suc zero) (suc zero) a b at at' same = refl
same_out (suc zero) (suc (suc zero)) a b at at' same = absurd (left_right same)
same_out (suc zero) (suc (suc (suc e))) a b at at' same = absurd (left_top same)
same_out (suc (suc zero)) zero a b at at' same = absurd (base_right (sym same))
same_out (suc (suc zero)) (suc zero) a b at at' same = absurd (left_right (sym same))
same_out (suc (suc zero)) (suc (suc zero)) a b at at' same = refl
same_out (suc (suc zero)) (suc (suc (suc e))) a b at at' same = absurd (right_top same)
same_out (suc (suc (suc d))) zero a b at at' same = absurd (base_top (sym same))
same_out (suc (suc (suc d))) (suc zero) a b at at' same = absurd (left_top (sym same))
same_out (suc (suc (suc d))) (suc (suc zero)) a b at at' same = absurd (right_top (sym same))
same_out (suc (suc (suc zero))) (suc (suc (suc zero))) a b at at' same = refl
same_out (suc (suc (suc zero))) (suc (suc (suc (suc e)))) a b at at' same = absurd cc
same_out (suc (suc (suc (suc d)))) (suc (suc (suc e))) a b at at' same = absurd cc

pub no_twins : HasNoTwins diamond.graph
no_twins d e a b at at' twins =
    let own : Contains (output_paths_of a.drv) (out_at d) =
    subst (λ (l : List (List ℕ)). Contains l (out_at d)) (sym (own_out d a at))
    (Contains-first (out_at d) []) in
    let there : Contains (out_at e ∷ []) (out_at d) =
    subst (λ (l : List (List ℕ)). Contains l (out_at d)) (own_out e b at')
    ((twins (out_at d)).0 own) in
    same_out d e a b at at' (sym (one_of (out_at e) (out_at d) there))

pub foreign : HasForeignSources diamond.graph
foreign a b path has has' source own =
    let at = get_from_contains diamond.graph.nodes a has in
    Contains-nothing path
    (subst (λ (l : List (List ℕ)). Contains l path) (own_sources at.0 a at.1) source)
