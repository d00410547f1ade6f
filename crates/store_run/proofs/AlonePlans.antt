-- The plan of two derivations without inputs is sound.
use Rattle.std.proofs.Common.{◌≡◌, ◌<◌, ◌∙◌, ℕ, zero, suc, true, List, [], ◌∷◌, ◌++◌, length, Ok, refl, sym, ap, subst, ◌⊎◌, inl, arith, rules}
use Rattle.std.specs.Prelude.{All, Contains, codes, ◌-◌, take}
use Rattle.std.specs.List.{IsDistinct}
use Rattle.std.proofs.lemmas.List.{length-append}
use Rattle.std.proofs.lemmas.List.Elements.{All-cons, All-nil}
use Rattle.nix_names.specs.Names.{is_dotted, is_name, is_name_char}
use Rattle.nix_names.specs.StorePaths.{IsDrvPath, name_of, path_text, store_path}
use Rattle.nix_names.proofs.Lists.{All-from_contains, Contains-cons_cases, Contains-nothing}
use Rattle.nix_names.proofs.PathDigests.{hash_part_of_fold}
use Rattle.nix_names.proofs.PathTexts.{hash_part_len, name_of_path}
use Rattle.nix_drv.specs.Derivation.{Drv, EnvEntry, Output}
use Rattle.nix_drv.specs.OwnPath.{text_path}
use Rattle.drv_graph.specs.Expected.{IsExpected}
use Rattle.drv_graph.specs.Kinds.{HasKind, Takes}
use Rattle.drv_graph.specs.Loading.{AreDistinct}
use Rattle.drv_graph.specs.Modulo.{IsModuloText}
use Rattle.drv_graph.specs.Nodes.{Node, no_hashes}
use Rattle.drv_graph.specs.Outputs.{AreSound, HasOtherEntry, IsKnownUse, IsOutputsCheck, IsThePath, IsWellNamed, PathsFit}
use Rattle.drv_graph.specs.PlanNodes.{output_paths_of}
use Rattle.drv_graph.specs.Plans.{AreLawful, AreTwins, IsLawful, ShareOutput}
use Rattle.drv_graph.specs.SoundGraphs.{IsSound}
use Rattle.drv_graph.specs.declared.kinds.Kind.{Kind}
use Rattle.drv_graph.specs.declared.kinds.Kind.TheVariants.{Addressed}
use Rattle.drv_graph.specs.declared.profile.Profile.TheVariants.{Plain}
use Rattle.drv_graph.proofs.OneText.{one_path}
use Rattle.drv_graph.proofs.PathLists.{other_path}
use Rattle.store_run.specs.ScheduleExample.{Recipe, both, drv_alone, failing, left, making, node_alone, out_alone, right, text_of}

abbrev pub store : List ℕ
store = codes "/nix/store"

pub one_of : {X : Type 0} (x y : X) → Contains (x ∷ []) y → x ≡ y
one_of x y has = search (rules, Contains-nothing, Contains-cons_cases)

pub all_one : {X : Type 0} (P : X → Type 0) (x : X) → P x → All P (x ∷ [])
all_one P x is = All-cons P x [] is (All-nil P)

pub all_two : {X : Type 0} (P : X → Type 0) (x y : X) → P x → P y → All P (x ∷ y ∷ [])
all_two P x y first second = All-cons P x (y ∷ []) first (all_one P y second)

-- a store path has its name
pub named_path : (kind inner name : List ℕ) → is_name name ≡ true
    → name_of (store_path kind inner store name) ≡ name
unfolding store_path
named_path kind inner name named = name_of_path store _ name (hash_part_of_fold _) named

pub text_named : (name bytes : List ℕ) → is_name name ≡ true
    → name_of (text_path store name bytes []) ≡ name
unfolding text_path
text_named name bytes named = search (rules, named_path)

-- an output's path isn't long
pub path_short : (hash name : List ℕ) → length hash ≡ 32 → length name < 256
    → length (path_text store hash name) < 1000
path_short hash name long short = search (rules, length-append, store)

pub out_short : (recipe : Recipe) → length recipe.name < 256 → length (out_alone recipe) < 1000
unfolding store_path
out_short recipe short = path_short _ _ (hash_part_len _ (hash_part_of_fold _)) short

-- ---- one derivation with one output

module _ (recipe : Recipe) (out algo hash : List ℕ) where
  abbrev pub output : Output
  output = record { name = codes "out"; path = out; algo = algo; hash = hash }

  abbrev pub drv_with : Drv
  drv_with = record (drv_alone recipe out) { outputs = output ∷ [] }

  abbrev pub node_with : Node
  node_with = record {
    path = text_path store (recipe.name ++ codes ".drv") (text_of drv_with) [];
    drv = drv_with;
  }

  -- the entry of its environment under the output's name is the output's path
  pub env_value : (entry : EnvEntry) → Contains drv_with.env entry → entry.key ≡ codes "out"
      → entry.value ≡ out
  env_value entry (zero, low, is) key = search rules
  env_value entry (suc zero, low, is) key = search rules
  env_value entry (suc (suc zero), low, is) key = search rules
  env_value entry (suc (suc (suc zero)), low, is) key = search rules
  env_value entry (suc (suc (suc (suc k))), low, is) key = absurd (omega arith)

  out_is_name : is_name (codes "out") ≡ true
  unfolding is_name is_name_char is_dotted
  out_is_name = refl

  -- where the output is of a kind that is taken, and its path is the expected one
  module _ (kind : Kind) (has_kind : HasKind drv_with kind) (taken : Takes Plain kind)
      (expected : IsExpected store recipe.name kind drv_with [] output out) where
    abbrev Expected : Output → List ℕ → Type 0
    Expected = IsExpected store recipe.name kind drv_with []

    expected_at : (o : Output) → Contains drv_with.outputs o → Expected o out
    expected_at o has = search (rules, one_of, output)

    none_other : (o : Output) → Contains drv_with.outputs o
        → HasOtherEntry IsThePath Expected drv_with o → ⊥
    none_other o has (entry, path, among, key, is, unfit) =
        search (rules, one_of, output, env_value, one_path, store, drv_with, expected_at)

    check_with : is_name recipe.name ≡ true
        → IsOutputsCheck IsThePath Plain store recipe.name drv_with [] [] (Ok kind)
    check_with named =
        let fit : PathsFit IsThePath Expected drv_with =
        All-from_contains (λ (o : Output). (path : List ℕ) × Expected o path × (o.path ≡ path))
        drv_with.outputs (λ o has. (
          out,
          expected_at o has,
          sym (ap (λ (p : Output). p.path) (one_of _ o has)),
        )) in
        let sound : AreSound Plain recipe.name drv_with [] kind = record {
          has_kind = has_kind;
          taken = taken;
          named = all_one (IsWellNamed recipe.name) output (out_is_name, named);
          known = All-nil IsKnownUse;
        } in (
          sound,
          fit,
          All-from_contains (λ (o : Output). HasOtherEntry IsThePath Expected drv_with o → ⊥)
              drv_with.outputs none_other,
        )

    pub lawful_with : (before : List Node) → is_name (recipe.name ++ codes ".drv") ≡ true
        → is_name recipe.name ≡ true
        → take (length (recipe.name ++ codes ".drv") - 4) (recipe.name ++ codes ".drv")
        ≡ recipe.name
        → ((earlier : Node) → Contains before earlier
        → (ShareOutput earlier.drv drv_with → ⊥) ⊎ AreTwins earlier.drv drv_with)
        → IsLawful Plain store before node_with
    lawful_with before filed named cut apart = record {
      kind = kind;
      right = record {
        used = [];
        hashes = [];
        are_used = tt;
        are_hashes = no_hashes;
        check = subst
            (λ (n : List ℕ). IsOutputsCheck IsThePath Plain store n drv_with [] [] (Ok kind))
            (sym (ap (λ (n : List ℕ). take (length n - 4) n)
            (text_named _ _ filed) ∙ cut))
            (check_with named);
      };
      apart = apart;
    }

-- ---- one that says nothing of its output

module _ (recipe : Recipe) where
  abbrev drv : Drv
  drv = drv_alone recipe (out_alone recipe)

  pub kind_alone : HasKind drv Addressed
  kind_alone = search (rules, all_one)

  -- its output's path is the expected one
  expected_alone : IsExpected store recipe.name Addressed drv []
      (output recipe (out_alone recipe) [] []) (out_alone recipe)
  expected_alone = (text_of (drv_alone recipe []), modulo, refl)
    where
      modulo : IsModuloText drv [] true (text_of (drv_alone recipe []))
      modulo = search (rules, All-nil)

  pub node_name : is_name (recipe.name ++ codes ".drv") ≡ true
      → name_of (node_alone recipe).path ≡ recipe.name ++ codes ".drv"
  node_name filed = search (rules, text_named, drv)

  pub lawful_alone : (before : List Node) → is_name (recipe.name ++ codes ".drv") ≡ true
      → is_name recipe.name ≡ true
      → take (length (recipe.name ++ codes ".drv") - 4) (recipe.name ++ codes ".drv")
      ≡ recipe.name
      → ((earlier : Node) → Contains before earlier → ShareOutput earlier.drv drv → ⊥)
      → IsLawful Plain store before (node_alone recipe)
  lawful_alone before filed named cut alone =
      lawful_with _ (out_alone recipe) [] [] Addressed kind_alone tt expected_alone before filed
      named cut (λ earlier has. inl (alone earlier has))

-- ---- the two

left_named : is_name (codes "left") ≡ true
unfolding is_name is_name_char is_dotted
left_named = refl

pub left_filed : is_name (codes "left.drv") ≡ true
unfolding is_name is_name_char is_dotted
left_filed = refl

pub right_named : is_name (codes "right") ≡ true
unfolding is_name is_name_char is_dotted
right_named = refl

pub right_filed : is_name (codes "right.drv") ≡ true
unfolding is_name is_name_char is_dotted
right_filed = refl

-- where two of them share an output, they have one name
shared_name : (one other : Recipe) → is_name one.name ≡ true → is_name other.name ≡ true
    → ShareOutput (node_alone one).drv (node_alone other).drv → one.name ≡ other.name
shared_name one other named named' (x, y, of_x, of_y, same) =
    let outs : out_alone one ≡ out_alone other =
    ap (λ (p : Output). p.path) (one_of _ x of_x) ∙ same
    ∙ sym (ap (λ (p : Output). p.path) (one_of _ y of_y)) in
    sym (named_path _ _ _ named)
    ∙ ap name_of outs
    ∙ named_path _ _ _ named'

pub outputs_differ : ShareOutput left.drv right.drv → ⊥
outputs_differ share =
    let names : codes "left" ≡ codes "right" = shared_name _ _ left_named right_named share in cc

pub files_differ : left.path ≡ right.path → ⊥
files_differ same =
    let names : codes "left.drv" ≡ codes "right.drv" =
    sym (node_name failing left_filed) ∙ ap name_of same ∙ node_name making right_filed in
    cc

lawful_left : IsLawful Plain store [] left
lawful_left = search (rules, lawful_alone, left_filed, left_named, Contains-nothing)

lawful_right : IsLawful Plain store (left ∷ []) right
lawful_right =
    lawful_alone _ (left ∷ []) right_filed right_named refl
    (λ earlier has share. outputs_differ
    (subst (λ (n : Node). ShareOutput n.drv right.drv) (sym (one_of _ _ has)) share))

pub lawful_both : AreLawful Plain store both.graph.nodes
lawful_both [] after node parts = search (rules, store, lawful_left)
lawful_both (x ∷ []) after node parts = search (rules, store, lawful_right)
lawful_both (x ∷ y ∷ []) after node parts = absurd cc
lawful_both (x ∷ y ∷ z ∷ before) after node parts = absurd cc

pub left_file : IsDrvPath left.path
left_file = search (rules, node_name, left_filed)

pub right_file : IsDrvPath right.path
right_file = search (rules, node_name, right_filed)

pub both_sound : IsSound both.graph
unfolding IsDistinct
both_sound = record {
  dir = store;
  lawful = lawful_both;
  few = omega arith;
  distinct = ((other_path _ _ files_differ, tt), (tt, tt));
  roots_within = all_two (λ root. root < 2) 0 1 (omega arith) (omega arith);
  roots_once = ((refl, tt), (tt, tt));
  named = all_two (λ (n : Node). IsDrvPath n.path) _ _ left_file right_file;
  own_outputs = all_two (λ (n : Node). AreDistinct (output_paths_of n.drv)) _ _ (tt, tt)
      (tt, tt);
}
