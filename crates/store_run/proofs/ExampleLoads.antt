-- The plan of the two derivations is what loading gives from their files.
use Rattle.std.proofs.Common.{◌≡◌, ◌<◌, ◌≤◌, ◌*◌, ℕ, true, List, [], ◌∷◌, ◌++◌, length, flat_map, Option, Some, None, refl, sym, ap, subst, arith, rules}
use Rattle.std.specs.Prelude.{Contains, codes}
use Rattle.std.proofs.lemmas.List.{length-append}
use Rattle.std.specs.Cmp.Lexicographic.{nat_list_eq_equiv}
use Rattle.std.proofs.lemmas.List.Elements.{All-nil}
use Rattle.nix_names.specs.Names.{is_name}
use Rattle.nix_names.specs.StorePaths.{IsDrvPath, IsPathOf}
use Rattle.nix_names.proofs.Lists.{Contains-cons_cases, Contains-first, Contains-later, Contains-nothing}
use Rattle.nix_drv.specs.Checked.{IsFoundAt}
use Rattle.nix_drv.specs.Derivation.{Drv, derivation_form, drv_value}
use Rattle.nix_drv.specs.Grammar.{text}
use Rattle.nix_drv.specs.Order.{InOrder, KeysRise}
use Rattle.nix_drv.specs.Outcome.{max_len}
use Rattle.nix_drv.specs.OwnPath.{referenced_paths, text_path}
use Rattle.nix_drv.specs.Sources.{listing_gives}
use Rattle.nix_drv.specs.Strings.{spelled, spelling}
use Rattle.nix_drv.proofs.Rising.{order_means_rising}
use Rattle.drv_graph.specs.Nodes.{Node, inputs_of}
use Rattle.drv_graph.specs.Plans.{AreLeft, IsPlan, IsReachedBy, LeadsBy, MayBeAt, Uses, left_after_inputs, none_left}
use Rattle.drv_graph.proofs.PathLists.{other_path}
use Rattle.store_run.proofs.AlonePlans.{all_two, drv_with, files_differ, lawful_both, left_file, left_filed, node_with, one_of, out_short, right_file, right_filed, store, text_named}
use Rattle.store_run.specs.ScheduleExample.{Recipe, both, drv_alone, failing, left, making, out_alone, right, text_of, two_files}

spelled_few : (byte : ℕ) (escape : Option ℕ) → length (spelled byte escape) ≤ 2
spelled_few byte (Some escape) = omega arith
spelled_few byte None = omega arith

pub spelling_few : (bytes : List ℕ) → length (flat_map spelling bytes) ≤ 2 * length bytes
unfolding spelling
spelling_few [] = omega arith
spelling_few (b ∷ bs) = search (rules, length-append, flat_map, spelled_few, spelling_few bs)

left_few : (out : List ℕ) → length out < 1000 → length (text_of (drv_alone failing out)) ≤ 4194304
unfolding text spelling
left_few out few = simp length-append (omega (arith, few, spelling_few out))

right_few : (out : List ℕ) → length out < 1000 → length (text_of (drv_alone making out)) ≤ 4194304
unfolding text spelling
right_few out few = simp length-append (omega (arith, few, spelling_few out))

left_keys : (out : List ℕ) → KeysRise derivation_form (drv_value (drv_alone failing out))
unfolding KeysRise
left_keys out = search rules

right_keys : (out : List ℕ) → KeysRise derivation_form (drv_value (drv_alone making out))
unfolding KeysRise
right_keys out = search rules

-- lists that rise are in order
pub in_order_by : (drv : Drv) → KeysRise derivation_form (drv_value drv)
    → InOrder derivation_form (drv_value drv)
in_order_by drv = (order_means_rising _ _).1

-- a derivation with one output, and without inputs and sources, stands at its own path
module _ (recipe : Recipe) (out algo hash : List ℕ) where
  abbrev drv : Drv
  drv = drv_with recipe out algo hash

  abbrev path : List ℕ
  path = (node_with recipe out algo hash).path

  pub found_with : is_name (recipe.name ++ codes ".drv") ≡ true → IsDrvPath path
      → length (text_of drv) ≤ max_len → InOrder derivation_form (drv_value drv)
      → IsFoundAt store path (text_of drv) drv path
  unfolding referenced_paths
  found_with filed file few order = record {
    read = record {
      named = file;
      within = few;
      is_text = record { is_text = refl; in_order = order };
    };
    in_store = All-nil (IsPathOf store);
    own_path = record {
      refs = [];
      rising = tt;
      same = λ ref. (λ has. has, λ has. has);
      is_path = ap (λ (name : List ℕ). text_path store name (text_of drv) [])
          (sym (text_named _ (text_of drv) filed));
    };
  }

left_stands : MayBeAt store (listing_gives two_files) left.path left.drv
left_stands = record {
  bytes = text_of left.drv;
  given = rw (nat_list_eq_equiv.refl left.path) refl;
  found = found_with failing (out_alone failing) [] [] left_filed left_file
      (left_few _ (out_short _ (omega arith)))
      (in_order_by left.drv (left_keys (out_alone failing)));
}

pub right_found : IsFoundAt store right.path (text_of right.drv) right.drv right.path
right_found = found_with making (out_alone making) [] [] right_filed right_file
    (right_few _ (out_short making (omega arith)))
    (in_order_by right.drv (right_keys (out_alone making)))

right_stands : MayBeAt store (listing_gives two_files) right.path right.drv
right_stands = search (rules, other_path, files_differ, right_found)

-- ---- plan order

-- nodes without inputs reach no other nodes
module _ (nodes : List Node) (alone : (n : Node) → Contains nodes n → inputs_of n.drv ≡ []) where
  uses_none : (from next : List ℕ) → Uses nodes from next → ⊥
  uses_none from next uses = search (rules, Contains-nothing)

  pub reached_root : (roots : List (List ℕ)) (path : List ℕ) → IsReachedBy (Uses nodes) roots path
      → Contains roots path
  reached_root roots path reached = by reached.root reached.is_root reached.steps reached.leads
    where
      by : (root : List ℕ) → Contains roots root → (steps : List (List ℕ))
          → LeadsBy (Uses nodes) root path steps → Contains roots path
      by root is [] same = subst (Contains roots) same is
      by root is (next ∷ steps) leads = absurd (uses_none _ _ leads.0)

without_inputs : (n : Node) → Contains both.graph.nodes n → inputs_of n.drv ≡ []
without_inputs n has = search (rules, one_of, Contains-cons_cases)

in_order : AreLeft both.graph.nodes [] (left.path ∷ right.path ∷ []) (left.path ∷ right.path ∷ [])
in_order =
    left_after_inputs left [] [] (right.path ∷ []) (left.path ∷ right.path ∷ [])
    (Contains-first left (right ∷ [])) (Contains-nothing left.path) (none_left [])
    (Contains-nothing _)
    (left_after_inputs right (left.path ∷ []) (left.path ∷ []) [] (left.path ∷ right.path ∷ [])
    (Contains-later left (right ∷ []) right (Contains-first right [])) not_left
    (none_left (left.path ∷ [])) not_left (none_left (left.path ∷ right.path ∷ [])))
  where
    not_left : Contains (left.path ∷ []) right.path → ⊥
    not_left has = files_differ (one_of _ _ has)

pub loads : IsPlan store (listing_gives two_files) (left.path ∷ right.path ∷ []) both.graph
loads = record {
  given = all_two (λ (n : Node). MayBeAt store (listing_gives two_files) n.path n.drv) _ _
      left_stands right_stands;
  in_order = in_order;
  reached = λ path has. record { root = path; is_root = has; steps = []; leads = refl };
  whole = reached_root _ without_inputs (left.path ∷ right.path ∷ []);
  lawful = lawful_both;
  few = omega arith;
  is_roots = rw (other_path _ _ files_differ) refl;
}
