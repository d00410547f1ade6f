-- The plan of the three derivations is what loading gives from their files.
use Rattle.std.proofs.Common.{◌≡◌, ◌<◌, ◌≤◌, ℕ, List, [], ◌∷◌, length, refl, sym, ⊎_elim, arith, rules}
use Rattle.std.specs.Prelude.{Contains, codes}
use Rattle.std.proofs.lemmas.List.{length-append}
use Rattle.std.specs.Cmp.Lexicographic.{nat_list_eq_equiv}
use Rattle.hex.specs.Hex.{encode_with}
use Rattle.sha2.specs.Sha256.{compress, digest_bytes, first_words, hash_after, rounds, schedule, sha256}
use Rattle.nix_names.specs.Digests.{digits_of}
use Rattle.nix_names.proofs.Lists.{Contains-cons_cases, Contains-first, Contains-later, Contains-nothing}
use Rattle.nix_drv.specs.Derivation.{derivation_form, drv_value}
use Rattle.nix_drv.specs.Grammar.{text}
use Rattle.nix_drv.specs.Order.{KeysRise}
use Rattle.nix_drv.specs.Sources.{listing_gives}
use Rattle.nix_drv.specs.Strings.{spelling}
use Rattle.drv_graph.specs.Nodes.{Node, inputs_of}
use Rattle.drv_graph.specs.Plans.{AreLeft, IsPlan, MayBeAt, left_after_inputs, none_left}
use Rattle.drv_graph.proofs.PathLists.{other_path}
use Rattle.store_run.specs.ScheduleExample.{right, text_of}
use Rattle.store_run.specs.TwinExample.{empty_digest, failing_twin, first_twin, making_twin, out_empty, second_twin, three, three_files}
use Rattle.store_run.proofs.AlonePlans.{drv_with, one_of, store}
use Rattle.store_run.proofs.ExampleLoads.{found_with, in_order_by, reached_root, right_found, spelling_few}
use Rattle.store_run.proofs.TwinPlans.{all_three, lawful_three, other_file, twin_file, output_short, twins_differ, src_filed}

-- ---- the texts

abbrev hash : List ℕ
hash = digits_of empty_digest

hash_short : length hash < 1000
unfolding first_words schedule rounds compress hash_after digest_bytes sha256 encode_with
hash_short = omega arith

first_few : (out hash : List ℕ) → length out < 1000 → length hash < 1000
    → length (text_of (drv_with failing_twin out (codes "sha256") hash)) ≤ 4194304
unfolding text spelling
first_few out hash few few' = search (rules, length-append, spelling_few, hash)

second_few : (out hash : List ℕ) → length out < 1000 → length hash < 1000
    → length (text_of (drv_with making_twin out (codes "sha256") hash)) ≤ 4194304
unfolding text spelling
second_few out hash few few' = search (rules, length-append, spelling_few, hash)

first_keys : (out hash : List ℕ)
    → KeysRise derivation_form (drv_value (drv_with failing_twin out (codes "sha256") hash))
unfolding KeysRise
first_keys out hash = search rules

second_keys : (out hash : List ℕ)
    → KeysRise derivation_form (drv_value (drv_with making_twin out (codes "sha256") hash))
unfolding KeysRise
second_keys out hash = search rules

-- ---- each stands at its own path

first_stands : MayBeAt store (listing_gives three_files) first_twin.path first_twin.drv
first_stands = record {
  bytes = text_of first_twin.drv;
  given = rw (nat_list_eq_equiv.refl first_twin.path) refl;
  found = found_with _ _ _ _ src_filed
      (twin_file failing_twin refl)
      (first_few _ _ output_short hash_short)
      (in_order_by first_twin.drv (first_keys (out_empty (codes "src")) hash));
}

second_stands : MayBeAt store (listing_gives three_files) second_twin.path second_twin.drv
second_stands = record {
  bytes = text_of second_twin.drv;
  given = rw (
    other_path _ _ (λ same. twins_differ (sym same)),
    nat_list_eq_equiv.refl second_twin.path,
  ) refl;
  found = found_with _ _ _ _ src_filed
      (twin_file making_twin refl)
      (second_few (out_empty (codes "src")) hash output_short hash_short)
      (in_order_by second_twin.drv (second_keys (out_empty (codes "src")) hash));
}

right_stands : MayBeAt store (listing_gives three_files) right.path right.drv
right_stands = record {
  bytes = text_of right.drv;
  given = rw (
    other_path right.path first_twin.path (λ same. other_file failing_twin refl (sym same)),
    other_path _ _ (λ same. other_file making_twin refl (sym same)),
    nat_list_eq_equiv.refl right.path,
  ) refl;
  found = right_found;
}

-- ---- plan order

abbrev roots : List (List ℕ)
roots = first_twin.path ∷ second_twin.path ∷ right.path ∷ []

without_inputs : (n : Node) → Contains three.graph.nodes n → inputs_of n.drv ≡ []
without_inputs n has = search (rules, one_of, Contains-cons_cases)

second_not_left : Contains (first_twin.path ∷ []) second_twin.path → ⊥
second_not_left has = search (rules, twins_differ, one_of)

right_not_left : Contains (first_twin.path ∷ second_twin.path ∷ []) right.path → ⊥
right_not_left has =
    ⊎_elim (λ is_first. other_file failing_twin refl is_first)
    (λ later. other_file making_twin refl (one_of second_twin.path right.path later))
    (Contains-cons_cases _ (second_twin.path ∷ []) _ has)

right_left : AreLeft three.graph.nodes (first_twin.path ∷ second_twin.path ∷ [])
    (right.path ∷ []) roots
right_left =
    left_after_inputs right (first_twin.path ∷ second_twin.path ∷ [])
    (first_twin.path ∷ second_twin.path ∷ []) [] roots
    (Contains-later _ (second_twin ∷ right ∷ []) _
    (Contains-later second_twin (right ∷ []) _ (Contains-first _ []))) right_not_left
    (none_left (first_twin.path ∷ second_twin.path ∷ [])) right_not_left (none_left roots)

in_order : AreLeft three.graph.nodes [] roots roots
in_order =
    left_after_inputs first_twin [] [] (second_twin.path ∷ right.path ∷ []) roots
    (Contains-first _ (second_twin ∷ right ∷ []))
    (Contains-nothing _) (none_left []) (Contains-nothing _)
    (left_after_inputs second_twin (first_twin.path ∷ []) (first_twin.path ∷ [])
    (right.path ∷ []) roots
    (Contains-later _ (second_twin ∷ right ∷ []) _
    (Contains-first _ (right ∷ []))) second_not_left
    (none_left (first_twin.path ∷ [])) second_not_left right_left)

pub loads : IsPlan store (listing_gives three_files) roots three.graph
loads = record {
  given = all_three (λ (n : Node). MayBeAt store (listing_gives three_files) n.path n.drv)
      _ _ _ first_stands second_stands right_stands;
  in_order = in_order;
  reached = λ path has. record { root = path; is_root = has; steps = []; leads = refl };
  whole = reached_root _ without_inputs roots;
  lawful = lawful_three;
  few = omega arith;
  is_roots = rw (
    other_path _ _ twins_differ,
    other_path second_twin.path right.path (other_file making_twin refl),
    other_path first_twin.path right.path (other_file failing_twin refl),
  ) refl;
}
