-- The nearest earlier twins, by the last wanted one of those that have the same first twin.
use Rattle.std.proofs.Common.{◌≡◌, ◌∙◌, ⊎_elim, ℕ, ◌+◌, ◌<◌, Bool, true, false, List, [], ◌∷◌, ◌++◌, length, replicate, Option, Some, None, refl, sym, ap, subst, arith, rules}
use Rattle.std.specs.Prelude.{◌==◌, ◌&&◌, All, Contains, cond, filter, slice_get}
use Rattle.std.specs.List.{range_with_len, slice_index_or}
use Rattle.std.proofs.Math.ListN.{get_or-append, length-append, length-set, set}
use Rattle.std.proofs.Math.Seq.{get_or-append_seam}
use Rattle.std.proofs.lemmas.Bool.{and_from, and_left, and_right, cases_eq, cases_lt, eq-eqb, ne_eqb}
use Rattle.std.proofs.lemmas.List.{append-nil, get_or-replicate, get_or-set_other, get_or-set_same, get_or_past, length-replicate}
use Rattle.std.proofs.lemmas.List.Elements.{All-contains, All-filter, All-nil, filter-append, filter_agree}
use Rattle.nix_names.proofs.Lists.{All-from_contains, Contains-later}
use Rattle.drv_graph.specs.Nodes.{Node}
use Rattle.drv_graph.specs.Plans.{Graph}
use Rattle.drv_graph.specs.SoundGraphs.{IsSound}
use Rattle.valid_table.specs.declared.entry.Entry.{Entry}
use Rattle.run_states.specs.StateTables.{AreNearest, AreWanted, listed}
use Rattle.run_states.specs.Nearest.{last_alone}
use Rattle.run_states.specs.Runs.{Run, earlier_twins, is_wanted}
use Rattle.drv_graph.specs.Twins.{are_twins_at, first_twin_of}
use Rattle.run_states.proofs.Tests.{range_below, range_more, same_test}
use Rattle.run_states.proofs.TwinLaws.{same_first}
use Rattle.run_states.proofs.Wanting.{wanted_told}
use Rattle.drv_graph.proofs.FirstTwins.{first_within}

-- ---- the last of a list

pub last_pushed : (ns : List ℕ) (n : ℕ) → last_alone (ns ++ n ∷ []) ≡ n ∷ []
last_pushed [] n = refl
last_pushed (a ∷ []) n = refl
last_pushed (a ∷ b ∷ more) n = last_pushed (b ∷ more) n

-- the last of some numbers is one of them
pub last_is_one : (ns : List ℕ) (n : ℕ) → Contains (last_alone ns) n → Contains ns n
last_is_one [] n has = has
last_is_one (a ∷ []) n has = has
last_is_one (a ∷ b ∷ more) n has =
    Contains-later a (b ∷ more) n (last_is_one (b ∷ more) n has)

-- ---- the wanted ones that have the same first twin

-- whether a derivation is wanted, and has this first twin
abbrev pub is_wanted_with : (nodes : List Node) → (wanted : List Bool) → (first t : ℕ) → Bool
is_wanted_with nodes wanted first t = slice_index_or wanted t false
    && (first_twin_of nodes t == first)

-- those of the first `count` derivations
abbrev pub wanted_with : (nodes : List Node) → (wanted : List Bool) → (first count : ℕ) → List ℕ
wanted_with nodes wanted first count = filter (is_wanted_with nodes wanted first)
    (range_with_len 0 count)

wanted_more : (nodes : List Node) (wanted : List Bool) (first d : ℕ)
    → wanted_with nodes wanted first (d + 1) ≡ wanted_with nodes wanted first d
    ++ cond (is_wanted_with nodes wanted first d) (d ∷ []) []
wanted_more nodes wanted first d = search (rules, is_wanted_with, nodes, range_more, filter-append)

-- one of them more is their last
last_with : (nodes : List Node) (wanted : List Bool) (first d : ℕ)
    → is_wanted_with nodes wanted first d ≡ true
    → last_alone (wanted_with nodes wanted first (d + 1)) ≡ d ∷ []
last_with nodes wanted first d is = search (rules, wanted_more, nodes, wanted_with, last_pushed)

-- another leaves them as they were
none_with : (nodes : List Node) (wanted : List Bool) (first d : ℕ)
    → is_wanted_with nodes wanted first d ≡ false
    → wanted_with nodes wanted first (d + 1) ≡ wanted_with nodes wanted first d
none_with nodes wanted first d is_not = search (rules, wanted_more, nodes, wanted_with, append-nil)

-- ---- what is known on the way

-- Of each number, the last wanted one of the first `count` that has it as its first twin.
pub record AreLast (nodes : List Node) (wanted : List Bool) (last : List (Option ℕ)) (count : ℕ)
    : Type 0 where
  pub size : length last ≡ length nodes
  pub each : (first : ℕ) → first < length nodes → listed (slice_index_or last first None)
      ≡ last_alone (wanted_with nodes wanted first count)

-- Of each of the first `count` derivations, the last wanted one before it with the same first twin.
pub record AreNear (nodes : List Node) (wanted : List Bool) (twins : List (Option ℕ)) (count : ℕ)
    : Type 0 where
  pub size : length twins ≡ count
  pub each : (d : ℕ) → d < count → listed (slice_index_or twins d None)
      ≡ last_alone (wanted_with nodes wanted (first_twin_of nodes d) d)

pub none_last : (nodes : List Node) (wanted : List Bool) (last : List (Option ℕ)) (n : ℕ)
    → n ≡ length nodes → last ≡ replicate n None → AreLast nodes wanted last 0
none_last nodes wanted last n all none = record {
  size = ap length none ∙ length-replicate n None ∙ all;
  each = λ first low.
      ap (λ l. listed (slice_index_or l first None)) none
      ∙ ap listed (get_or-replicate n first None None (omega (arith, low, all)));
}

pub none_near : (nodes : List Node) (wanted : List Bool) (twins : List (Option ℕ)) → twins ≡ []
    → AreNear nodes wanted twins 0
none_near nodes wanted twins none = record {
  size = ap length none;
  each = λ d low. absurd (omega (arith, low));
}

-- a derivation more has its twin
pub near_more : (nodes : List Node) (wanted : List Bool) (last twins : List (Option ℕ)) (d : ℕ)
    (twin : Option ℕ) → d < length nodes
    → twin ≡ slice_index_or last (first_twin_of nodes d) None
    → AreLast nodes wanted last d → AreNear nodes wanted twins d
    → AreNear nodes wanted (twins ++ twin ∷ []) (d + 1)
near_more nodes wanted last twins d twin low read known before = record {
  size = omega (arith, length-append twins (twin ∷ []), before.size);
  each = λ k below. ⊎_elim
      (λ less.
      ap listed (get_or-append twins (twin ∷ []) None k (omega (arith, less, before.size)))
      ∙ before.each k less)
      (λ past. let same : k ≡ d = omega (arith, below, past) in
      subst (λ n. listed (slice_index_or (twins ++ twin ∷ []) n None)
      ≡ last_alone (wanted_with nodes wanted (first_twin_of nodes n) n)) (sym same) here)
      (cases_lt k d);
}
  where
    within : first_twin_of nodes d < length nodes
    within = search (rules, nodes, first_within)

    here : listed (slice_index_or (twins ++ twin ∷ []) d None)
        ≡ last_alone (wanted_with nodes wanted (first_twin_of nodes d) d)
    here = search (rules, get_or-append_seam, nodes, within)

-- a wanted derivation is the last of its twins
pub last_wanted : (nodes : List Node) (wanted : List Bool) (last : List (Option ℕ)) (d : ℕ) → d
    < length nodes → slice_index_or wanted d false ≡ true → AreLast nodes wanted last d
    → AreLast nodes wanted (set last (first_twin_of nodes d) (Some d)) (d + 1)
last_wanted nodes wanted last d low is before = record {
  size = length-set last (first_twin_of nodes d) (Some d) ∙ before.size;
  each = λ first within. ⊎_elim (λ same. here first within same) (λ apart. kept first within apart)
      (cases_eq first (first_twin_of nodes d));
}
  where
    here : (first : ℕ) → first < length nodes → first ≡ first_twin_of nodes d
        → listed (slice_index_or (set last (first_twin_of nodes d) (Some d)) first None)
        ≡ last_alone (wanted_with nodes wanted first (d + 1))
    here first within same =
        search (
          rules,
          nodes,
          within,
          is_wanted_with,
          and_from,
          eq-eqb,
          set,
          get_or-set_same,
          last_with,
        )

    kept : (first : ℕ) → first < length nodes → (first ≡ first_twin_of nodes d → ⊥)
        → listed (slice_index_or (set last (first_twin_of nodes d) (Some d)) first None)
        ≡ last_alone (wanted_with nodes wanted first (d + 1))
    kept first within apart =
        search (
          rules,
          nodes,
          is_wanted_with,
          and_right,
          ne_eqb,
          get_or-set_other,
          within,
          none_with,
        )

-- another is_not
pub last_unwanted : (nodes : List Node) (wanted : List Bool) (last : List (Option ℕ)) (d : ℕ)
    → slice_index_or wanted d false ≡ false → AreLast nodes wanted last d
    → AreLast nodes wanted last (d + 1)
last_unwanted nodes wanted last d is_not before = record {
  size = before.size;
  each = λ first within. before.each first within
      ∙ ap last_alone (sym (none_with _ _ _ d
      (and_left _ _ is_not)));
}

-- ---- what is known in the end

-- each twin has a smaller number
pub near_smaller : (nodes : List Node) (wanted : List Bool) (twins : List (Option ℕ)) (count : ℕ)
    → AreNear nodes wanted twins count → (d : ℕ)
    → All (λ t. t < d) (listed (slice_index_or twins d None))
near_smaller nodes wanted twins count near d =
    ⊎_elim
    (λ low. subst (All (λ t. t < d)) (sym (near.each d low))
    (All-from_contains (λ t. t < d) _
    (λ t has. All-contains (λ t. t < d) _ t
    (All-filter (is_wanted_with nodes wanted (first_twin_of nodes d)) (λ t. t < d)
    _ (range_below d))
    (last_is_one _ t has))))
    (λ past. subst (λ o. All (λ t. t < d) (listed o))
    (sym (get_or_past twins d None (omega (arith, past, near.size)))) (All-nil (λ t. t < d)))
    (cases_lt d count)

-- they are the nearest earlier twins
pub nearest_are : (graph : Graph) (wanted : List Bool) (twins : List (Option ℕ)) → IsSound graph
    → AreNear graph.nodes wanted twins (length graph.nodes)
    → (run : Run) (opening : List Entry) → run.graph ≡ graph → AreWanted run opening wanted
    → AreNearest run opening twins
unfolding earlier_twins
nearest_are graph wanted twins sound near run opening same are = record {
  count = near_here.size;
  each = λ d low. near_here.each d low
      ∙ ap last_alone (filter_agree (is_wanted_with nodes wanted (first_twin_of nodes d))
      (λ t. is_wanted run opening t && are_twins_at (slice_get nodes t) (slice_get nodes d))
      (λ t. ap (λ b. b && (first_twin_of nodes t == first_twin_of nodes d)) (told t)
      ∙ ap (λ b. is_wanted run opening t && b) (same_first _ d t low))
      _);
}
  where
    nodes : List Node
    nodes = run.graph.nodes

    near_here : AreNear run.graph.nodes wanted twins (length run.graph.nodes)
    near_here = search rules

    told : (t : ℕ) → slice_index_or wanted t false ≡ is_wanted run opening t
    told t = search (rules, wanted_told, same_test)
