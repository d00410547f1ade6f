-- Twins: which derivations are each other's, the first of them, and the earlier ones.
use Rattle.std.proofs.Common.{◌≡◌, ◌∙◌, ℕ, ◌<◌, ◌≤◌, Bool, true, false, List, length, Option, Some, None, refl, sym, ap, subst, rules}
use Rattle.std.specs.Prelude.{◌==◌, ◌&&◌, Contains, slice_get}
use Rattle.std.proofs.lemmas.Bool.{and_from, and_parts, both_ways, eq-eqb, false≢true, ne_eqb}
use Rattle.std.proofs.lemmas.List.Elements.{All-contains, All-filter, filter_passes}
use Rattle.std.proofs.lemmas.List.Sums.{passes_at_first}
use Rattle.std.proofs.lemmas.Option.{get_or_from_slice_get, slice_get_within}
use Rattle.nix_names.proofs.Lists.{element_at}
use Rattle.nix_drv.specs.Derivation.{Drv}
use Rattle.drv_graph.specs.Nodes.{Node}
use Rattle.drv_graph.specs.PlanNodes.{output_paths_of}
use Rattle.valid_table.specs.declared.entry.Entry.{Entry}
use Rattle.run_states.specs.Runs.{Run, earlier_twins, is_wanted}
use Rattle.drv_graph.specs.Twins.{are_among, are_twins, are_twins_at, first_twin_of}
use Rattle.run_states.proofs.Tests.{range_below}
use Rattle.drv_graph.proofs.FirstTwins.{among_has, among_from, twins_alone, no_later, first_within}

-- ---- the same output paths

-- an output of a derivation is one of its twin
pub twins_path : (a b : Drv) (path : List ℕ) → are_twins a b ≡ true
    → Contains (output_paths_of a) path → Contains (output_paths_of b) path
twins_path a b path are has =
    among_has _ _ _
    (and_parts (are_among (output_paths_of a) (output_paths_of b))
    (are_among (output_paths_of b) (output_paths_of a)) are).0 has

twins_turned : (a b : Drv) → are_twins a b ≡ true → are_twins b a ≡ true
twins_turned a b are = search (rules, and_parts, and_from)

twins_through : (a b c : Drv) → are_twins a b ≡ true → are_twins b c ≡ true → are_twins a c ≡ true
twins_through a b c are more = search (rules, and_from, among_from, twins_path, twins_turned)

-- ---- of nodes that are there

pub turned : (a b : Option Node) → are_twins_at a b ≡ true → are_twins_at b a ≡ true
turned (Some a) (Some b) are = twins_turned a.drv b.drv are
turned (Some a) None are = absurd (false≢true are)
turned None b are = absurd (false≢true are)

pub through : (a b c : Option Node) → are_twins_at a b ≡ true → are_twins_at b c ≡ true
    → are_twins_at a c ≡ true
through (Some a) (Some b) (Some c) are more = twins_through a.drv b.drv c.drv are more
through (Some a) (Some b) None are more = absurd (false≢true more)
through (Some a) None c are more = absurd (false≢true are)
through None b c are more = absurd (false≢true are)

-- each of two twins is there
pub is_there : (a b : Option Node) → are_twins_at a b ≡ true → (node : Node) × (a ≡ Some node)
is_there (Some a) b are = (a, refl)
is_there None b are = absurd (false≢true are)

pub itself : (nodes : List Node) (d : ℕ) (node : Node) → slice_get nodes d ≡ Some node
    → are_twins_at (slice_get nodes d) (slice_get nodes d) ≡ true
itself nodes d node at = search (rules, twins_alone)

-- an output of one of two twins is one of the other
pub path_of_twin : (a b : Option Node) (x y : Node) (path : List ℕ) → a ≡ Some x → b ≡ Some y
    → are_twins_at a b ≡ true → Contains (output_paths_of y.drv) path
    → Contains (output_paths_of x.drv) path
path_of_twin a b x y path is_x is_y are has =
    let both : are_twins_at (Some x) (Some y) ≡ true =
    subst (λ o. are_twins_at (Some x) o ≡ true) is_y
    (subst (λ o. are_twins_at o b ≡ true) is_x are) in
    twins_path y.drv x.drv _ (twins_turned x.drv y.drv both) has

-- ---- the first of some twins

-- the first is a twin
pub first_is_twin : (nodes : List Node) (d : ℕ) → first_twin_of nodes d < length nodes
    → are_twins_at (slice_get nodes (first_twin_of nodes d)) (slice_get nodes d) ≡ true
first_is_twin nodes d low =
    let test : Node → Bool = λ n. are_twins_at (Some n) (slice_get nodes d) in
    let first = first_twin_of nodes d in
    let there = element_at _ _ low in
    subst (λ (o : Option Node). are_twins_at o (slice_get nodes d) ≡ true) (sym there.1)
    (sym (ap test (get_or_from_slice_get nodes first there.0 there.0 there.1))
    ∙ passes_at_first test _ _ low)

-- twins are those that have the same first one
pub same_first : (nodes : List Node) (d t : ℕ) → d < length nodes
    → (first_twin_of nodes t == first_twin_of nodes d)
    ≡ are_twins_at (slice_get nodes t) (slice_get nodes d)
same_first nodes d t low = by (are_twins_at (slice_get nodes t) (slice_get nodes d)) refl
  where
    first_low : (k : ℕ) → k < length nodes → first_twin_of nodes k < length nodes
    first_low k below = search (rules, first_within)

    -- the first of one is no later than that of a twin
    before : (a b : ℕ) → b < length nodes
        → are_twins_at (slice_get nodes b) (slice_get nodes a) ≡ true
        → first_twin_of nodes a ≤ first_twin_of nodes b
    before a b below are =
        let first = first_twin_of nodes b in
        let there = element_at _ _ (first_low b below) in
        no_later _ a _ _ there.1
        (through (slice_get nodes first) _ _
        (first_is_twin nodes b (first_low b below)) are)

    equal : are_twins_at (slice_get nodes t) (slice_get nodes d) ≡ true → first_twin_of nodes t
        ≡ first_twin_of nodes d
    equal are = search (rules, is_there, slice_get_within, before, turned)

    are_twins_by : first_twin_of nodes t ≡ first_twin_of nodes d
        → are_twins_at (slice_get nodes t) (slice_get nodes d) ≡ true
    are_twins_by same =
        let first = first_twin_of nodes d in
        let first_of_d = first_is_twin nodes d (first_low d low) in
        let first_of_t : are_twins_at (slice_get nodes first) (slice_get nodes t) ≡ true =
        subst (λ k. are_twins_at (slice_get nodes k) (slice_get nodes t) ≡ true) same
        (first_is_twin nodes t (subst (λ k. k < length nodes) (sym same) (first_low d low))) in
        through (slice_get nodes t) (slice_get nodes first) (slice_get nodes d)
        (turned (slice_get nodes first) (slice_get nodes t) first_of_t) first_of_d

    by : (told : Bool) → are_twins_at (slice_get nodes t) (slice_get nodes d) ≡ told
        → (first_twin_of nodes t == first_twin_of nodes d) ≡ told
    by true are = search (rules, eq-eqb, equal)
    by false apart = search (rules, ne_eqb, both_ways, are_twins_by)

-- ---- the earlier twins

-- One is an earlier twin of another.
pub record IsEarlierTwin (run : Run) (opening : List Entry) (d t : ℕ) : Type 0 where
  pub earlier : t < d
  pub wanted : is_wanted run opening t ≡ true
  pub twins : are_twins_at (slice_get run.graph.nodes t) (slice_get run.graph.nodes d) ≡ true

pub is_earlier_twin : (run : Run) (opening : List Entry) (d t : ℕ)
    → Contains (earlier_twins run opening d) t → IsEarlierTwin run opening d t
unfolding earlier_twins
is_earlier_twin run opening d t has =
    let wanted = is_wanted run opening in
    let twins : ℕ → Bool = λ k.
    are_twins_at (slice_get run.graph.nodes k) (slice_get run.graph.nodes d) in
    let test : ℕ → Bool = λ k. wanted k && twins k in
    let passes : test t ≡ true =
    All-contains (λ k. test k ≡ true) _ t (filter_passes test _) has in
    let parts = and_parts (wanted t) (twins t) passes in
    record {
      earlier = All-contains (λ k. k < d) _ t
          (All-filter test (λ k. k < d) _ (range_below d)) has;
      wanted = parts.0;
      twins = parts.1;
    }
