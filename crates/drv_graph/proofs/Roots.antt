-- The roots of a plan, each where it first stands, and their numbers.
use Rattle.std.proofs.Common.{◌≡◌, ◌∙◌, ℕ, Bool, true, false, not, cond, List, [], ◌∷◌, ◌++◌, filter, refl, sym, ap, subst, inl, inr, ⊎_elim, nat_eq, Some, rules}
use Rattle.std.specs.Prelude.{◌⊎◌, Contains, slice_get}
use Rattle.std.specs.List.{list_any}
use Rattle.std.proofs.lemmas.Bool.{false≢true}
use Rattle.std.proofs.lemmas.List.{append-nil}
use Rattle.std.proofs.lemmas.List.Elements.{filter-append}
use Rattle.std.proofs.lemmas.Option.{same_Some}
use Rattle.std.proofs.lemmas.Map.Views.{Contains-from_any, exact_unsigned_eq, list_any-from_Contains}
use Rattle.std.specs.Cmp.{nat_eq_equiv}
use Rattle.indexmap.specs.IndexSet.{insert_key}
use Rattle.nix_names.specs.Names.{same_bytes}
use Rattle.drv_graph.specs.Loading.{AreDistinct}
use Rattle.drv_graph.specs.Nodes.{Node, paths_of}
use Rattle.drv_graph.specs.Plans.{AreNumbers, each_once}
use Rattle.drv_graph.proofs.Numbers.{first_number, later_numbers, numbers_push}
use Rattle.drv_graph.proofs.PathLists.{other_path, path_cases, same_index}
use Rattle.nix_names.proofs.Lists.{Contains-cons_cases, Contains-first, Contains-later, Contains-nothing}

module _ {X : Type 0} (test : X → Bool) where
  source_step : (b : Bool) (y x : X) (ys : List X) → (Contains (filter test ys) x → Contains ys x)
      → Contains (cond b (y ∷ filter test ys) (filter test ys)) x → Contains (y ∷ ys) x
  source_step true y x ys later has =
      search (rules, Contains-first, Contains-later, Contains-cons_cases, filter)
  source_step false y x ys later has = Contains-later y _ x (later has)

  filter_source : (xs : List X) (x : X) → Contains (filter test xs) x → Contains xs x
  filter_source [] x has = has
  filter_source (y ∷ ys) x has = source_step (test y) y x ys (filter_source ys x) has

  has_step : (b : Bool) (y x : X) (ys : List X) → (y ≡ x → b ≡ true)
      → (Contains ys x → Contains (filter test ys) x) → Contains (y ∷ ys) x
      → Contains (cond b (y ∷ filter test ys) (filter test ys)) x
  has_step true y x ys passes later has =
      search (rules, filter, Contains-first, Contains-later, Contains-cons_cases)
  has_step false y x ys passes later has = search (rules, false≢true, Contains-cons_cases)

  filter_has : (xs : List X) (x : X) → Contains xs x → test x ≡ true → Contains (filter test xs) x
  filter_has [] x has passes = has
  filter_has (y ∷ ys) x has passes = has_step _ y x _ (λ same. ap test same ∙ passes)
      (λ later. filter_has ys x later passes) has

-- what is among the elements once is among them, and the other way round
once_source : (xs : List (List ℕ)) (x : List ℕ) → Contains (each_once xs) x → Contains xs x
once_source [] x has = has
once_source (y ∷ ys) x has =
    ⊎_elim (λ same. subst (Contains (y ∷ ys)) same (Contains-first y _))
    (λ later.
    Contains-later y _ x
    (once_source ys x (filter_source (λ z. not (same_bytes y z)) (each_once ys) x later)))
    (Contains-cons_cases y _ x has)

once_has : (xs : List (List ℕ)) (x : List ℕ) → Contains xs x → Contains (each_once xs) x
once_has [] x has = has
once_has (y ∷ ys) x has =
    ⊎_elim (λ same. subst (Contains (each_once (y ∷ ys))) same
    (Contains-first y _))
    (λ differs.
    ⊎_elim (λ same. absurd (differs same))
    (λ later. Contains-later y (filter (λ z. not (same_bytes y z)) (each_once ys)) x
    (filter_has (λ z. not (same_bytes y z)) (each_once ys) x (once_has ys x later)
    (ap not (other_path y x differs)))) (Contains-cons_cases y _ x has))
    (path_cases y x)

-- one element more changes nothing where it was there, and else stands last
once_push : (xs : List (List ℕ)) (x : List ℕ)
    → (Contains xs x × (each_once (xs ++ x ∷ []) ≡ each_once xs))
    ⊎ ((Contains xs x → ⊥) × (each_once (xs ++ x ∷ []) ≡ each_once xs ++ x ∷ []))
once_push [] x = inr (Contains-nothing x, refl)
once_push (y ∷ ys) x = by (path_cases y x) (once_push ys x)
  where
    by : (y ≡ x) ⊎ (y ≡ x → ⊥) → (Contains ys x × (each_once (ys ++ x ∷ []) ≡ each_once ys))
        ⊎ ((Contains ys x → ⊥) × (each_once (ys ++ x ∷ []) ≡ each_once ys ++ x ∷ []))
        → (Contains (y ∷ ys) x × (each_once (y ∷ (ys ++ x ∷ [])) ≡ each_once (y ∷ ys)))
        ⊎ ((Contains (y ∷ ys) x → ⊥)
        × (each_once (y ∷ (ys ++ x ∷ [])) ≡ each_once (y ∷ ys) ++ x ∷ []))
    by (inl same) (inl old) = search (rules, Contains-first, filter, not)
    by (inl same) (inr new) = search (rules, filter, not, Contains-first, filter-append, append-nil)
    by (inr differs) (inl old) = search (rules, Contains-later, filter, not)
    by (inr differs) (inr new) =
        search (rules, filter, not, other_path, Contains-cons_cases, filter-append)

-- a number is that of one of the paths, and each path has one
pub number_source : (nodes : List Node) (ns : List ℕ) (ps : List (List ℕ)) (n : ℕ)
    → AreNumbers nodes ns ps → Contains ns n → (p : List ℕ) × Contains ps p
    × (slice_get (paths_of nodes) n ≡ Some p)
number_source nodes [] ps n e has = absurd (Contains-nothing n has)
number_source nodes (m ∷ ms) [] n e has = absurd cc
number_source nodes (m ∷ ms) (p ∷ ps) n e has =
    ⊎_elim (λ same. (
      p,
      Contains-first p _,
      subst (λ k. slice_get (paths_of nodes) k ≡ Some p) same
          (first_number _ m _ p _ e),
    ))
    (λ later. let rest = number_source nodes ms ps n (later_numbers nodes m ms p _ e) later
    in (rest.0, Contains-later p _ _ rest.1, rest.2)) (Contains-cons_cases m _ n has)

number_of_path : (nodes : List Node) (ns : List ℕ) (ps : List (List ℕ)) (p : List ℕ)
    → AreNumbers nodes ns ps → Contains ps p → (n : ℕ) × Contains ns n
    × (slice_get (paths_of nodes) n ≡ Some p)
number_of_path nodes [] [] p e has = absurd (Contains-nothing p has)
number_of_path nodes [] (q ∷ qs) p e has = absurd cc
number_of_path nodes (m ∷ ms) [] p e has = absurd (Contains-nothing p has)
number_of_path nodes (m ∷ ms) (q ∷ qs) p e has =
    ⊎_elim (λ same. (
      m,
      Contains-first m _,
      subst (λ k. slice_get (paths_of nodes) m ≡ Some k) same
          (first_number nodes m ms q qs e),
    ))
    (λ later. let rest = number_of_path nodes ms qs p (later_numbers _ m _ q _ e) later
    in (rest.0, Contains-later m _ _ rest.1, rest.2)) (Contains-cons_cases q _ p has)

-- one root more
pub roots_more : (nodes : List Node) (ns : List ℕ) (roots : List (List ℕ)) (root : List ℕ) (n : ℕ)
    → AreDistinct (paths_of nodes) → AreNumbers nodes ns (each_once roots)
    → slice_get (paths_of nodes) n ≡ Some root
    → AreNumbers nodes (insert_key nat_eq ns n) (each_once (roots ++ root ∷ []))
roots_more nodes ns roots root n distinct right is =
    by (list_any (nat_eq n) ns) refl (once_push _ _)
  where
    by : (b : Bool) → list_any (nat_eq n) ns ≡ b
        → (Contains roots root × (each_once (roots ++ root ∷ []) ≡ each_once roots))
        ⊎ ((Contains roots root → ⊥)
        × (each_once (roots ++ root ∷ []) ≡ each_once roots ++ root ∷ []))
        → AreNumbers nodes (insert_key nat_eq ns n) (each_once (roots ++ root ∷ []))
    by true e (inl old) = search rules
    by true e (inr new) =
        let source = number_source _ _ _ n right
        (Contains-from_any exact_unsigned_eq n _ e) in
        let one : source.0 ≡ root = same_Some source.0 root (sym source.2 ∙ is) in
        absurd (new.0 (subst (Contains roots) one (once_source _ _ source.1)))
    by false e (inl old) =
        let its = number_of_path _ _ _ _ right (once_has _ _ old.0)
        in
        let one : its.0 ≡ n = same_index _ _ n _ distinct its.2 is in
        absurd (false≢true
        (sym e ∙ list_any-from_Contains nat_eq_equiv n _ (subst (Contains ns) one its.1)))
    by false e (inr new) = search (rules, numbers_push)
