-- There is one report.
use Rattle.std.proofs.Common.{◌≡◌, ◌∙◌, ⊎_elim, ℕ, Option, List, [], ◌∷◌, ◌++◌, map, refl, sym, ap, subst, rules}
use Rattle.std.specs.Prelude.{◌↔◌, Contains, flat_map}
use Rattle.nix_names.specs.Rising.{IsRising}
use Rattle.nix_names.proofs.RisingLists.{IsBelow, below_trans, first_below, not_below_itself, rising_later}
use Rattle.drv_graph.specs.Plans.{Graph}
use Rattle.run_report.specs.Reports.{IsReport, line_at, outputs_at, path_at}
use Rattle.run_states.specs.declared.state.State.{State}
use Rattle.nix_names.proofs.Lists.{Contains-cons_cases, Contains-first, Contains-later, Contains-map, Contains-nothing}

-- two lists have the same members
abbrev pub HaveSame : List ℕ → List ℕ → Type 0
HaveSame xs ys = (d : ℕ) → Contains xs d ↔ Contains ys d

-- the first number is below each later one, by its key
below_later : (key : ℕ → List ℕ) (x : ℕ) (xs : List ℕ) (d : ℕ) → IsRising (map key (x ∷ xs))
    → Contains xs d → IsBelow (key x) (key d)
below_later key x xs d rises has = search (rules, first_below, Contains-map)

-- the first numbers of two lists are the same
same_first : (key : ℕ → List ℕ) (x y : ℕ) (xs ys : List ℕ) → IsRising (map key (x ∷ xs))
    → IsRising (map key (y ∷ ys)) → HaveSame (x ∷ xs) (y ∷ ys) → x ≡ y
same_first key x y xs ys rises rises' same =
    ⊎_elim
    (λ is. sym is)
    (λ x_later. ⊎_elim
    (λ is. is)
    (λ y_later. absurd
    (not_below_itself (key x)
    (below_trans (key x) (key y) (key x) (below_later key x _ y rises y_later)
    (below_later key y _ x rises' x_later))))
    (Contains-cons_cases x _ y ((same y).1 (Contains-first y _))))
    (Contains-cons_cases y _ x ((same x).0 (Contains-first x _)))

-- a later number of the one list is a later one of the other
later_too : (key : ℕ → List ℕ) (x y : ℕ) (xs ys : List ℕ) (d : ℕ) → IsRising (map key (x ∷ xs)) → x
    ≡ y → (Contains (x ∷ xs) d → Contains (y ∷ ys) d) → Contains xs d → Contains ys d
later_too key x y xs ys d rises first there has =
    ⊎_elim
    (λ is. absurd
    (not_below_itself (key x)
    (subst (λ e. IsBelow (key x) (key e)) (sym (first ∙ is))
    (below_later key x _ d rises has))))
    (λ later. later)
    (Contains-cons_cases y ys d (there (Contains-later x xs d has)))

-- numbers whose keys rise are told by their members
one_list : (key : ℕ → List ℕ) (xs ys : List ℕ) → IsRising (map key xs) → IsRising (map key ys)
    → HaveSame xs ys → xs ≡ ys
one_list key [] [] rises rises' same = refl
one_list key [] (y ∷ ys) rises rises' same = absurd
    (Contains-nothing y ((same y).1 (Contains-first y _)))
one_list key (x ∷ xs) [] rises rises' same = absurd
    (Contains-nothing x ((same x).0 (Contains-first x _)))
one_list key (x ∷ xs) (y ∷ ys) rises rises' same =
    let first = same_first key x y _ _ rises rises' same in
    let rest =
    one_list key _ _ (rising_later _ _ rises)
    (rising_later _ _ rises')
    (λ d. (
      later_too key x y _ _ d rises first (same d).0,
      later_too key y x _ _ d rises' (sym first) (same d).1,
    )) in
    ap (λ d. d ∷ xs) first ∙ ap (λ ds. y ∷ ds) rest

-- the texts of each of some numbers are the same
pub lines_alike : (f g : ℕ → List ℕ) (numbers : List ℕ)
    → ((d : ℕ) → Contains numbers d → f d ≡ g d) → flat_map f numbers ≡ flat_map g numbers
lines_alike f g [] each = refl
lines_alike f g (d ∷ ds) each =
    ap (λ (l : List ℕ). l ++ flat_map f ds) (each d (Contains-first d ds))
    ∙ ap (λ (l : List ℕ). g d ++ l)
    (lines_alike f g ds (λ e has. each e (Contains-later d ds e has)))

-- of each wanted derivation one path is named
abbrev pub NamesOne : (is_wanted : ℕ → Type 0) → (is_named : ℕ → Option (List ℕ) → Type 0) → Type 0
NamesOne is_wanted is_named = (d : ℕ) (m n : Option (List ℕ)) → is_wanted d → is_named d m
    → is_named d n → m ≡ n

pub one_report : (graph : Graph) (is_wanted : ℕ → Type 0)
    (is_named : ℕ → Option (List ℕ) → Type 0) (state : ℕ → State) (a b : List ℕ)
    → NamesOne is_wanted is_named → IsReport graph is_wanted is_named state a
    → IsReport graph is_wanted is_named state b → a ≡ b
one_report graph is_wanted is_named state a b one of_a of_b =
    let same : of_a.wanted ≡ of_b.wanted =
    one_list (path_at graph.nodes) _ _ of_a.by_path.rising of_b.by_path.rising
    (λ d. (
      λ has. (of_b.by_path.just d).1 ((of_a.by_path.just d).0 has),
      λ has. (of_a.by_path.just d).1 ((of_b.by_path.just d).0 has),
    )) in
    of_a.is_text
    ∙ ap (λ (l : List ℕ). l ++ flat_map (outputs_at graph.nodes state) graph.roots)
    (lines_alike (line_at graph.nodes of_a.named state) (line_at graph.nodes of_b.named state)
    of_a.wanted (λ d has. let is = (of_a.by_path.just d).0 has in
    ap (λ (n : Option (List ℕ)). line_at graph.nodes (λ _. n) state d)
    (one d (of_a.named d) (of_b.named d) is (of_a.are_named d is) (of_b.are_named d is))))
    ∙ ap (λ (ds : List ℕ). flat_map (line_at graph.nodes of_b.named state) ds
    ++ flat_map (outputs_at graph.nodes state) graph.roots) same
    ∙ sym of_b.is_text
