-- The lines of two reports that tell of the same derivations.
use Rattle.std.proofs.Common.{◌≡◌, ◌∙◌, ◌⊎◌, inl, inr, ℕ, Bool, true, false, cond, List, Option, [], ◌∷◌, ◌++◌, map, refl, sym, ap, subst}
use Rattle.std.specs.Prelude.{◌↔◌, Contains, filter, flat_map}
use Rattle.std.proofs.lemmas.Bool.{false≢true}
use Rattle.std.proofs.lemmas.List.{append-nil}
use Rattle.std.proofs.lemmas.List.Elements.{All-contains, All-filter, filter_passes}
use Rattle.nix_names.specs.Rising.{IsRising}
use Rattle.nix_names.proofs.Lists.{All-from_contains, Contains-cons_cases, Contains-first, Contains-from_map, Contains-later, Contains-map, Contains-nothing}
use Rattle.nix_names.proofs.RisingLists.{IsBelow, first_below, rising_later}
use Rattle.drv_graph.specs.Nodes.{Node}
use Rattle.drv_graph.specs.Plans.{Graph}
use Rattle.drv_graph.specs.declared.profile.Profile.TheVariants.{Plain}
use Rattle.run_report.specs.Reports.{AreByPath, line_at, path_at}
use Rattle.run_report.proofs.OneReport.{lines_alike, one_report}
use Rattle.run_states.specs.States.{is_bad}
use Rattle.run_states.specs.declared.state.State.{State}

-- ---- filters

module _ {X : Type 0} (test : X → Bool) where
  pub filter_is : (xs : List X) (x : X) → Contains (filter test xs) x → test x ≡ true
  filter_is xs x has = All-contains (λ y. test y ≡ true) _ x (filter_passes test xs) has

  pub filter_of : (xs : List X) (x : X) → Contains (filter test xs) x → Contains xs x
  filter_of xs x has =
      All-contains (Contains xs) _ x
      (All-filter test (Contains xs) xs (All-from_contains (Contains xs) xs (λ y there. there)))
      has

  pub filter_has : (xs : List X) (x : X) → Contains xs x → test x ≡ true
      → Contains (filter test xs) x
  filter_has [] x has is = absurd (Contains-nothing x has)
  filter_has (y ∷ ys) x has is =
      by (test y) refl (Contains-cons_cases y ys x has) (λ later. filter_has ys x later is)
    where
      by : (b : Bool) → test y ≡ b → (y ≡ x) ⊎ Contains ys x
          → (Contains ys x → Contains (filter test ys) x)
          → Contains (cond b (y ∷ filter test ys) (filter test ys)) x
      by true told (inl same) rest =
          subst (Contains (y ∷ filter test ys)) same (Contains-first y (filter test ys))
      by true told (inr later) rest = Contains-later y (filter test ys) x (rest later)
      by false told (inl same) rest = absurd (false≢true (sym told ∙ ap test same ∙ is))
      by false told (inr later) rest = rest later

-- ---- a filter of what rises

rising_first : (x : List ℕ) (xs : List (List ℕ))
    → ((y : List ℕ) → Contains xs y → IsBelow x y) → IsRising xs → IsRising (x ∷ xs)
rising_first x [] below rises = tt
rising_first x (y ∷ ys) below rises = (below y (Contains-first y ys), rises)

module _ (key : ℕ → List ℕ) (test : ℕ → Bool) where
  key_of : (xs : List ℕ) (y : List ℕ) → Contains (map key (filter test xs)) y
      → (x : ℕ) × Contains xs x × (key x ≡ y)
  key_of xs y has =
      let found = Contains-from_map key (filter test xs) y has in
      (found.0, filter_of test xs found.0 found.1, found.2)

  rising_filter : (xs : List ℕ) → IsRising (map key xs) → IsRising (map key (filter test xs))
  rising_filter [] rises = tt
  rising_filter (x ∷ xs) rises =
      by (test x) (rising_filter xs (rising_later (key x) (map key xs) rises))
    where
      below : (y : List ℕ) → Contains (map key (filter test xs)) y → IsBelow (key x) y
      below y has =
          let found = key_of xs y has in
          subst (IsBelow (key x)) found.2
          (first_below (key x) (map key xs) (key found.0) rises
          (Contains-map key xs found.0 found.1))

      by : (b : Bool) → IsRising (map key (filter test xs))
          → IsRising (map key (cond b (x ∷ filter test xs) (filter test xs)))
      by true rest = rising_first (key x) (map key (filter test xs)) below rest
      by false rest = rest

-- ---- lines

-- two lists by path, of the same derivations, have the same lines
module _ (nodes : List Node) (named : ℕ → Option (List ℕ)) (state : ℕ → State) where
  abbrev plan : Graph
  plan = record { profile = Plain; nodes = nodes; roots = [] }

  abbrev lines : List ℕ → List ℕ
  lines numbers = flat_map (line_at nodes named state) numbers

  -- a line names the path of its number
  abbrev is_its : (d : ℕ) → (path : Option (List ℕ)) → Type 0
  is_its d path = path ≡ named d

  lines_of_same : (xs ys : List ℕ) → IsRising (map (path_at nodes) xs)
      → IsRising (map (path_at nodes) ys) → ((d : ℕ) → Contains ys d ↔ Contains xs d)
      → lines xs ≡ lines ys
  lines_of_same xs ys rises rises' same =
      sym (append-nil (lines xs))
      ∙ one_report plan (Contains xs) is_its state (lines xs ++ []) (lines ys ++ [])
      (λ d m n has is other. is ∙ sym other)
      (record {
        wanted = xs;
        by_path = record { just = λ d. (λ has. has, λ has. has); rising = rises };
        named = named;
        are_named = λ d has. refl;
        is_text = refl;
      })
      (record {
        wanted = ys;
        by_path = record { just = same; rising = rises' };
        named = named;
        are_named = λ d has. refl;
        is_text = refl;
      })
      ∙ append-nil (lines ys)

-- the bad ones among two lists of wanted derivations, where the same are bad, in the same states,
-- and the line of such a one names the same path
pub bad_lines_same : (nodes : List Node) (named others : ℕ → Option (List ℕ)) (f g : ℕ → State)
    (is_wanted was_wanted : ℕ → Type 0) (xs ys : List ℕ) → AreByPath nodes is_wanted xs
    → AreByPath nodes was_wanted ys
    → ((d : ℕ) (s : State) → is_bad s ≡ true
    → (is_wanted d × (f d ≡ s)) ↔ (was_wanted d × (g d ≡ s)))
    → ((d : ℕ) → is_wanted d → was_wanted d → f d ≡ g d → named d ≡ others d)
    → flat_map (line_at nodes named f) (filter (λ d. is_bad (f d)) xs)
    ≡ flat_map (line_at nodes others g) (filter (λ d. is_bad (g d)) ys)
bad_lines_same nodes named others f g is_wanted was_wanted xs ys of_xs of_ys same names =
    lines_of_same nodes named f bad_xs bad_ys
    (rising_filter (path_at nodes) (λ d. is_bad (f d)) xs of_xs.rising)
    (rising_filter (path_at nodes) (λ d. is_bad (g d)) ys of_ys.rising)
    (λ d. (back d, there d))
    ∙ lines_alike (line_at nodes named f) (line_at nodes others g) bad_ys
    (λ d has. ap (λ (s : State). line_at nodes named (λ e. s) d) (both d has).1
    ∙ ap (λ (n : Option (List ℕ)). line_at nodes (λ e. n) g d)
    (names d (both d has).0 (wanted_after d has) (both d has).1))
  where
    bad_xs : List ℕ
    bad_xs = filter (λ d. is_bad (f d)) xs

    bad_ys : List ℕ
    bad_ys = filter (λ d. is_bad (g d)) ys

    there : (d : ℕ) → Contains bad_xs d → Contains bad_ys d
    there d has =
        let bad = filter_is (λ e. is_bad (f e)) xs d has in
        let is = (same d (f d) bad).0
        ((of_xs.just d).0 (filter_of (λ e. is_bad (f e)) xs d has), refl) in
        filter_has (λ e. is_bad (g e)) ys d ((of_ys.just d).1 is.0) (ap is_bad is.1 ∙ bad)

    wanted_after : (d : ℕ) → Contains bad_ys d → was_wanted d
    wanted_after d has = (of_ys.just d).0 (filter_of (λ e. is_bad (g e)) ys d has)

    both : (d : ℕ) → Contains bad_ys d → is_wanted d × (f d ≡ g d)
    both d has =
        (same d (g d) (filter_is (λ e. is_bad (g e)) ys d has)).1 (wanted_after d has, refl)

    back : (d : ℕ) → Contains bad_ys d → Contains bad_xs d
    back d has =
        let bad = filter_is (λ e. is_bad (g e)) ys d has in
        let is = both d has in
        filter_has (λ e. is_bad (f e)) xs d ((of_xs.just d).1 is.0) (ap is_bad is.1 ∙ bad)
