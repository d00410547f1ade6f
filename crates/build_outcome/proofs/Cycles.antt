-- A round among the outputs' numbers is a cycle among their paths, and where there is none, there
-- is no cycle.
use Rattle.std.proofs.Common.{◌≡◌, ◌≢◌, ◌↔◌, ℕ, ◌<◌, Bool, true, false, List, [], ◌∷◌, ◌++◌, length, nat_eq, Some, refl, sym, subst, arith, rules}
use Rattle.std.specs.Prelude.{Contains, IfOk, IsTrue, Result, Ok, Err}
use Rattle.std.specs.Cmp.Lexicographic.{pointwise}
use Rattle.std.specs.Global.{Vec}
use Rattle.std.specs.List.{slice_get}
use Rattle.std.proofs.lemmas.Bool.{false≢true}
use Rattle.std.proofs.lemmas.Option.{slice_get_within}
use Rattle.drv_graph.specs.Plans.{LeadsBy}
use Rattle.nix_names.proofs.RisingLists.{equal_from_eq, unequal_from_eq}
use Rattle.valid_table.specs.PathInfos.{PathInfo}
use Rattle.build_outcome.specs.private.Linking.{HaveLinks, MayLink}
use Rattle.build_outcome.specs.Verdicts.{IsCyclic, OutputRefersTo}
use Rattle.build_outcome.specs.private.Walking.{Goes, HaveRound, IsGrounded, IsLinked, TellsRound, goes_nowhere, goes_on, grounded}
use Rattle.build_outcome.proofs.Linkages.{same_key}
use Rattle.nix_names.proofs.Lists.{Contains-from_get, get_from_contains, same_element}

module _ (paths : List (List ℕ)) (infos : List PathInfo) (links : List (Vec ℕ))
    (have : HaveLinks paths infos links) where
  -- what links lead from and to, references do
  pub goes_leads : (from to : ℕ) → Goes links from to → (a b : List ℕ) → slice_get have.keys from
      ≡ Some a → slice_get have.keys to ≡ Some b
      → (steps : List (List ℕ)) × LeadsBy (OutputRefersTo paths infos) a b steps
  goes_leads _ _ (goes_nowhere n) a b at at' = ([], same_element _ n a b at at')
  goes_leads _ _ (goes_on from next to linked rest) a b at at' =
      let h = have.are.sound from next linked in
      let same : h.0 ≡ a = same_element have.keys from _ a h.2 at in
      let later = goes_leads _ _ rest _ b h.3 at' in
      let may : MayLink paths infos (length infos) a h.1 =
      subst (λ (p : List ℕ). MayLink paths infos (length infos) p h.1) same h.4 in
      let among : Contains paths h.1 =
      (have.once.same h.1).0 (Contains-from_get _ _ _ h.3)
      in
      (h.1 ∷ later.0, ((may.0, may.1, may.3, may.4, may.5, among), later.1))

  -- a number that links lead on from is that of a path
  key_of_start : (from to : ℕ) → Goes links from to → from ≢ to → (a : List ℕ)
      × (slice_get have.keys from ≡ Some a)
  key_of_start _ _ (goes_nowhere n) apart = absurd (apart refl)
  key_of_start _ _ (goes_on from next to linked rest) apart = let h =
      have.are.sound from next linked in (h.0, h.2)

  pub round_is_cycle : HaveRound links → IsCyclic paths infos
  round_is_cycle round = search (rules, key_of_start, goes_leads, same_key)

  leads_on : (a b c : List ℕ) (steps more : List (List ℕ))
      → LeadsBy (OutputRefersTo paths infos) a b steps
      → LeadsBy (OutputRefersTo paths infos) b c more
      → LeadsBy (OutputRefersTo paths infos) a c (steps ++ more)
  leads_on a b c [] more is leads = search rules
  leads_on a b c (next ∷ steps) more (refers, rest) leads =
      (refers, leads_on next b c steps more rest leads)

  -- an output that another one is linked to
  pub linked_by : (n : ℕ) (a next : List ℕ) → slice_get have.keys n ≡ Some a
      → OutputRefersTo paths infos a next → (m : ℕ) × (slice_get have.keys m ≡ Some next)
      × IsLinked links n m
  linked_by n a next at (k, info, here, has, refers, among) =
      let index = get_from_contains _ _ ((have.once.same next).1 among) in (
        index.0,
        index.1,
        have.are.whole n index.0 a next at index.1
            (k, info, slice_get_within infos k info has, here, has, refers),
      )

  -- the first step away from a path among those that lead to another
  first_away : (a b : List ℕ) (steps : List (List ℕ)) → a ≢ b
      → LeadsBy (OutputRefersTo paths infos) a b steps
      → (next : List ℕ) × (rest : List (List ℕ)) × (a ≢ next) × OutputRefersTo paths infos a next
      × LeadsBy (OutputRefersTo paths infos) next b rest
  first_away a b [] apart is = absurd (apart is)
  first_away a b (next ∷ steps) apart (refers, rest) =
      by (pointwise nat_eq a next) refl
      (λ e. first_away a b steps apart
      (subst (λ (p : List ℕ). LeadsBy (OutputRefersTo paths infos) p b steps)
      (sym (equal_from_eq a next e)) rest))
    where
      by : (same : Bool) → pointwise nat_eq a next ≡ same
          → (pointwise nat_eq a next ≡ true → (later : List ℕ) × (more : List (List ℕ))
          × (a ≢ later) × OutputRefersTo paths infos a later
          × LeadsBy (OutputRefersTo paths infos) later b more)
          → (later : List ℕ) × (more : List (List ℕ)) × (a ≢ later)
          × OutputRefersTo paths infos a later
          × LeadsBy (OutputRefersTo paths infos) later b more
      by true e past = past e
      by false e past = search (rules, unequal_from_eq)

  no_round : (n : ℕ) → IsGrounded links n → (a b : List ℕ) (there back : List (List ℕ))
      → slice_get have.keys n ≡ Some a → a ≢ b
      → LeadsBy (OutputRefersTo paths infos) a b there
      → LeadsBy (OutputRefersTo paths infos) b a back → ⊥
  no_round _ (grounded n next_is) a b there back at apart leads leads' =
      let step = first_away a b _ apart leads in
      let to = linked_by n a _ at step.3 in
      let elsewhere : n ≢ to.0 = λ e. step.2 (same_element _ n a _ at (rw e to.1)) in
      no_round to.0 (next_is to.0 to.2 elsewhere) step.0 a (step.1 ++ back) (step.0 ∷ []) to.1
      (λ e. step.2 (sym e))
      (leads_on step.0 b a step.1 back step.4 leads') (step.3, refl)

  pub grounded_is_acyclic : ((n : ℕ) → n < length links → IsGrounded links n) → IsCyclic paths infos
      → ⊥
  grounded_is_acyclic all (a, b, there, back, apart, leads, leads') =
      let step = first_away a b _ apart leads in
      let index = get_from_contains _ a
      ((have.once.same a).1 (Contains-from_get _ _ a step.3.2)) in
      no_round _
      (all index.0
      (omega (arith, slice_get_within have.keys index.0 a index.1, have.are.lengths))) a b _
      _ index.1 apart leads leads'

  -- what a walk tells of the links, it tells of the outputs
  pub told : (cyclic : Bool) → TellsRound links cyclic → IsTrue cyclic ↔ IsCyclic paths infos
  told true round = (λ _. round_is_cycle round, λ _. refl)
  told false none = search (rules, false≢true, grounded_is_acyclic)

  pub told_of : {E : Type 0} (answer : Result Bool E) → IfOk answer (TellsRound links)
      → IfOk answer (λ cyclic. IsTrue cyclic ↔ IsCyclic paths infos)
  told_of (Ok cyclic) tells = told _ tells
  told_of (Err e) tells = tells
