-- What stands over the entries of a run that was cut: what was valid before it, and the outputs of
-- what it built. A derivation that it didn't build stands as it did.
use Rattle.std.proofs.Common.{◌≡◌, ◌∙◌, ◌⊎◌, inl, inr, ℕ, Bool, true, cond, List, [], ◌∷◌, Result, Option, Some, None, refl, sym, ap, subst, ⊎_elim, arith}
use Rattle.std.specs.Prelude.{Contains, not, slice_get, position}
use Rattle.std.specs.List.{list_all, position_or_len}
use Rattle.std.specs.Cmp.Lexicographic.{nat_list_eq_equiv}
use Rattle.std.proofs.lemmas.Map.Views.{Contains-from_any, list_any-from_Contains}
use Rattle.nix_names.proofs.Lists.{Contains-first, Contains-from_get, Contains-from_map, Contains-later}
use Rattle.nix_names.proofs.RisingLists.{equal_from_eq}
use Rattle.nix_drv.specs.Derivation.{Drv, Output}
use Rattle.drv_graph.specs.Nodes.{Node}
use Rattle.drv_graph.specs.PlanNodes.{output_paths_of}
use Rattle.drv_graph.specs.Plans.{Graph}
use Rattle.drv_graph.specs.SoundGraphs.{IsSound}
use Rattle.drv_graph.specs.Twins.{are_twins, are_twins_at}
use Rattle.drv_graph.proofs.FirstTwins.{twins_are_told}
use Rattle.drv_graph.proofs.Twins.{sharers_are_twins}
use Rattle.valid_table.specs.Entries.{paths_registered, registered}
use Rattle.valid_table.specs.PathInfos.{PathInfo}
use Rattle.valid_table.specs.declared.entry.Entry.{Entry}
use Rattle.valid_table.proofs.ClosureLaws.{registers_from_valid}
use Rattle.valid_table.proofs.Reaching.{valid_from_registers}
use Rattle.build_outcome.specs.declared.job.Answer.{Answer}
use Rattle.build_outcome.specs.declared.job.Job.{Job}
use Rattle.build_outcome.specs.declared.reason.Reason.{Reason}
use Rattle.build_outcome.specs.declared.reason.Reason.TheVariants.{OutOfMemory}
use Rattle.run_states.specs.Runs.{History, IsWanted, Run, Terms, by_cause, earlier_twins, is_valid, own_cause, precondition_at, precondition_of, terms_of, wanted_input, wanted_root}
use Rattle.run_states.specs.States.{Phase, Idle, Begun, Ended, Broken, phase_of}
use Rattle.run_states.specs.declared.precondition.Precondition.TheVariants.{AllValid, Free}
use Rattle.run_states.proofs.Seeds.{ended_is_valid, opening_stays_valid}
use Rattle.run_states.proofs.Tests.{all_pass, same_test}
use Rattle.run_states.proofs.TwinLaws.{is_earlier_twin, is_there, turned}
use Rattle.store_run.specs.Interruptions.{HasNoTwins, IsCutRun}
use Rattle.store_run.proofs.Telling.{IsFrom, from_built, from_is, from_opening, made_is}
use Rattle.store_run.proofs.ToldRuns.{IsTold, told_from}

-- ---- tests that agree on the elements of a list

module _ {X : Type 0} (p q : X → Bool) where
  all_agree : (xs : List X) → ((x : X) → Contains xs x → p x ≡ q x)
      → list_all p xs ≡ list_all q xs
  all_agree [] same = refl
  all_agree (x ∷ xs) same =
      let here = same x (Contains-first x xs) in
      let rest = all_agree xs (λ y has. same y (Contains-later x xs y has)) in
      rw (here, rest) refl

  first_agree : (xs : List X) → ((x : X) → Contains xs x → p x ≡ q x)
      → position_or_len p xs ≡ position_or_len q xs
  first_agree [] same = refl
  first_agree (x ∷ xs) same =
      let here = same x (Contains-first x xs) in
      let rest = first_agree xs (λ y has. same y (Contains-later x xs y has)) in
      rw (here, rest) refl

  index_agree : (xs : List X) → ((x : X) → Contains xs x → p x ≡ q x)
      → position p xs ≡ position q xs
  index_agree xs same = rw (first_agree xs same) refl

-- where the same outputs and sources are valid, a derivation stands the same
precondition_agree : (terms : Terms) (a b : List Entry) (drv : Drv)
    → ((path : List ℕ) → Contains (output_paths_of drv) path → is_valid a path ≡ is_valid b path)
    → ((path : List ℕ) → Contains drv.sources path → is_valid a path ≡ is_valid b path)
    → precondition_of terms a drv ≡ precondition_of terms b drv
precondition_agree terms a b drv outputs sources =
    rw (
      all_agree (is_valid a) (is_valid b) (output_paths_of drv) outputs,
      index_agree (is_valid a) (is_valid b) (output_paths_of drv) outputs,
      index_agree (λ path. not (is_valid a path)) (λ path. not (is_valid b path)) drv.sources
          (λ path has. ap not (sources path has)),
    ) refl

-- ---- where no two derivations are twins

-- a path is an output of one derivation
one_maker : (graph : Graph) → IsSound graph → HasNoTwins graph → (a b : ℕ) (x y : Node)
    (path : List ℕ) → slice_get graph.nodes a ≡ Some x → slice_get graph.nodes b ≡ Some y
    → Contains (output_paths_of x.drv) path → Contains (output_paths_of y.drv) path → a ≡ b
one_maker graph sound alone a b x y path at at' own own' =
    let path_in : Output → List ℕ = λ o. o.path in
    let one = Contains-from_map path_in _ _ own in
    let two = Contains-from_map path_in _ _ own' in
    alone a b x y at at'
    (sharers_are_twins graph x y sound (Contains-from_get _ a x at) (Contains-from_get _ b y at')
    (one.0, two.0, one.1, two.1, one.2 ∙ sym two.2))

-- no derivation has an earlier twin
pub none_earlier : (run : Run) → HasNoTwins run.graph → (opening : List Entry) (d t : ℕ)
    → Contains (earlier_twins run opening d) t → ⊥
none_earlier run alone opening d t has =
    let nodes = run.graph.nodes in
    let is = is_earlier_twin run opening d t has in
    let x = is_there (slice_get nodes t) (slice_get nodes d) is.twins in
    let y = is_there (slice_get nodes d) (slice_get nodes t)
    (turned (slice_get nodes t) (slice_get nodes d) is.twins) in
    let both : are_twins x.0.drv y.0.drv ≡ true =
    subst (λ (o : Option Node). are_twins_at (Some x.0) o ≡ true) y.1
    (subst (λ (o : Option Node). are_twins_at o (slice_get nodes d) ≡ true) x.1 is.twins) in
    let same : t ≡ d = alone t d x.0 y.0 x.1 y.1 ((twins_are_told x.0.drv y.0.drv).0 both) in
    omega (arith, is.earlier, same)

without_members : (xs : List ℕ) → ((x : ℕ) → Contains xs x → ⊥) → xs ≡ []
without_members [] none = refl
without_members (x ∷ xs) none = absurd (none x (Contains-first x xs))

pub no_earlier : (run : Run) → HasNoTwins run.graph → (opening : List Entry) (d : ℕ)
    → earlier_twins run opening d ≡ []
no_earlier run alone opening d = without_members _ (none_earlier run alone opening d)

-- ---- phases

pub ended_or_not : (p : Phase) → (p ≡ Ended) ⊎ (p ≡ Ended → ⊥)
ended_or_not Ended = inl refl
ended_or_not Idle = inr (λ is. cc)
ended_or_not (Begun lease) = inr (λ is. cc)
ended_or_not (Broken reason) = inr (λ is. cc)

-- ---- over the entries of a run that was cut

module _ (may : Job → Result Answer Reason → Type 0) (run : Run) (cut : History)
    (is_cut : IsCutRun may run cut) where
  pub told : IsTold (λ reason. reason ≡ OutOfMemory) may run cut
  told = told_from may run cut is_cut.legal is_cut.answered

  -- a path is an output of a derivation that was built
  abbrev IsMade : (path : List ℕ) → Type 0
  IsMade path = (d : ℕ) × (node : Node) × (slice_get run.graph.nodes d ≡ Some node)
      × (phase_of cut.events d ≡ Ended) × Contains (output_paths_of node.drv) path

  valid_from : (path : List ℕ) → is_valid cut.entries path ≡ true
      → (is_valid cut.opening path ≡ true) ⊎ IsMade path
  valid_from path valid =
      let there = Contains-from_any equal_from_eq path (paths_registered (registered cut.entries))
      valid in
      let had = registers_from_valid _ _ there in
      by had.0 (from_is (λ reason. reason ≡ OutOfMemory) may run cut told path had.0 had.1)
    where
      by : (info : PathInfo) → IsFrom run cut path info
          → (is_valid cut.opening path ≡ true) ⊎ IsMade path
      by info (from_opening has) =
          inl (list_any-from_Contains nat_list_eq_equiv _ _ (valid_from_registers _ _ info has))
      by info (from_built d node at ends own) = inr (d, node, at, ends, own)

  valid_still : (path : List ℕ) → is_valid cut.opening path ≡ true
      → is_valid cut.entries path ≡ true
  valid_still path valid =
      list_any-from_Contains nat_list_eq_equiv _ _
      (opening_stays_valid run cut is_cut.legal path valid)

  -- what is an output of nothing that was built is valid as before
  valid_same : (path : List ℕ) → (IsMade path → ⊥)
      → is_valid cut.entries path ≡ is_valid cut.opening path
  valid_same path unmade =
      same_test _ _
      (λ valid. ⊎_elim (λ before. before) (λ made. absurd (unmade made)) (valid_from path valid))
      (valid_still path)

  output_unmade : (d : ℕ) (node : Node) → slice_get run.graph.nodes d ≡ Some node
      → (phase_of cut.events d ≡ Ended → ⊥) → (path : List ℕ)
      → Contains (output_paths_of node.drv) path → IsMade path → ⊥
  output_unmade d node at unbuilt path own made =
      unbuilt
      (subst (λ n. phase_of cut.events n ≡ Ended)
      (one_maker run.graph is_cut.plan is_cut.twins made.0 d made.1 node path made.2 at made.4 own)
      made.3)

  source_unmade : (node : Node) → Contains run.graph.nodes node → (path : List ℕ)
      → Contains node.drv.sources path → IsMade path → ⊥
  source_unmade node has path source made =
      is_cut.sources node made.1 path has (Contains-from_get _ made.0 made.1 made.2) source made.4

  -- a derivation that was not built stands as before
  pub stands_same : (d : ℕ) → (phase_of cut.events d ≡ Ended → ⊥)
      → precondition_at (terms_of run) cut.entries (slice_get run.graph.nodes d)
      ≡ precondition_at (terms_of run) cut.opening (slice_get run.graph.nodes d)
  stands_same d unbuilt = by (slice_get run.graph.nodes d) refl
    where
      by : (node : Option Node) → slice_get run.graph.nodes d ≡ node
          → precondition_at (terms_of run) cut.entries node
          ≡ precondition_at (terms_of run) cut.opening node
      by None at = refl
      by (Some node) at =
          precondition_agree (terms_of run) cut.entries cut.opening node.drv
          (λ path own. valid_same path (output_unmade d node at unbuilt path own))
          (λ path source. valid_same path
          (source_unmade node (Contains-from_get _ d node at) path source))

  -- one that was built stands by its valid outputs
  pub built_stands : (d : ℕ) → phase_of cut.events d ≡ Ended
      → precondition_at (terms_of run) cut.entries (slice_get run.graph.nodes d) ≡ AllValid
  built_stands d ends =
      let made = made_is (λ reason. reason ≡ OutOfMemory) may run is_cut.plan cut told d ends in
      let drv = made.node.drv in
      let valid : list_all (is_valid cut.entries) (output_paths_of drv) ≡ true =
      all_pass (is_valid cut.entries) (output_paths_of drv)
      (λ path own. list_any-from_Contains nat_list_eq_equiv _ _
      (ended_is_valid run cut is_cut.legal d made.node made.is_node ends path own)) in
      ap (precondition_at (terms_of run) cut.entries) made.is_node
      ∙ ap (λ all. cond all AllValid (by_cause (own_cause (terms_of run) cut.entries drv))) valid

  -- so one that is free was not built, and was free
  pub free_unbuilt : (d : ℕ)
      → precondition_at (terms_of run) cut.entries (slice_get run.graph.nodes d) ≡ Free
      → phase_of cut.events d ≡ Ended → ⊥
  free_unbuilt d free ends =
      let clash : AllValid ≡ Free = sym (built_stands d ends) ∙ free in cc

  pub was_free : (d : ℕ)
      → precondition_at (terms_of run) cut.entries (slice_get run.graph.nodes d) ≡ Free
      → precondition_at (terms_of run) cut.opening (slice_get run.graph.nodes d) ≡ Free
  was_free d free = sym (stands_same d (free_unbuilt d free)) ∙ free

  -- what is wanted after the cut was wanted before it
  pub was_wanted : (d : ℕ) → IsWanted run cut.entries d → IsWanted run cut.opening d
  was_wanted _ (wanted_root d root) = wanted_root d root
  was_wanted _ (wanted_input user d wanted free has) =
      wanted_input user d (was_wanted user wanted) (was_free user free) has
