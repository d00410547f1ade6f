-- What is known on the way through a plan, of the states so far and of the twins that are built.
use Rattle.std.proofs.Common.{◌≡◌, ◌∙◌, ◌⊎◌, inl, inr, ⊎_elim, ℕ, zero, suc, ◌<◌, ◌≤◌, Bool, true, false, List, [], ◌∷◌, ◌++◌, length, replicate, get_or, Some, refl, sym, ap, subst, arith, if◌then◌else◌, rules}
use Rattle.std.specs.Prelude.{Contains, cond, find, slice_get}
use Rattle.std.specs.List.{list_all, list_any, slice_index_or}
use Rattle.std.proofs.Math.ListN.{get_or-append, length-append, length-set, set}
use Rattle.std.proofs.Math.Seq.{get_or-append_seam}
use Rattle.std.proofs.lemmas.Bool.{and_from, and_left, and_right, cases_eq, cases_lt, eq-eqb, eqb-true, false≢true, true≢false}
use Rattle.std.proofs.lemmas.List.{get_or-set_other, get_or-set_same, length-replicate}
use Rattle.drv_graph.specs.Nodes.{Node}
use Rattle.drv_graph.specs.Plans.{Graph}
use Rattle.drv_graph.specs.SoundGraphs.{IsSound}
use Rattle.drv_graph.specs.Twins.{are_twins_at, first_twin_of}
use Rattle.valid_table.specs.declared.entry.Entry.{Entry}
use Rattle.run_states.specs.StateTables.{ArePreconditions, AreWanted}
use Rattle.run_states.specs.Runs.{Run, earlier_twins, inputs_at, is_wanted, precondition_at, rows_of, terms_of}
use Rattle.run_states.specs.States.{by_hindrance, by_inputs, by_twins, by_validity, is_bad, is_done, is_good, is_open, states_by}
use Rattle.run_states.specs.declared.state.State.{State}
use Rattle.run_states.specs.declared.state.State.TheVariants.{Blocked, Building, Done, Failed, Ready, Refused, Reused}
use Rattle.run_states.specs.declared.state.Refusal.TheVariants.{InputNotRealised}
use Rattle.run_states.specs.declared.precondition.Precondition.{Precondition}
use Rattle.run_states.specs.declared.precondition.Precondition.TheVariants.{Free}
use Rattle.run_states.proofs.ClosedStates.{good_not_bad, all_from, none_bad}
use Rattle.run_states.proofs.EarlierTwins.{twins_from}
use Rattle.run_states.proofs.NearestTwins.{none_from}
use Rattle.run_states.proofs.Tests.{any_passes, one_passes, same_test}
use Rattle.run_states.proofs.TwinLaws.{is_earlier_twin, same_first}
use Rattle.run_states.proofs.Wanting.{any_default, none_marked, wanted_told}
use Rattle.run_report.specs.Forecasts.{built_if_ready, built_table}
use Rattle.run_report.specs.private.Holding.{AreClosed, AreForetold, state_at}
use Rattle.run_report.proofs.Foretelling.{built_is}
use Rattle.drv_graph.proofs.FirstTwins.{first_within}

-- ---- the first input that is refused

-- those before an index are built or reused
abbrev pub AreGood : (state : ℕ → State) → (numbers : List ℕ) → (index : ℕ) → Type 0
AreGood state numbers index = (k : ℕ) → k < index → is_good (state (get_or numbers k 0)) ≡ true

-- so are all, in the end
all_good : (f : ℕ → State) (numbers : List ℕ) (index : ℕ) → length numbers ≤ index
    → AreGood f numbers index → (i : ℕ) → Contains numbers i → is_good (f i) ≡ true
all_good f numbers index past good i has =
    let low = has.1 in
    subst (λ n. is_good (f n) ≡ true) (any_default numbers has.0 0 i low ∙ has.2)
    (good has.0 (omega arith))

pub are_whole : (f : ℕ → State) (numbers : List ℕ) (index : ℕ) → length numbers ≤ index
    → AreGood f numbers index → true ≡ list_all (λ i. is_good (f i)) numbers
are_whole f numbers index past good = sym (all_from f numbers (all_good f numbers index past good))

-- or one isn't
pub not_whole : (f : ℕ → State) (numbers : List ℕ) (index : ℕ) → index < length numbers
    → is_good (f (get_or numbers index 0)) ≡ false → false ≡ list_all (λ i. is_good (f i)) numbers
not_whole f [] index low not = absurd (omega arith)
not_whole f (n ∷ ns) zero low not =
    sym (and_left (is_good (f n)) (list_all (λ i. is_good (f i)) ns) not)
not_whole f (n ∷ ns) (suc index) low not =
    sym (and_right (is_good (f n)) (list_all (λ i. is_good (f i)) ns)
    (sym (not_whole f ns index (omega arith) not)))

first_bad : (f : ℕ → State) (inputs : List ℕ) (index : ℕ) → index < length inputs
    → ((k : ℕ) → k < index → is_bad (f (get_or inputs k 0)) ≡ false)
    → is_bad (f (get_or inputs index 0)) ≡ true
    → find (λ i. is_bad (f i)) inputs ≡ Some (get_or inputs index 0)
first_bad f [] index low before here = absurd (omega arith)
first_bad f (i ∷ is) zero low before here = search (rules, here)
first_bad f (i ∷ is) (suc index) low before here =
    ap (λ b. cond b (Some i) (find (λ j. is_bad (f j)) is)) (before 0 (omega arith))
    ∙ first_bad f is index (omega arith) (λ k less. before (suc k) (omega arith)) here

-- it is refused for that one
pub refused_after : (f : ℕ → State) (inputs : List ℕ) (index input : ℕ)
    → index < length inputs → input ≡ get_or inputs index 0 → AreGood f inputs index
    → is_bad (f input) ≡ true
    → ◌≡◌ {A = State} (Refused (InputNotRealised input)) (built_if_ready (by_inputs f inputs))
refused_after f inputs index input low is good bad =
    search (rules, first_bad, inputs, good_not_bad)

-- after good ones it is built
pub built_after : (f : ℕ → State) (inputs : List ℕ) (index : ℕ) → length inputs ≤ index
    → AreGood f inputs index
    → ◌≡◌ {A = State} Done (built_if_ready (by_inputs f inputs))
built_after f inputs index past good =
    let each = all_good f inputs index past good in
    sym (rw (none_bad f inputs each, all_from f inputs each) refl)

-- what is neither open nor good is bad
pub bad_unless_good : (s : State) → is_open s ≡ false → is_good s ≡ false → is_bad s ≡ true
bad_unless_good Done closed is_not = absurd (true≢false is_not)
bad_unless_good Reused closed is_not = absurd (true≢false is_not)
bad_unless_good (Failed reason) closed is_not = refl
bad_unless_good (Refused cause) closed is_not = refl
bad_unless_good (Building lease) closed is_not = absurd (true≢false closed)
bad_unless_good Ready closed is_not = absurd (true≢false closed)
bad_unless_good Blocked closed is_not = absurd (true≢false closed)

-- ---- twins that are built

-- One of the first derivations is wanted and built, and has this first twin.
pub record IsBuiltTwin (nodes : List Node) (wanted : List Bool) (states : List State)
    (first t : ℕ) : Type 0 where
  pub earlier : t < length states
  pub wanted_is : slice_index_or wanted t false ≡ true
  pub first_is : first_twin_of nodes t ≡ first
  pub built_is : is_done (state_at states t) ≡ true

-- Of each first twin, whether a wanted one of its twins so far is built.
pub record AreBuilt (nodes : List Node) (wanted : List Bool) (states : List State)
    (built : List Bool) : Type 0 where
  pub size : length built ≡ length nodes
  pub yes : (first : ℕ) → slice_index_or built first false ≡ true
      → (t : ℕ) × IsBuiltTwin nodes wanted states first t
  pub no : (first t : ℕ) → IsBuiltTwin nodes wanted states first t
      → slice_index_or built first false ≡ true

pub none_built : (nodes : List Node) (wanted built : List Bool) (states : List State) (n : ℕ)
    → n ≡ length nodes → built ≡ replicate n false → states ≡ []
    → AreBuilt nodes wanted states built
none_built nodes wanted built states n all none start = record {
  size = ap length none ∙ length-replicate n false ∙ all;
  yes = λ first is. absurd (false≢true (sym (unmarked first) ∙ is));
  no = λ first t twin. let low = twin.earlier in absurd (omega (arith, ap length start));
}
  where
    unmarked : (first : ℕ) → slice_index_or built first false ≡ false
    unmarked first = search (rules, none_marked)

module _ (nodes : List Node) (wanted : List Bool) (states : List State) (s : State) where
  abbrev more : List State
  more = states ++ s ∷ []

  -- its number
  abbrev d : ℕ
  d = length states

  state_before : (t : ℕ) → t < d → state_at more t ≡ state_at states t
  state_before t low = get_or-append states (s ∷ []) Blocked t low

  state_here : state_at more d ≡ s
  state_here = get_or-append_seam states s [] Blocked

  twin_stays : (first t : ℕ) → IsBuiltTwin nodes wanted states first t
      → IsBuiltTwin nodes wanted more first t
  twin_stays first t twin = record {
    earlier = let low = twin.earlier in omega (arith, length-append states (s ∷ []));
    wanted_is = twin.wanted_is;
    first_is = twin.first_is;
    built_is = ap is_done (state_before t twin.earlier) ∙ twin.built_is;
  }

  -- it was one before, or is the one more
  twin_was : (first t : ℕ) → IsBuiltTwin nodes wanted more first t
      → IsBuiltTwin nodes wanted states first t ⊎ (t ≡ d)
  twin_was first t twin = ⊎_elim
      (λ low. inl (record {
        earlier = low;
        wanted_is = twin.wanted_is;
        first_is = twin.first_is;
        built_is = sym (ap is_done (state_before t low)) ∙ twin.built_is;
      }))
      (λ past. inr (let low = twin.earlier in omega (arith, length-append states (s ∷ []))))
      (cases_lt t d)

  -- a derivation more that is wanted and built marks its first twin
  pub built_marked : (built : List Bool) → d < length nodes
      → slice_index_or wanted d false ≡ true → is_done s ≡ true
      → AreBuilt nodes wanted states built
      → AreBuilt nodes wanted more (set built (first_twin_of nodes d) true)
  built_marked built low is done are = record {
    size = length-set built (first_twin_of nodes d) true ∙ are.size;
    yes = λ first marked. ⊎_elim
        (λ same. (
          d,
          record {
            earlier = omega (arith, length-append states (s ∷ []));
            wanted_is = is;
            first_is = sym same;
            built_is = ap is_done state_here ∙ done;
          },
        ))
        (λ apart.
        let was = are.yes first
        (sym (get_or-set_other built (first_twin_of nodes d) first true false apart) ∙ marked) in
        (was.0, twin_stays first was.0 was.1))
        (cases_eq first (first_twin_of nodes d));
    no = λ first t twin. ⊎_elim (λ was. kept first (are.no first t was))
        (λ last. here first (sym twin.first_is ∙ ap (first_twin_of nodes) last))
        (twin_was first t twin);
  }
    where
      here : (first : ℕ) → first ≡ first_twin_of nodes d
          → slice_index_or (set built (first_twin_of nodes d) true) first false ≡ true
      here first same = search (rules, nodes, d, first_within, set, get_or-set_same)

      kept : (first : ℕ) → slice_index_or built first false ≡ true
          → slice_index_or (set built (first_twin_of nodes d) true) first false ≡ true
      kept first marked = search (rules, here, get_or-set_other, nodes, d, cases_eq)

  -- another leaves the marks as they were
  pub built_kept : (built : List Bool)
      → (slice_index_or wanted d false ≡ true → is_done s ≡ true → ⊥)
      → AreBuilt nodes wanted states built → AreBuilt nodes wanted more built
  built_kept built neither are = record {
    size = are.size;
    yes = λ first marked. let was = are.yes first marked in (was.0, twin_stays first was.0 was.1);
    no = λ first t twin. ⊎_elim (are.no first t)
        (λ last. absurd (neither
        (ap (λ n. slice_index_or wanted n false) (sym last) ∙ twin.wanted_is)
        (sym (ap is_done state_here) ∙ ap (λ n. is_done (state_at more n)) (sym last)
        ∙ twin.built_is)))
        (twin_was first t twin);
  }

-- ---- the states of the first derivations

-- The states so far are those that are foretold of the first derivations.
pub record AreFirst (graph : Graph) (preconditions : List Precondition) (wanted : List Bool)
    (states : List State) : Type 0 where
  pub each : (run : Run) (opening : List Entry) → run.graph ≡ graph
      → ArePreconditions (terms_of run) opening graph.nodes preconditions
      → AreWanted run opening wanted
      → states ≡ states_by (built_table (rows_of run opening [])) (length states)

pub none_first : (graph : Graph) (preconditions : List Precondition) (wanted : List Bool)
    (states : List State) → states ≡ [] → AreFirst graph preconditions wanted states
unfolding states_by
none_first graph preconditions wanted states none = record {
  each = λ run opening same stand want.
      subst (λ (ss : List State). ss ≡ states_by (built_table (rows_of run opening [])) (length ss))
      (sym none) refl;
}

-- a rule's states, one more
states_next : (rule : (ℕ → State) → ℕ → State) (n : ℕ)
    → states_by rule (suc n)
    ≡ states_by rule n ++ rule (λ i. slice_index_or (states_by rule n) i Blocked) n ∷ []
unfolding states_by
states_next rule n = refl

module _ (run : Run) (opening : List Entry) (sound : IsSound run.graph) (wanted : List Bool)
    (are_wanted : AreWanted run opening wanted) (states : List State) (built : List Bool)
    (are_built : AreBuilt run.graph.nodes wanted states built) (closed : AreClosed states)
    (low : length states < length run.graph.nodes) where
  abbrev here : ℕ
  here = length states

  abbrev nodes : List Node
  nodes = run.graph.nodes

  -- an earlier twin is built exactly if its first twin is marked
  twin_told : list_any (λ t. is_done (state_at states t)) (earlier_twins run opening here)
      ≡ slice_index_or built (first_twin_of nodes here) false
  twin_told =
      same_test (list_any (λ t. is_done (state_at states t)) (earlier_twins run opening here))
      (slice_index_or built (first_twin_of nodes here) false)
      (λ any.
      let found = one_passes (λ t. is_done (state_at states t))
      (earlier_twins run opening here) any in
      let twin = is_earlier_twin run opening here found.0 found.1 in
      are_built.no (first_twin_of nodes here) found.0 (record {
        earlier = twin.earlier;
        wanted_is = are_wanted.no found.0
            ((wanted_told run opening found.0 sound).0 twin.wanted);
        first_is = eqb-true (first_twin_of nodes found.0) (first_twin_of nodes here)
            (same_first nodes here found.0 low ∙ twin.twins);
        built_is = found.2;
      }))
      (λ marked.
      let found = are_built.yes (first_twin_of nodes here) marked in
      let twin = found.1 in
      any_passes (λ t. is_done (state_at states t)) (earlier_twins run opening here) found.0
      (twins_from run opening here found.0 twin.earlier
      (and_from (is_wanted run opening found.0)
      (are_twins_at (slice_get nodes found.0) (slice_get nodes here))
      ((wanted_told run opening found.0 sound).1 (are_wanted.yes found.0 twin.wanted_is))
      (sym (same_first nodes here found.0 low)
      ∙ eq-eqb (first_twin_of nodes found.0) (first_twin_of nodes here) twin.first_is)))
      twin.built_is)

  none_open : list_any (λ t. is_open (state_at states t)) (earlier_twins run opening here)
      ≡ false
  none_open = none_from (λ t. is_open (state_at states t)) (earlier_twins run opening here)
      (λ t has. closed t Blocked (is_earlier_twin run opening here t has).earlier)

  -- what the table of foretold states says of the next derivation
  pub table_here : (precondition : Precondition)
      → precondition ≡ precondition_at (terms_of run) opening (slice_get nodes here)
      → built_table (rows_of run opening []) (state_at states) here
      ≡ built_if_ready (by_validity precondition
      (if slice_index_or built (first_twin_of nodes here) false then Reused
      else by_hindrance precondition
      (by_inputs (state_at states) (inputs_at nodes (slice_get nodes here)))))
  table_here precondition stands =
      built_is (rows_of run opening []) (state_at states) here
      ∙ ap (λ s. built_if_ready (by_validity s (by_twins (state_at states)
      (earlier_twins run opening here) (by_hindrance s inputs)))) (sym stands)
      ∙ ap (λ b. built_if_ready (by_validity precondition (if b then Reused
      else if list_any (λ t. is_open (state_at states t)) (earlier_twins run opening here)
      then Blocked else by_hindrance precondition inputs))) twin_told
      ∙ ap (λ b. built_if_ready (by_validity precondition
      (if slice_index_or built (first_twin_of nodes here) false then Reused
      else if b then Blocked else by_hindrance precondition inputs))) none_open
    where
      inputs : State
      inputs = by_inputs (state_at states) (inputs_at nodes (slice_get nodes here))

-- the next derivation has the state that is foretold of it
pub first_more : (graph : Graph) (preconditions : List Precondition) (wanted : List Bool)
    (states : List State) (built : List Bool) (s : State) (precondition : Precondition)
    (marked : Bool) (inputs : List ℕ) → IsSound graph → length states < length graph.nodes
    → precondition ≡ slice_index_or preconditions (length states) Free
    → marked ≡ slice_index_or built (first_twin_of graph.nodes (length states)) false
    → inputs ≡ inputs_at graph.nodes (slice_get graph.nodes (length states))
    → s ≡ built_if_ready (by_validity precondition (if marked then Reused
    else by_hindrance precondition (by_inputs (state_at states) inputs)))
    → AreBuilt graph.nodes wanted states built → AreClosed states
    → AreFirst graph preconditions wanted states → AreFirst graph preconditions wanted
    (states ++ s ∷ [])
first_more graph preconditions wanted states built s precondition marked inputs sound low stands
    marks
    used is are_built closed are = record {
      each = λ run opening same stand want.
          by run opening same (subst IsSound (sym same) sound)
          (subst (λ (g : Graph). ArePreconditions (terms_of run) opening g.nodes preconditions)
          (sym same)
          stand) want (are.each run opening same stand want);
    }
  where
    by : (run : Run) (opening : List Entry) → run.graph ≡ graph → IsSound run.graph
        → ArePreconditions (terms_of run) opening run.graph.nodes preconditions
        → AreWanted run opening wanted
        → states ≡ states_by (built_table (rows_of run opening [])) (length states)
        → states ++ s ∷ []
        ≡ states_by (built_table (rows_of run opening [])) (length (states ++ s ∷ []))
    by run opening same sound_here stand want before =
        let rule = built_table (rows_of run opening []) in
        let d = length states in
        let low_here : d < length run.graph.nodes =
        subst (λ (g : Graph). d < length g.nodes) (sym same) low in
        let here : s ≡ rule (state_at states) d =
        is
        ∙ ap (λ b. built_if_ready (by_validity precondition (if b then Reused
        else by_hindrance precondition (by_inputs (state_at states) inputs))))
        (marks ∙ ap (λ (g : Graph). slice_index_or built (first_twin_of g.nodes d) false)
        (sym same))
        ∙ ap (λ l. built_if_ready (by_validity precondition
        (if slice_index_or built (first_twin_of run.graph.nodes d) false then Reused
        else by_hindrance precondition (by_inputs (state_at states) l))))
        (used ∙ ap (λ (g : Graph). inputs_at g.nodes (slice_get g.nodes d)) (sym same))
        ∙ sym (table_here run opening sound_here wanted want states built
        (subst (λ (g : Graph). AreBuilt g.nodes wanted states built) (sym same) are_built) closed
        low_here precondition (stands ∙ stand.each d low_here)) in
        let count : length (states ++ s ∷ []) ≡ suc d =
        omega (arith, length-append states (s ∷ [])) in
        ap (λ t. states ++ t ∷ []) here
        ∙ ap (λ (ss : List State). ss ++ rule (λ i. slice_index_or ss i Blocked) d ∷ []) before
        ∙ sym (states_next rule d) ∙ ap (states_by rule) (sym count)

-- ---- one derivation more, by its number

pub first_next : (graph : Graph) (preconditions : List Precondition) (wanted : List Bool)
    (states longer : List State) (built : List Bool) (d : ℕ) (s : State)
    (precondition : Precondition) (marked : Bool) (inputs : List ℕ) → IsSound graph
    → length states ≡ d → d < length graph.nodes → precondition
    ≡ slice_index_or preconditions d Free
    → marked ≡ slice_index_or built (first_twin_of graph.nodes d) false
    → inputs ≡ inputs_at graph.nodes (slice_get graph.nodes d)
    → s ≡ built_if_ready (by_validity precondition (if marked then Reused
    else by_hindrance precondition (by_inputs (state_at states) inputs)))
    → longer ≡ states ++ s ∷ []
    → AreBuilt graph.nodes wanted states built → AreClosed states
    → AreFirst graph preconditions wanted states → AreFirst graph preconditions wanted longer
first_next graph preconditions wanted states longer built d s precondition marked inputs sound count
    low
    stands marks used is added are_built closed are = search (rules, first_more, inputs)

pub marked_next : (nodes : List Node) (wanted : List Bool) (states longer : List State)
    (built after : List Bool) (d first : ℕ) (s : State) → length states ≡ d
    → d < length nodes → first ≡ first_twin_of nodes d → slice_index_or wanted d false ≡ true
    → is_done s ≡ true → longer ≡ states ++ s ∷ [] → after ≡ set built first true
    → AreBuilt nodes wanted states built → AreBuilt nodes wanted longer after
marked_next nodes wanted states longer built after d first s count low first_is is done added
    marked are =
    subst (λ ss. AreBuilt nodes wanted ss after) (sym added)
    (subst (AreBuilt nodes wanted (states ++ s ∷ []))
    (sym (marked ∙ ap (λ n. set built n true)
    (first_is ∙ ap (first_twin_of nodes) (sym count))))
    (built_marked nodes wanted states s built (subst (λ n. n < length nodes) (sym count) low)
    (ap (λ n. slice_index_or wanted n false) count ∙ is) done are))

pub kept_next : (nodes : List Node) (wanted : List Bool) (states longer : List State)
    (built after : List Bool) (d : ℕ) (s : State) → length states ≡ d
    → (slice_index_or wanted d false ≡ true → is_done s ≡ true → ⊥)
    → longer ≡ states ++ s ∷ [] → after ≡ built
    → AreBuilt nodes wanted states built → AreBuilt nodes wanted longer after
kept_next nodes wanted states longer built after d s count neither added same are =
    subst (λ ss. AreBuilt nodes wanted ss after) (sym added)
    (subst (AreBuilt nodes wanted (states ++ s ∷ [])) (sym same)
    (built_kept nodes wanted states s built
    (λ is done. neither (ap (λ n. slice_index_or wanted n false) (sym count) ∙ is) done) are))

-- in the end they foretell all states
pub all_first : (graph : Graph) (preconditions : List Precondition) (wanted : List Bool)
    (states : List State) → length states ≡ length graph.nodes
    → AreFirst graph preconditions wanted states
    → (run : Run) (opening : List Entry) → run.graph ≡ graph
    → ArePreconditions (terms_of run) opening graph.nodes preconditions
    → AreWanted run opening wanted
    → AreForetold run opening states
all_first graph preconditions wanted states count are run opening same stand want = search rules
