-- The seeds of a derivation that has begun are valid.
use Rattle.std.proofs.Common.{◌≡◌, ◌⊎◌, inl, inr, ℕ, suc, ◌+◌, Bool, true, false, List, [], ◌∷◌, ◌++◌, Option, Some, None, refl, sym, ap, ◌∙◌, subst, ⊎_elim, arith, append_assoc, append-nil, rules}
use Rattle.std.specs.Prelude.{Contains, slice_get, cond, not, if◌then◌else◌, filter, find}
use Rattle.std.specs.List.{list_any, position, position_or_len, slice_index_or}
use Rattle.std.proofs.Math.Dec.{T, eqb}
use Rattle.std.proofs.Math.Facts.{eqb_yes}
use Rattle.std.proofs.lemmas.Bool.{cases_lt, ltb-false}
use Rattle.std.proofs.lemmas.Grind.{flat_map-append}
use Rattle.std.proofs.lemmas.List.Sums.{fails_before_first}
use Rattle.std.proofs.lemmas.List.Elements.{Contains-append_cases}
use Rattle.nix_names.specs.Names.{same_bytes}
use Rattle.nix_drv.specs.Derivation.{Input, Output}
use Rattle.drv_graph.specs.Nodes.{Node, paths_of as node_paths}
use Rattle.drv_graph.specs.PlanNodes.{output_paths_of}
use Rattle.valid_table.specs.Entries.{paths_registered, registered, registered_by}
use Rattle.valid_table.specs.Valid.{IsValid}
use Rattle.valid_table.specs.declared.entry.Entry.{Entry}
use Rattle.valid_table.specs.declared.entry.Registration.{Registration}
use Rattle.valid_table.proofs.AddedEntries.{registered_push}
use Rattle.valid_table.proofs.JournalLists.{still_valid}
use Rattle.valid_table.proofs.TakenIn.{valid_by_some}
use Rattle.valid_table.proofs.ClosureLaws.{leads_before, leads_after}
use Rattle.std.proofs.lemmas.Map.Views.{Contains-from_any}
use Rattle.nix_names.proofs.RisingLists.{equal_from_eq}
use Rattle.run_states.specs.Headline.{PermittedStays, SeedsAreValid}
use Rattle.build_outcome.specs.Jobs.{named_outputs, paths_of_found, seeds_of}
use Rattle.run_states.specs.Legal.{IsLegal, legal_opening, legal_begin, legal_done, legal_fail, begins}
use Rattle.run_states.specs.Runs.{History, Run, by_cause, cause_at, input_numbers, inputs_at, is_for, is_unsupported, is_valid, missing_of, or_else, precondition_at, precondition_of, rows_of, state_in, terms_of}
use Rattle.run_states.specs.States.{Phase, Idle, Begun, Ended, Broken, Rows, by_first, by_hindrance, by_phase, by_validity, is_done, is_good, later, phase_by, phase_of, state, states_by, table}
use Rattle.run_states.specs.declared.state.Event.{Event}
use Rattle.run_states.specs.declared.state.Event.TheVariants.{Begin, Done as Finish, Fail}
use Rattle.run_states.specs.declared.state.Refusal.{Refusal}
use Rattle.run_states.specs.declared.state.Refusal.TheVariants.{MissingFeature, MissingSource, PartlyValid, Unsupported, WrongSystem}
use Rattle.run_states.specs.declared.state.State.{State}
use Rattle.run_states.specs.declared.state.State.TheVariants.{Blocked, Ready, Reused}
use Rattle.run_states.proofs.Dones.{output_registered, part_with, records_for_paths}
use Rattle.run_states.proofs.StateLaws.{state_at, state_past}
use Rattle.run_states.proofs.Tests.{list_all_has, one_passes}
use Rattle.run_states.proofs.TwinLaws.{IsEarlierTwin, is_earlier_twin, is_there, path_of_twin}
use Rattle.run_states.specs.declared.precondition.Precondition.{Precondition}
use Rattle.run_states.specs.declared.precondition.Precondition.TheVariants.{AllValid, Hindered, Free}
use Rattle.nix_names.proofs.Lists.{Contains-cons_cases, Contains-first, Contains-from_map, Contains-later, Contains-map, Contains-nothing}

-- ---- where a derivation stands after one event more

pub later_assoc : (a b c : Phase) → later a (later b c) ≡ later (later a b) c
later_assoc a b Idle = refl
later_assoc a b (Begun n) = refl
later_assoc a b Ended = refl
later_assoc a b (Broken reason) = refl

later_idle : (p : Phase) → later Idle p ≡ p
later_idle Idle = refl
later_idle (Begun n) = refl
later_idle Ended = refl
later_idle (Broken reason) = refl

pub phase_push : (events : List Event) (e : Event) (d : ℕ) → phase_of (events ++ e ∷ []) d
    ≡ later (phase_of events d) (phase_by e d)
phase_push [] e d = sym (later_idle _)
phase_push (x ∷ xs) e d = search (rules, later_assoc, phase_push xs e d)

-- it was built before, if not now
ended_by_begin : (same : Bool) (p : Phase) (n : ℕ) → later p (if same then Begun n else Idle)
    ≡ Ended → p ≡ Ended
ended_by_begin true p n is = absurd cc
ended_by_begin false p n is = is

ended_by_fail : (same : Bool) (p : Phase) (reason : _)
    → later p (if same then Broken reason else Idle) ≡ Ended → p ≡ Ended
ended_by_fail true p reason is = absurd cc
ended_by_fail false p reason is = is

ended_by_done : (same : Bool) (p : Phase) → later p (if same then Ended else Idle) ≡ Ended
    → (same ≡ true) ⊎ (p ≡ Ended)
ended_by_done true p is = inl refl
ended_by_done false p is = inr is

pub same_number : (a b : ℕ) → eqb a b ≡ true → a ≡ b
same_number a b e = eqb_yes (subst T (sym e) tt)

pub valid_after : (entries : List Entry) (entry : Entry) (path : List ℕ)
    → IsValid (registered entries) path → IsValid (registered (entries ++ entry ∷ [])) path
valid_after entries entry path valid =
    subst (λ (rs : List Registration). IsValid rs path) (sym (registered_push entries entry))
    (still_valid (registered entries) (registered_by entry) path valid)

-- the outputs of a derivation that was built are valid
pub ended_is_valid : (run : Run) (history : History) → IsLegal run history → (d : ℕ) (node : Node)
    → slice_get run.graph.nodes d ≡ Some node
    → phase_of history.events d ≡ Ended → (path : List ℕ) → Contains (output_paths_of node.drv) path
    → IsValid (registered history.entries) path
ended_is_valid run _ (legal_opening entries journal) d node is_node ended path has = absurd cc
ended_is_valid run _ (legal_begin history e legal within wanted ready) d node is_node ended path
    has =
    ended_is_valid _ _ legal d _ is_node
    (ended_by_begin (eqb e d) _ (begins history.events)
    (sym (phase_push history.events (Begin e (begins history.events)) d) ∙ ended)) _ has
ended_is_valid run _ (legal_fail history e lease reason legal phase) d node is_node ended path has =
    ended_is_valid run history legal d node is_node
    (ended_by_fail (eqb e d) _ reason
    (sym (phase_push history.events (Fail e lease reason) d) ∙ ended)) _ has
ended_is_valid run _
    (legal_done history e lease own infos entry legal phase is_own allowed is_entry) d node is_node
    ended path has =
    ⊎_elim
    (λ same.
    let number : e ≡ d = same_number e d same in
    let one : Some own ≡ Some node = sym is_own ∙ ap (slice_get run.graph.nodes) number ∙ is_node in
    let node_is : own ≡ node = cc in
    let own_has : Contains (output_paths_of own.drv) path =
    subst (λ (n : Node). Contains (output_paths_of n.drv) path) (sym node_is) has in
    let there = output_registered own _ is_entry.outputs entry is_entry
    (records_for_paths run _ _ _ allowed) path own_has in
    subst (λ (rs : List Registration). IsValid rs path)
    (sym (registered_push history.entries entry))
    (valid_by_some (registered history.entries) _ _
    (subst (λ (x : Entry). IsValid (registered_by x) path) (sym is_entry.is_done) there)))
    (λ before. valid_after history.entries entry _
    (ended_is_valid run history legal d node is_node before _ has))
    (ended_by_done _ _
    (sym (phase_push history.events (Finish e lease) d) ∙ ended))

-- the entries begin with the opening ones
pub opened_with : (run : Run) (history : History) → IsLegal run history → (more : List Entry)
    × (history.entries ≡ history.opening ++ more)
opened_with run _ (legal_opening entries journal) = ([], sym (append-nil entries))
opened_with run _ (legal_begin history e legal within wanted ready) = opened_with _ _ legal
opened_with run _ (legal_fail history e lease reason legal phase) = opened_with _ _ legal
opened_with run _ (legal_done history e lease own infos entry legal phase is_own allowed is_entry) =
    let before = opened_with _ _ legal in (
      before.0 ++ entry ∷ [],
      ap (λ (es : List Entry). es ++ entry ∷ []) before.1
          ∙ append_assoc history.opening before.0 (entry ∷ []),
    )

-- what was valid at opening is valid
pub opening_stays_valid : (run : Run) (history : History) → IsLegal run history → (path : List ℕ)
    → is_valid history.opening path ≡ true → IsValid (registered history.entries) path
opening_stays_valid run history legal path is =
    let more = opened_with _ _ legal in
    let whole : registered history.entries ≡ registered history.opening ++ registered more.0 =
    ap registered more.1 ∙ flat_map-append registered_by history.opening more.0 in
    subst (λ (rs : List Registration). IsValid rs path) (sym whole)
    (still_valid (registered history.opening) (registered more.0) path
    (Contains-from_any equal_from_eq path (paths_registered (registered history.opening)) is))

-- ---- what it takes to be ready

pub record IsReadyBy (p : Phase) (s : Precondition) (built still : Bool) (o : State) : Type 0 where
  pub idle : p ≡ Idle
  pub free : s ≡ Free
  pub none_built : built ≡ false
  pub none_open : still ≡ false
  pub open_is : o ≡ Ready

-- by whether an earlier twin was built, and whether one is open
pub ready_by : (p : Phase) (s : Precondition) (built still : Bool) (o : State)
    → by_phase p (by_validity s (if built then Reused else if still then Blocked
    else by_hindrance s o)) ≡ Ready
    → IsReadyBy p s built still o
ready_by Idle AllValid built still o is = absurd cc
ready_by Idle (Hindered cause) true still o is = absurd cc
ready_by Idle (Hindered cause) false true o is = absurd cc
ready_by Idle (Hindered cause) false false o is = absurd cc
ready_by Idle Free true still o is = absurd cc
ready_by Idle Free false true o is = absurd cc
ready_by Idle Free false false o is =
    record { idle = refl; free = refl; none_built = refl; none_open = refl; open_is = is }
ready_by (Begun n) s built still o is = absurd cc
ready_by Ended s built still o is = absurd cc
ready_by (Broken reason) s built still o is = absurd cc

pub all_good : (first : Option ℕ) (all : Bool) → by_first first all ≡ Ready → all ≡ true
all_good (Some i) all is = absurd cc
all_good None true is = refl
all_good None false is = absurd cc

pub not_good_by_first : (first : Option ℕ) (all : Bool) → is_good (by_first first all) ≡ true → ⊥
not_good_by_first (Some i) all is = cc
not_good_by_first None true is = cc
not_good_by_first None false is = cc

-- who is good was built, or its outputs were all valid, or an earlier twin was built
pub good_by : (p : Phase) (s : Precondition) (built still : Bool) (first : Option ℕ) (all : Bool)
    → is_good (by_phase p (by_validity s (if built then Reused else if still then Blocked
    else by_hindrance s (by_first first all)))) ≡ true
    → (p ≡ Ended) ⊎ (s ≡ AllValid) ⊎ (built ≡ true)
good_by Idle AllValid built still first all is = inr (inl refl)
good_by Idle (Hindered cause) true still first all is = inr (inr refl)
good_by Idle (Hindered cause) false true first all is = absurd cc
good_by Idle (Hindered cause) false false first all is = absurd cc
good_by Idle Free true still first all is = inr (inr refl)
good_by Idle Free false true first all is = absurd cc
good_by Idle Free false false first all is = absurd (not_good_by_first _ _ is)
good_by (Begun n) s built still first all is = absurd cc
good_by Ended s built still first all is = inl refl
good_by (Broken reason) s built still first all is = absurd cc

not_done_by_first : (first : Option ℕ) (all : Bool) → is_done (by_first first all) ≡ true → ⊥
not_done_by_first (Some i) all is = cc
not_done_by_first None true is = cc
not_done_by_first None false is = cc

-- only an event makes a derivation one that was built
done_by : (p : Phase) (s : Precondition) (built still : Bool) (first : Option ℕ) (all : Bool)
    → is_done (by_phase p (by_validity s (if built then Reused else if still then Blocked
    else by_hindrance s (by_first first all)))) ≡ true
    → p ≡ Ended
done_by Idle AllValid built still first all is = absurd cc
done_by Idle (Hindered cause) true still first all is = absurd cc
done_by Idle (Hindered cause) false true first all is = absurd cc
done_by Idle (Hindered cause) false false first all is = absurd cc
done_by Idle Free true still first all is = absurd cc
done_by Idle Free false true first all is = absurd cc
done_by Idle Free false false first all is = absurd (not_done_by_first _ _ is)
done_by (Begun n) s built still first all is = absurd cc
done_by Ended s built still first all is = refl
done_by (Broken reason) s built still first all is = absurd cc

-- ---- what preconditions say

pub precondition_all : (all : Bool) (cause : Option Refusal)
    → (if all then AllValid else by_cause cause) ≡ AllValid → all ≡ true
precondition_all true cause is = refl
precondition_all false (Some cause) is = absurd cc
precondition_all false None is = absurd cc

pub precondition_free : (all : Bool) (cause : Option Refusal)
    → (if all then AllValid else by_cause cause) ≡ Free → cause ≡ None
precondition_free true cause is = absurd cc
precondition_free false (Some cause) is = absurd cc
precondition_free false None is = refl

pub or_else_none : (a b : Option Refusal) → or_else a b ≡ None → b ≡ None
or_else_none (Some cause) b is = absurd cc
or_else_none None b is = is

pub cause_none : (cause : ℕ → Refusal) (n : Option ℕ) → cause_at cause n ≡ None → n ≡ None
cause_none cause (Some n) is = absurd cc
cause_none cause None is = refl

-- nothing is found among elements: none of them is one
test_fails : {X : Type 0} (test : Bool) (x : X) → cond test (Some x) None ≡ None → test ≡ false
test_fails true x is = absurd cc
test_fails false x is = refl

pub none_found : {X : Type 0} (p : X → Bool) (xs : List X) → position p xs ≡ None → (x : X)
    → Contains xs x → p x ≡ false
none_found p xs is x (k, lt, at) = search (rules, ltb-false, test_fails, fails_before_first)

pub not_false : (b : Bool) → not b ≡ false → b ≡ true
not_false true is = refl
not_false false is = absurd cc

-- ---- valid outputs

pub done_is_ended : (rows : Rows) (d : ℕ) → is_done (state rows d) ≡ true → rows.phase d ≡ Ended
unfolding state table
done_is_ended rows d is = search (rules, done_by)

-- a derivation of which an earlier twin was built has valid outputs
twin_is_valid : (run : Run) (history : History) → IsLegal run history → (d t : ℕ)
    → IsEarlierTwin run history.opening d t → is_done (state_in run history t) ≡ true
    → (node : Node) → slice_get run.graph.nodes d ≡ Some node → (path : List ℕ)
    → Contains (output_paths_of node.drv) path → IsValid (registered history.entries) path
twin_is_valid run history legal d t twin done node is_node path has =
    let there = is_there _ _ twin.twins in
    ended_is_valid _ _ legal t _ there.1
    (done_is_ended _ t done) _
    (path_of_twin _ _ _ _ _ there.1 is_node
    twin.twins has)

-- a derivation that is good has valid outputs
at_number : (run : Run) (history : History) → IsLegal run history → (i : ℕ)
    → is_good (state_in run history i) ≡ true
    → (node : Node) → slice_get run.graph.nodes i ≡ Some node → (path : List ℕ)
    → Contains (output_paths_of node.drv) path → IsValid (registered history.entries) path
unfolding state table
at_number run history legal i good node is_node path has =
    let rows = rows_of run history.opening history.events in
    let f : ℕ → State = λ j. slice_index_or (states_by (table rows) i) j Blocked in
    let built : ℕ → Bool = λ t. is_done (f t) in
    ⊎_elim
    (λ ended. ended_is_valid _ _ legal i _ is_node ended _ has)
    (λ other. ⊎_elim
    (λ all.
    let own : precondition_of (terms_of run) history.opening node.drv ≡ AllValid =
    sym (ap (precondition_at (terms_of run) history.opening) is_node) ∙ all in
    let there = precondition_all _
    _ own in
    opening_stays_valid _ _ legal _
    (list_all_has (is_valid history.opening) _ _ there has))
    (λ by_twin.
    let found = one_passes built _ by_twin in
    let twin = is_earlier_twin _ _ i _ found.1 in
    let done : is_done (state_in run history found.0) ≡ true =
    sym (ap is_done (state_at (table rows) i _ twin.earlier)) ∙ found.2 in
    twin_is_valid _ _ legal i _ twin done _ is_node _ has) other)
    (good_by _ _ _
    _ _
    _ good)

-- ---- the seeds

one_more : (k : ℕ) → suc k ≡ 1 + k
one_more k = omega arith

-- the first node at a path is the node with the path's number
pub found_by_number : (nodes : List Node) (path : List ℕ)
    → find (λ (n : Node). same_bytes path n.path) nodes
    ≡ slice_get nodes (position_or_len (same_bytes path) (node_paths nodes))
found_by_number [] path = refl
found_by_number (n ∷ ns) path = by (same_bytes path n.path) (found_by_number ns path)
  where
    by : (b : Bool) → find (λ (x : Node). same_bytes path x.path) ns
        ≡ slice_get ns (position_or_len (same_bytes path) (node_paths ns))
        → cond b (Some n) (find (λ (x : Node). same_bytes path x.path) ns)
        ≡ slice_get (n ∷ ns)
        (cond (not b) (1 + position_or_len (same_bytes path) (node_paths ns)) 0)
    by true rest = refl
    by false rest = search (rules, one_more)

filtered : {X : Type 0} (p : X → Bool) (xs : List X) (x : X) → Contains (filter p xs) x
    → Contains xs x
filtered p [] x has = absurd (Contains-nothing x has)
filtered p (y ∷ ys) x has = by (p y) has (filtered p ys x)
  where
    by : (b : Bool) → Contains (cond b (y ∷ filter p ys) (filter p ys)) x
        → (Contains (filter p ys) x → Contains ys x) → Contains (y ∷ ys) x
    by true here rest = search (rules, Contains-first, Contains-later, Contains-cons_cases)
    by false here rest = Contains-later y ys x (rest here)

-- the outputs that an input names are among those of the node with the input's number
pub named_at : (nodes : List Node) (input : Input) (path : List ℕ)
    → Contains (named_outputs nodes input) path
    → (node : Node)
    × (slice_get nodes (position_or_len (same_bytes input.path) (node_paths nodes)) ≡ Some node)
    × Contains (output_paths_of node.drv) path
named_at nodes input path has =
    by (slice_get nodes (position_or_len (same_bytes input.path) (node_paths nodes)))
    (found_by_number nodes input.path)
  where
    by : (o : Option Node) → find (λ (n : Node). same_bytes input.path n.path) nodes ≡ o
        → (node : Node) × (o ≡ Some node) × Contains (output_paths_of node.drv) path
    by None e = search (rules, Contains-nothing)
    by (Some node) e =
        let there = subst (λ (o : Option Node). Contains (paths_of_found input.names o) path) e has
        in
        let kept = filter (λ (o : Output). list_any (same_bytes o.name) input.names)
        node.drv.outputs in
        let output = Contains-from_map (λ (o : Output). o.path) _ _ there in
        let among = filtered (λ (o : Output). list_any (same_bytes o.name) input.names)
        node.drv.outputs output.0 output.1 in (
          node,
          refl,
          subst (Contains (output_paths_of node.drv)) output.2
              (Contains-map (λ (o : Output). o.path) node.drv.outputs output.0 among),
        )

blocked_is_not_good : (s : State) → s ≡ Blocked → is_good s ≡ true → ⊥
blocked_is_not_good s is good = search rules

-- where a derivation is ready its seeds are valid
seeds_at : (run : Run) (history : History) → IsLegal run history → (d : ℕ) → state_in run history d
    ≡ Ready
    → (node : Node) → slice_get run.graph.nodes d ≡ Some node → (path : List ℕ)
    → Contains (seeds_of run.graph.nodes node.drv) path
    → IsValid (registered history.entries) path
unfolding state table
seeds_at run history legal d ready node is_node path has =
    let nodes = run.graph.nodes in
    let rows = rows_of run history.opening history.events in
    let f : ℕ → State = λ j. slice_index_or (states_by (table rows) d) j Blocked in
    let facts = ready_by _ _
    _ _
    _ ready in
    let free : precondition_of (terms_of run) history.opening node.drv
    ≡ Free = sym (ap (precondition_at (terms_of run) history.opening) is_node) ∙ facts.free in
    let no_cause = precondition_free _
    _ free in
    let none_missing = cause_none MissingSource
    _
    (or_else_none
    (cause_at PartlyValid (position (is_valid history.opening) (output_paths_of node.drv))) _
    (or_else_none (cause_at MissingFeature (missing_of (terms_of run) node.drv)) _
    (or_else_none (if is_unsupported (terms_of run) node.drv then Some Unsupported else None) _
    (or_else_none (if is_for (terms_of run) node.drv then None else Some WrongSystem) _
    no_cause)))) in
    let good = all_good _
    _ facts.open_is in
    ⊎_elim
    (λ source.
    opening_stays_valid _ _ legal _
    (not_false _
    (none_found (λ p. not (is_valid history.opening p)) _ none_missing _
    source)))
    (λ named.
    let part = part_with (named_outputs nodes) _ _ named in
    let input = part.0 in
    let i = position_or_len (same_bytes input.path) (node_paths nodes) in
    let at = named_at nodes input _ part.2 in
    let listed : Contains (input_numbers nodes node.drv) i =
    Contains-map (λ (p : List ℕ). position_or_len (same_bytes p) (node_paths nodes))
    _ _
    (Contains-map (λ (x : Input). x.path) _ _ part.1) in
    let is_input : Contains (rows.inputs d) i =
    subst (λ (o : Option Node). Contains (inputs_at nodes o) i) (sym is_node) listed in
    let well = list_all_has (λ j. is_good (f j)) _ i good is_input in
    ⊎_elim
    (λ less. at_number _ _ legal i
    (sym (ap is_good (state_at (table rows) d i less)) ∙ well) _ at.1 _ at.2)
    (λ past. absurd
    (blocked_is_not_good _ (state_past (table rows) d i past) well))
    (cases_lt i d))
    (Contains-append_cases _ _ _
    has)

pub seeds_are_valid : SeedsAreValid
seeds_are_valid run _ (legal_opening entries journal) d lease has node is_node path seed =
    absurd (Contains-nothing _ has)
seeds_are_valid run _ (legal_begin history e legal within wanted ready) d lease has node is_node
    path seed =
    ⊎_elim
    (λ before. seeds_are_valid run history legal d lease before node is_node path seed)
    (λ last. ⊎_elim
    (λ same. let number : e ≡ d = cc in
    seeds_at _ _ legal d (subst (λ n. state_in run history n ≡ Ready) number ready) _
    is_node _ seed)
    (λ none. absurd (Contains-nothing _ none))
    (Contains-cons_cases _ [] (Begin d lease) last))
    (Contains-append_cases _ _ _ has)
seeds_are_valid run _ (legal_fail history e number reason legal phase) d lease has node is_node path
    seed =
    ⊎_elim
    (λ before. seeds_are_valid run history legal d lease before node is_node path seed)
    (λ last. ⊎_elim (λ same. absurd cc) (λ none. absurd (Contains-nothing _ none))
    (Contains-cons_cases _ [] (Begin d lease) last))
    (Contains-append_cases _ _ _ has)
seeds_are_valid run _
    (legal_done history e number own infos entry legal phase is_own allowed is_entry) d lease has
    node is_node path seed =
    ⊎_elim
    (λ before. valid_after history.entries entry _
    (seeds_are_valid run history legal d lease before node is_node path seed))
    (λ last. ⊎_elim (λ same. absurd cc) (λ none. absurd (Contains-nothing _ none))
    (Contains-cons_cases _ [] (Begin d lease) last))
    (Contains-append_cases _ _ _ has)

-- ---- what is permitted

pub permitted_stays : PermittedStays
permitted_stays first more seeds outputs path closed once valid =
    search (rules, leads_after, leads_before)
