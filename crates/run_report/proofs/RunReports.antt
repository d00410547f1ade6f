-- The report of a state table is that of its run, and what else tells of derivations by path.
use Rattle.std.proofs.Common.{◌≡◌, ◌∙◌, ◌<◌, ℕ, Option, List, [], ◌∷◌, ◌++◌, length, refl, sym, ap, subst, rules}
use Rattle.std.specs.Prelude.{◌↔◌, Bool, flat_map}
use Rattle.drv_graph.specs.Nodes.{Node}
use Rattle.drv_graph.specs.Plans.{Graph}
use Rattle.valid_table.specs.declared.entry.Entry.{Entry}
use Rattle.run_states.specs.StateTables.{AreWanted, StateTable, table_state}
use Rattle.run_report.specs.Listing.{IsMarked}
use Rattle.run_report.specs.NamedPaths.{IsNamedIn, named_at}
use Rattle.run_report.specs.Reports.{AreByPath, IsReport, IsReportIn, IsReportOf, IsTold, IsWantedIn, outputs_at, told_at}
use Rattle.run_report.specs.declared.report.tense.Tense.{Tense}
use Rattle.run_report.specs.declared.report.tense.Tense.TheVariants.{Past}
use Rattle.run_states.specs.Runs.{History, IsWanted, Run, state_in}
use Rattle.run_states.specs.declared.state.State.{State}
use Rattle.run_states.proofs.Wanting.{marked_within}

-- by the same words of each element the texts are the same
pub same_texts : {X : Type 0} (f g : X → List ℕ) (xs : List X) → ((x : X) → f x ≡ g x)
    → flat_map f xs
    ≡ flat_map g xs
same_texts f g [] same = refl
same_texts f g (x ∷ xs) same = search (rules, same_texts f g xs same)

-- the marks of what is wanted tell just that
pub marks_told : (run : Run) (opening : List Entry) (wanted : List Bool)
    → AreWanted run opening wanted → (d : ℕ)
    → IsMarked wanted (length run.graph.nodes) d ↔ IsWanted run opening d
marks_told run opening wanted are d = search (rules, marked_within)

-- the derivations by path, in other words
pub by_path_moved : (nodes : List Node) (is_wanted is_wanted' : ℕ → Type 0) (numbers : List ℕ)
    → ((d : ℕ) → is_wanted d ↔ is_wanted' d) → AreByPath nodes is_wanted numbers
    → AreByPath nodes is_wanted' numbers
by_path_moved nodes is_wanted is_wanted' numbers same by_path = search rules

-- what is told of a plan, in other words for the same
pub told_moved : (tense : Tense) (graph : Graph) (is_wanted is_wanted' : ℕ → Type 0)
    (is_named is_named' : ℕ → Option (List ℕ) → Type 0) (state state' : ℕ → State)
    (text : List ℕ) → ((d : ℕ) → is_wanted d ↔ is_wanted' d)
    → ((d : ℕ) (named : Option (List ℕ)) → is_wanted d → is_named d named → is_named' d named)
    → ((d : ℕ) → state d ≡ state' d) → IsTold tense graph is_wanted is_named state text
    → IsTold tense graph is_wanted' is_named' state' text
told_moved tense graph is_wanted is_wanted' is_named is_named' state state' text wanted_same
    named_same states_same told = record {
      wanted = told.wanted;
      by_path = by_path_moved graph.nodes is_wanted is_wanted' told.wanted wanted_same
          told.by_path;
      named = told.named;
      are_named = λ d is.
          let was = (wanted_same d).1 is in
          named_same d (told.named d) was (told.are_named d was);
      is_text = told.is_text ∙ texts;
    }
  where
    texts : flat_map (told_at tense graph.nodes told.named state) told.wanted
        ++ flat_map (outputs_at graph.nodes state) graph.roots
        ≡ flat_map (told_at tense graph.nodes told.named state') told.wanted
        ++ flat_map (outputs_at graph.nodes state') graph.roots
    texts =
        ap (λ (l : List ℕ). l ++ flat_map (outputs_at graph.nodes state) graph.roots)
        (same_texts (told_at tense graph.nodes told.named state)
        (told_at tense graph.nodes told.named state') told.wanted
        (λ d. ap (λ (s : State). told_at tense graph.nodes told.named (λ _. s) d)
        (states_same d)))
        ∙ ap (λ (l : List ℕ). flat_map (told_at tense graph.nodes told.named state') told.wanted
        ++ l)
        (same_texts (outputs_at graph.nodes state) (outputs_at graph.nodes state') graph.roots
        (λ d. ap (λ (s : State). outputs_at graph.nodes (λ _. s) d) (states_same d)))

-- where a state table says of each derivation of a run whether it is wanted, and has its state,
-- and a list has the path that the line of each names
pub report_in : (run : Run) (history : History) (table : StateTable)
    (named : List (Option (List ℕ))) (text : List ℕ) → table.graph ≡ run.graph
    → AreWanted run history.opening table.wanted
    → ((d : ℕ) → table_state table d ≡ state_in run history d)
    → ((d : ℕ) → d < length table.graph.nodes
    → IsNamedIn table.graph history.entries d (table_state table d) (named_at named d))
    → IsReportOf table named text → IsReportIn run history text
report_in run history table named text graph_is are_wanted states are_named report =
    subst (λ (g : Graph). IsReport g (IsWanted run history.opening)
    (λ d path. IsNamedIn g history.entries d (state_in run history d) path)
    (state_in run history) text) graph_is
    (told_moved Past table.graph (IsWantedIn table) (IsWanted run history.opening)
    (λ d path. path ≡ named_at named d)
    (λ d path. IsNamedIn table.graph history.entries d (state_in run history d) path)
    (table_state table) (state_in run history) text wanted named_in states report)
  where
    wanted : (d : ℕ) → IsWantedIn table d ↔ IsWanted run history.opening d
    wanted d =
        subst (λ (g : Graph). IsMarked table.wanted (length g.nodes) d
        ↔ IsWanted run history.opening d) (sym graph_is)
        (marks_told run history.opening table.wanted are_wanted d)

    named_in : (d : ℕ) (path : Option (List ℕ)) → IsWantedIn table d → path ≡ named_at named d
        → IsNamedIn table.graph history.entries d (state_in run history d) path
    named_in d path is at =
        subst (λ (n : Option (List ℕ)). IsNamedIn table.graph history.entries d
        (state_in run history d) n) (sym at)
        (subst (λ (s : State). IsNamedIn table.graph history.entries d s (named_at named d))
        (states d) (are_named d is.0))
