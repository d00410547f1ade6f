-- The picture of a forecast, by what the code writes.
use Rattle.std.proofs.Common.{◌≡◌, ◌∙◌, ⊎_elim, inr, ℕ, zero, suc, Bool, true, false, List, [], ◌∷◌, ◌++◌, Some, codes, length, map, replicate, sym, ap, rules}
use Rattle.std.specs.Prelude.{Vec, flat_map, slice_get}
use Rattle.std.specs.declared.alloc.Global.{Global}
use Rattle.std.specs.List.{slice_index_or}
use Rattle.std.proofs.lemmas.Bool.{false≢true}
use Rattle.std.proofs.lemmas.List.{length-replicate}
use Rattle.std.proofs.lemmas.List.Folds.{flat_map-map}
use Rattle.nix_drv.specs.Derivation.{Drv}
use Rattle.nix_drv.specs.Parts.{bytes_of, input_of}
use Rattle.nix_drv.specs.declared.derivation.Input.{Input as InputStruct}
use Rattle.drv_graph.specs.Nodes.{Node, paths_of}
use Rattle.drv_graph.specs.PlanNodes.{drvs_of}
use Rattle.drv_graph.specs.Plans.{Graph}
use Rattle.run_report.specs.Listing.{IsMarked, numbers_of}
use Rattle.run_report.specs.Reports.{lines_if_some}
use Rattle.run_states.specs.Runs.{IsWanted, Run, is_one_of}
use Rattle.run_states.specs.StateTables.{AreWanted}
use Rattle.valid_table.specs.declared.entry.Entry.{Entry}
use Rattle.run_report.specs.Forecasts.{foretold}
use Rattle.run_report.specs.declared.report.listing.Listed.{Listed}
use Rattle.run_states.specs.declared.state.State.{State}
use Rattle.run_report.proofs.PlanDrvs.{drv_is}
use Rattle.run_report.proofs.RunReports.{by_path_moved, marks_told, same_texts}
use Rattle.run_states.proofs.Tests.{is_among, is_found, same_test}
use Rattle.run_states.proofs.Wanting.{Marks, none_marked}
use Rattle.run_report.specs.private.Marks.{AreRoots, is_marked}
use Rattle.run_report.specs.Pictures.{IsDrawing, IsPicture, awaits_inputs, drawing, edge_line, edges_at, listed_names, node_at, node_line}

-- ---- what is written

-- a derivation of a plan, by its path
node_from : (nodes : List Node) (number : ℕ) (path : List ℕ)
    → slice_get (paths_of nodes) number ≡ Some path
    → (node : Node) × (slice_get nodes number ≡ Some node) × (node.path ≡ path)
node_from [] number path at = absurd cc
node_from (n ∷ ns) zero path at = search rules
node_from (n ∷ ns) (suc k) path at = node_from ns k path at

-- the node of a derivation of a plan
pub node_told : (nodes : List Node) (number : ℕ) (path : List ℕ) (state : State) (is_root : Bool)
    → slice_get (paths_of nodes) number ≡ Some path
    → node_line path state is_root ≡ node_at nodes (λ _. state) (λ _. is_root) number
node_told nodes number path state is_root at = search (rules, node_from, number)

-- the edges of a derivation of a plan that waits for its inputs
pub edges_told : (nodes : List Node) (number : ℕ) (path : List ℕ) (drv : Drv)
    (inputs : List InputStruct) (state : State) → slice_get (paths_of nodes) number ≡ Some path
    → slice_get (drvs_of nodes) number ≡ Some drv → map input_of inputs ≡ drv.inputs
    → awaits_inputs state ≡ true
    → flat_map (λ (i : InputStruct). edge_line path (input_of i)) inputs
    ≡ edges_at nodes (λ _. state) number
edges_told nodes number path drv inputs state at is_drv are waits =
    search (rules, node_from, number, drv_is, flat_map-map)

-- names with a comma between each two, the first apart
pub names_listed : (names : List (Vec ℕ Global)) (first : Vec ℕ Global)
    (others : List (Vec ℕ Global)) (text : List ℕ) → names ≡ first ∷ others → text ≡ first.items
    → text ++ flat_map (λ (v : Vec ℕ Global). codes ", " ++ v.items) others
    ≡ listed_names (map bytes_of names)
names_listed names first others text is same = search (rules, codes, flat_map-map)

-- ---- what is drawn

-- the roots alone are marked
pub roots_are : (graph : Graph) (old new : List Bool) → old ≡ replicate (length graph.nodes) false
    → Marks old new graph.roots → AreRoots graph new
roots_are graph old new none marks = record {
  count = marks.count ∙ ap length none ∙ length-replicate (length graph.nodes) false;
  each = λ d. same_test (is_marked new d) (is_one_of graph.roots d)
      (λ is. ⊎_elim
      (λ was. absurd (false≢true (sym (unmarked d) ∙ was)))
      (λ has. is_found graph.roots d has)
      ((marks.each d).0 is))
      (λ is. (marks.each d).1 (inr (is_among graph.roots d is)));
}
  where
    unmarked : (d : ℕ) → slice_index_or old d false ≡ false
    unmarked d = search (rules, none_marked)

-- what is written of listed derivations is drawn of their numbers
pub drawn : (graph : Graph) (state : ℕ → State) (marks : List Bool) (listed : List Listed)
    (start text : List ℕ) → AreRoots graph marks → start ≡ []
    → text ≡ start ++ codes "digraph plan {\n"
    ++ flat_map (λ (l : Listed). node_at graph.nodes state (is_marked marks) l.number) listed
    ++ flat_map (λ (l : Listed). edges_at graph.nodes state l.number) listed ++ codes "}\n"
    → text ≡ drawing graph.nodes state (is_one_of graph.roots) (numbers_of listed)
drawn graph state marks listed start text roots empty is =
    is
    ∙ ap (λ (s : List ℕ). s ++ codes "digraph plan {\n" ++ flat_map nodes_of listed
    ++ flat_map edges_of listed ++ codes "}\n") empty
    ∙ ap (λ (ns : List ℕ). codes "digraph plan {\n" ++ ns ++ flat_map edges_of listed
    ++ codes "}\n")
    (sym (flat_map-map marked number listed)
    ∙ same_texts marked rooted (numbers_of listed)
    (λ d. ap (λ b. lines_if_some (λ node. node_line node.path (state d) b)
    (slice_get graph.nodes d))
    (roots.each d)))
    ∙ ap (λ (es : List ℕ). codes "digraph plan {\n" ++ flat_map rooted (numbers_of listed) ++ es
    ++ codes "}\n") (sym (flat_map-map edges number listed))
  where
    number : Listed → ℕ
    number l = l.number

    marked : ℕ → List ℕ
    marked = node_at graph.nodes state (is_marked marks)

    rooted : ℕ → List ℕ
    rooted = node_at graph.nodes state (is_one_of graph.roots)

    edges : ℕ → List ℕ
    edges = edges_at graph.nodes state

    nodes_of : Listed → List ℕ
    nodes_of l = marked l.number

    edges_of : Listed → List ℕ
    edges_of l = edges l.number

-- the picture by the marks of what is wanted is that of the forecast
pub picture_moved : (run : Run) (opening : List Entry) (wanted : List Bool) (text : List ℕ)
    → AreWanted run opening wanted
    → IsDrawing run.graph (IsMarked wanted (length run.graph.nodes)) (foretold run opening) text
    → IsPicture run opening text
picture_moved run opening wanted text are is = record {
  wanted = is.wanted;
  by_path = by_path_moved run.graph.nodes (IsMarked wanted (length run.graph.nodes))
      (IsWanted run opening) is.wanted (marks_told run opening wanted are) is.by_path;
  is_text = is.is_text;
}
