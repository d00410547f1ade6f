-- A report tells what the forecast told, line by line.
use Rattle.std.proofs.Common.{◌≡◌, ◌∙◌, inl, inr, ℕ, Bool, true, false, List, [], ◌∷◌, ◌++◌, map, codes, Option, Some, None, refl, sym, ap, if◌then◌else◌, rules}
use Rattle.std.specs.Prelude.{Contains, flat_map, slice_get}
use Rattle.std.proofs.lemmas.Grind.{flat_map-append}
use Rattle.std.proofs.lemmas.List.{append-nil}
use Rattle.std.proofs.lemmas.List.Folds.{flat_map-map}
use Rattle.drv_graph.specs.Nodes.{Node}
use Rattle.drv_graph.specs.PlanNodes.{output_paths_of}
use Rattle.run_report.specs.Reports.{lines_if_some, line_of, outputs_at, path_line, told_at}
use Rattle.run_states.specs.Runs.{IsWanted, state_in, wanted_root}
use Rattle.run_report.proofs.NamedPaths.{one_report_in}
use Rattle.run_states.specs.States.{is_good}
use Rattle.run_report.specs.Words.{refusal_words}
use Rattle.run_states.specs.declared.state.State.{State}
use Rattle.run_states.specs.declared.state.State.TheVariants.{Done, Refused, Reused}
use Rattle.run_report.proofs.OneReport.{lines_alike}
use Rattle.run_states.proofs.StateLaws.{all_same}
use Rattle.run_report.specs.Forecasts.{foretold}
use Rattle.run_report.specs.Truths.{Build, ForecastLine, Output, Refuse, ReportsComeTrue, Reuse, WholeComesTrue, telling}
use Rattle.run_report.specs.declared.report.tense.Tense.{Tense}
use Rattle.run_report.specs.declared.report.tense.Tense.TheVariants.{Future, Past}
use Rattle.run_report.proofs.Foretelling.{IsClosed, forecasts_are_closed}
use Rattle.run_report.proofs.Spared.{states_come_true}

-- ---- what is told of a derivation, and of its outputs

abbrev told : List Node → Node → State → List ForecastLine
told nodes node Done = Build node.path ∷ []
told nodes node Reused = Reuse node.path ∷ []
told nodes node (Refused cause) = Refuse node.path (refusal_words nodes node.drv cause) ∷ []
told nodes node state = []

abbrev outputs_told : Node → State → List ForecastLine
outputs_told node state = if is_good state then map Output (output_paths_of node.drv) else []

abbrev of_node : (Node → List ForecastLine) → Option Node → List ForecastLine
of_node lines (Some node) = lines node
of_node lines None = []

abbrev lines_at : List Node → (state : ℕ → State) → ℕ → List ForecastLine
lines_at nodes state d = of_node (λ node. told nodes node (state d)) (slice_get nodes d)

abbrev outputs_told_at : List Node → (state : ℕ → State) → ℕ → List ForecastLine
outputs_told_at nodes state d = of_node (λ node. outputs_told node (state d)) (slice_get nodes d)

-- ---- how it is told

line_alone : (tell : ForecastLine → List ℕ) (line : ForecastLine)
    → tell line ≡ flat_map tell (line ∷ [])
line_alone tell line = sym (append-nil (tell line))

told_line : (tense : Tense) (nodes : List Node) (named : Option (List ℕ)) (node : Node) (s : State)
    → IsClosed s
    → line_of tense nodes named node s ≡ flat_map (telling tense) (told nodes node s)
told_line tense nodes named node s (inl is) = search (rules, nodes, told, line_alone)
told_line tense nodes named node s (inr (inl is)) = search (rules, nodes, told, line_alone)
told_line tense nodes named node s (inr (inr (cause, is))) = search (rules, nodes, told, line_alone)

told_outputs : (tense : Tense) (paths : List (List ℕ)) (good : Bool)
    → (if good then flat_map (path_line (codes "output ")) paths else [])
    ≡ flat_map (telling tense) (if good then map Output paths else [])
told_outputs tense paths true = sym (flat_map-map (telling tense) Output paths)
told_outputs tense paths false = refl

-- of a node, if it is there
told_of_node : (tell : ForecastLine → List ℕ) (texts : Node → List ℕ)
    (lines : Node → List ForecastLine)
    (node : Option Node) → ((n : Node) → texts n ≡ flat_map tell (lines n))
    → lines_if_some texts node ≡ flat_map tell (of_node lines node)
told_of_node tell texts lines (Some node) each = each node
told_of_node tell texts lines None each = refl

-- of some numbers
told_of_all : (tell : ForecastLine → List ℕ) (texts : ℕ → List ℕ) (lines : ℕ → List ForecastLine)
    (numbers : List ℕ) → ((d : ℕ) → texts d ≡ flat_map tell (lines d))
    → flat_map texts numbers ≡ flat_map tell (flat_map lines numbers)
told_of_all tell texts lines [] each = refl
told_of_all tell texts lines (d ∷ ds) each =
    ap (λ (l : List ℕ). l ++ flat_map texts ds) (each d)
    ∙ ap (λ (l : List ℕ). flat_map tell (lines d) ++ l) (told_of_all tell texts lines ds each)
    ∙ sym (flat_map-append tell (lines d) (flat_map lines ds))

-- a text in closed states
module _ (tense : Tense) (nodes : List Node) (named : ℕ → Option (List ℕ)) (state : ℕ → State)
  where
    line_here : (d : ℕ) → IsClosed (state d)
        → told_at tense nodes named state d ≡ flat_map (telling tense) (lines_at nodes state d)
    line_here d closed =
        told_of_node (telling tense) (λ node. line_of tense nodes (named d) node (state d))
        (λ node. told nodes node (state d)) (slice_get nodes d)
        (λ node. told_line tense nodes (named d) node (state d) closed)

    outputs_here : (d : ℕ) → outputs_at nodes state d
        ≡ flat_map (telling tense) (outputs_told_at nodes state d)
    outputs_here d = search (rules, told_of_node, outputs_told, told_outputs)

    pub text_here : (wanted roots : List ℕ) → ((d : ℕ) → IsClosed (state d))
        → flat_map (told_at tense nodes named state) wanted ++ flat_map (outputs_at nodes state) roots
        ≡ flat_map (telling tense)
        (flat_map (lines_at nodes state) wanted ++ flat_map (outputs_told_at nodes state) roots)
    text_here wanted roots closed =
        ap (λ (l : List ℕ). l ++ flat_map (outputs_at nodes state) roots)
        (told_of_all (telling tense) (told_at tense nodes named state) (lines_at nodes state) wanted
        (λ d. line_here d (closed d)))
        ∙ ap (λ (l : List ℕ). flat_map (telling tense) (flat_map (lines_at nodes state) wanted) ++ l)
        (told_of_all (telling tense) (outputs_at nodes state) (outputs_told_at nodes state) roots
        outputs_here)
        ∙ sym (flat_map-append (telling tense) (flat_map (lines_at nodes state) wanted)
        (flat_map (outputs_told_at nodes state) roots))

-- ---- a run's report

pub reports_come_true : ReportsComeTrue
reports_come_true run history ended none text report forecast is_report =
    let nodes = run.graph.nodes in
    let roots = run.graph.roots in
    let wanted = forecast.wanted in
    let named = is_report.named in
    let before = foretold run history.opening in
    let after = state_in run history in
    let closed : (d : ℕ) → IsClosed (before d) =
    λ d. forecasts_are_closed run history.opening d ended.plan in
    let same : (d : ℕ) → IsWanted run history.opening d → after d ≡ before d =
    λ d. states_come_true run history ended none d in
    record {
      lines = flat_map (lines_at nodes before) wanted
          ++ flat_map (outputs_told_at nodes before) roots;
      is_forecast = forecast.is_text
          ∙ text_here Future nodes forecast.named before wanted roots closed;
      is_report =
          one_report_in run history report
          (flat_map (told_at Past nodes named after) wanted
          ++ flat_map (outputs_at nodes after) roots) is_report
          (record {
            wanted = wanted;
            by_path = forecast.by_path;
            named = named;
            are_named = is_report.are_named;
            is_text = refl;
          })
          ∙ ap (λ (l : List ℕ). l ++ flat_map (outputs_at nodes after) roots)
          (lines_alike (told_at Past nodes named after) (told_at Past nodes named before) wanted
          (λ d has. ap (λ s. told_at Past nodes named (λ _. s) d)
          (same d ((forecast.by_path.just d).0 has))))
          ∙ ap (λ (l : List ℕ). flat_map (told_at Past nodes named before) wanted ++ l)
          (lines_alike (outputs_at nodes after) (outputs_at nodes before) roots
          (λ d has. ap (λ s. outputs_at nodes (λ _. s) d) (same d (wanted_root d has))))
          ∙ text_here Past nodes named before wanted roots closed;
    }

pub whole_comes_true : WholeComesTrue
whole_comes_true run history ended none =
    all_same (state_in run history) (foretold run history.opening) run.graph.roots
    (λ root has. states_come_true run history ended none root (wanted_root root has))
