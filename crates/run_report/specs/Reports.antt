-- *Texts out*, what is told of a plan: in a report what became of each wanted derivation, in a
-- forecast what will become of it, and in both the outputs of the roots (this product's own).
use Rattle.std.specs.Prelude.{◌≡◌, ◌<◌, ◌↔◌, true, false, ℕ, Option, Some, None, List, [], ◌++◌, length, map, flat_map, codes, slice_get, Contains, if◌then◌else◌}
use Rattle.std.specs.List.{slice_index_or}
use Rattle.nix_names.specs.Bytes.{Bytes, Path}
use Rattle.nix_names.specs.Rising.{IsRising}
use Rattle.drv_graph.specs.Nodes.{Node, paths_of}
use Rattle.drv_graph.specs.PlanNodes.{output_paths_of}
use Rattle.drv_graph.specs.Plans.{Graph}
use Rattle.run_states.specs.StateTables.{StateTable, table_state}
use Rattle.run_states.specs.Runs.{History, IsWanted, Run, state_in}
use Rattle.run_states.specs.States.{is_good}
use Rattle.run_report.specs.NamedPaths.{IsNamedIn, named_at}
use Rattle.run_report.specs.Words.{reason_words, refusal_words}
use Rattle.run_report.specs.declared.report.tense.Tense.{Tense}
use Rattle.run_report.specs.declared.report.tense.Tense.TheVariants.{Past, Future}
use Rattle.run_states.specs.declared.state.State.{State}
use Rattle.run_states.specs.declared.state.State.TheVariants.{Done, Failed, Reused, Refused}

-- a line of a word and a path
abbrev pub path_line : (word : Bytes) → (path : Path) → Bytes
path_line word path = word ++ path ++ codes "\n"

-- a line of a word, a path, and why
abbrev pub why_line : (word : Bytes) → (path : Path) → (why : Bytes) → Bytes
why_line word path why = word ++ path ++ codes ": " ++ why ++ codes "\n"

-- the words for what becomes of a derivation, each with the space after it: in a report, and in a
-- forecast
abbrev pub built_word : Tense → Bytes
built_word Past = codes "built "
built_word Future = codes "build "

abbrev pub reused_word : Tense → Bytes
reused_word Past = codes "reused "
reused_word Future = codes "reuse "

abbrev pub failed_word : Tense → Bytes
failed_word Past = codes "failed "
failed_word Future = codes "fail "

abbrev pub refused_word : Tense → Bytes
refused_word Past = codes "refused "
refused_word Future = codes "refuse "

-- the line of a derivation of a plan, which has these nodes, where it names this path; none while
-- it is Blocked, Ready or Building
abbrev pub line_of : Tense → List Node → (named : Option Path) → Node → State → Bytes
line_of tense nodes named node Done = path_line (built_word tense) node.path
line_of tense nodes named node Reused = path_line (reused_word tense) node.path
line_of tense nodes named node (Failed reason) = why_line (failed_word tense) node.path
    (reason_words node.drv named reason)
line_of tense nodes named node (Refused cause) = why_line (refused_word tense) node.path
    (refusal_words nodes node.drv cause)
line_of tense nodes named node state = []

-- a line for each output of a derivation that is built or reused, in its text's order
abbrev pub output_lines : Node → State → Bytes
output_lines node state = if is_good state then flat_map (path_line (codes "output "))
    (output_paths_of node.drv) else []

-- the lines of a node, if there is one
abbrev pub lines_if_some : (Node → Bytes) → Option Node → Bytes
lines_if_some lines (Some node) = lines node
lines_if_some lines None = []

-- the line of the derivation with this number, where each line names these paths
abbrev pub told_at : Tense → List Node → (named : ℕ → Option Path) → (state : ℕ → State) → ℕ
    → Bytes
told_at tense nodes named state d =
    lines_if_some (λ node. line_of tense nodes (named d) node (state d)) (slice_get nodes d)

-- its line in a report
abbrev pub line_at : List Node → (named : ℕ → Option Path) → (state : ℕ → State) → ℕ → Bytes
line_at nodes named state = told_at Past nodes named state

-- the lines of the outputs of the derivation with this number
abbrev pub outputs_at : List Node → (state : ℕ → State) → ℕ → Bytes
outputs_at nodes state d = lines_if_some (λ node. output_lines node (state d)) (slice_get nodes d)

-- the path of the derivation with this number
abbrev pub path_at : List Node → ℕ → Path
path_at nodes d = slice_index_or (paths_of nodes) d []

-- The numbers are just those of the wanted derivations, in the order of their paths.
pub record AreByPath (nodes : List Node) (is_wanted : ℕ → Type 0) (numbers : List ℕ) : Type 0 where
  pub just : (d : ℕ) → Contains numbers d ↔ is_wanted d
  pub rising : IsRising (map (path_at nodes) numbers)

-- The text tells of a plan, of which these derivations are wanted, in these states, where each
-- line names such a path: the lines of the wanted ones, by path, then the lines of each root's
-- outputs, in the order of the roots.
pub record IsTold (tense : Tense) (graph : Graph) (is_wanted : ℕ → Type 0)
    (is_named : ℕ → Option Path → Type 0) (state : ℕ → State) (text : Bytes) : Type 0 where
  pub wanted : List ℕ
  pub by_path : AreByPath graph.nodes is_wanted wanted
  pub named : ℕ → Option Path
  pub are_named : (d : ℕ) → is_wanted d → is_named d (named d)
  pub is_text : text ≡ flat_map (told_at tense graph.nodes named state) wanted
      ++ flat_map (outputs_at graph.nodes state) graph.roots

-- the text is the report of such a plan
abbrev pub IsReport : Graph → (is_wanted : ℕ → Type 0) → (is_named : ℕ → Option Path → Type 0)
    → (state : ℕ → State) → (text : Bytes) → Type 0
IsReport graph is_wanted is_named state text = IsTold Past graph is_wanted is_named state text

-- a derivation of a state table is wanted
abbrev pub IsWantedIn : StateTable → ℕ → Type 0
IsWantedIn table d = (d < length table.graph.nodes)
    × (slice_index_or table.wanted d false ≡ true)

-- the text is the report of a state table, where each line names the path that a list has for it
abbrev pub IsReportOf : StateTable → (named : List (Option Path)) → (text : Bytes) → Type 0
IsReportOf table named text = IsReport table.graph (IsWantedIn table)
    (λ d path. path ≡ named_at named d) (table_state table) text

-- the text is the report of a run with this history
abbrev pub IsReportIn : Run → History → (text : Bytes) → Type 0
IsReportIn run history text = IsReport run.graph (IsWanted run history.opening)
    (λ d path. IsNamedIn run.graph history.entries d (state_in run history d) path)
    (state_in run history) text

-- a run with this history has one report
abbrev pub ReportIsOne : Type 0
ReportIsOne = (run : Run) (history : History) (a b : Bytes) → IsReportIn run history a
    → IsReportIn run history b → a ≡ b
