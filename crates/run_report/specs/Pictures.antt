-- *Picture of a forecast*: a graph in Graphviz's language (graphviz.org, "DOT Language"; which
-- nodes, edges, labels and colours it has is this product's own). A text in quotes needs no more
-- than the quotes: a path has only A-Z a-z 0-9 + - . _ ? = and slashes, a name and an output's name
-- have no slash either.
use Rattle.std.specs.Prelude.{◌≡◌, Bool, true, false, ℕ, List, [], ◌∷◌, ◌++◌, flat_map, codes, slice_get, if◌then◌else◌}
use Rattle.nix_names.specs.Bytes.{Bytes, Path, Name}
use Rattle.nix_names.specs.Names.{same_bytes}
use Rattle.nix_names.specs.StorePaths.{name_of}
use Rattle.nix_drv.specs.Derivation.{Input}
use Rattle.drv_graph.specs.Nodes.{Node}
use Rattle.drv_graph.specs.Plans.{Graph}
use Rattle.valid_table.specs.declared.entry.Entry.{Entry}
use Rattle.run_report.specs.Reports.{AreByPath, lines_if_some}
use Rattle.run_states.specs.Runs.{IsWanted, Run, is_one_of}
use Rattle.run_states.specs.declared.state.Refusal.TheVariants.{InputNotRealised}
use Rattle.run_states.specs.declared.state.State.{State}
use Rattle.run_states.specs.declared.state.State.TheVariants.{Done, Reused, Refused}
use Rattle.run_report.specs.Forecasts.{foretold}

-- a text in quotes
abbrev pub quoted : Bytes → Bytes
quoted text = codes "\"" ++ text ++ codes "\""

-- how the node of a derivation is filled, by its foretold state: it is built, reused or refused
abbrev pub fill_of : State → Bytes
fill_of Done = codes "palegreen"
fill_of Reused = codes "lightgrey"
fill_of state = codes "lightcoral"

-- the border of a node: a root has a double one
abbrev pub border_of : (is_root : Bool) → Bytes
border_of is_root = if is_root then codes ", peripheries=2" else []

-- the node of a derivation: its path, with its name
abbrev pub node_line : (path : Path) → State → (is_root : Bool) → Bytes
node_line path state is_root =
    codes "  " ++ quoted path ++ codes " [label=" ++ quoted (name_of path)
    ++ codes ", style=filled, fillcolor=" ++ fill_of state ++ border_of is_root ++ codes "];\n"

-- names with a comma between each two
abbrev pub listed_names : List Name → Bytes
listed_names [] = []
listed_names (name ∷ names) = name ++ flat_map (λ other. codes ", " ++ other) names

-- whether the only name is that of the output `out`
abbrev pub are_out_alone : List Name → Bool
are_out_alone [] = false
are_out_alone (name ∷ []) = same_bytes name (codes "out")
are_out_alone (name ∷ other ∷ names) = false

-- the label of an edge: the names of the outputs that are used of the input, where they aren't just
-- `out`
abbrev pub label_of : (names : List Name) → Bytes
label_of names = if are_out_alone names then []
    else codes " [label=" ++ quoted (listed_names names) ++ codes "]"

-- the edge from a derivation to one of its inputs
abbrev pub edge_line : (user : Path) → Input → Bytes
edge_line user input =
    codes "  " ++ quoted user ++ codes " -> " ++ quoted input.path ++ label_of input.names
    ++ codes ";\n"

-- whether a derivation waits for its inputs, by its foretold state: it is built, or refused for one
-- of them
abbrev pub awaits_inputs : State → Bool
awaits_inputs Done = true
awaits_inputs (Refused (InputNotRealised input)) = true
awaits_inputs state = false

-- the edges from a derivation to the inputs that it waits for, in its text's order, which is that
-- of their paths
abbrev pub edge_lines : Node → State → Bytes
edge_lines node state =
    if awaits_inputs state then flat_map (edge_line node.path) node.drv.inputs else []

-- the node of the derivation with this number
abbrev pub node_at : List Node → (state : ℕ → State) → (is_root : ℕ → Bool) → ℕ → Bytes
node_at nodes state is_root d =
    lines_if_some (λ node. node_line node.path (state d) (is_root d)) (slice_get nodes d)

-- the edges from the derivation with this number to the inputs that it waits for
abbrev pub edges_at : List Node → (state : ℕ → State) → ℕ → Bytes
edges_at nodes state d = lines_if_some (λ node. edge_lines node (state d)) (slice_get nodes d)

-- what is drawn of some derivations, by their numbers: their nodes, then their edges
abbrev pub drawing : List Node → (state : ℕ → State) → (is_root : ℕ → Bool) → (numbers : List ℕ)
    → Bytes
drawing nodes state is_root numbers =
    codes "digraph plan {\n" ++ flat_map (node_at nodes state is_root) numbers
    ++ flat_map (edges_at nodes state) numbers ++ codes "}\n"

-- The text is the picture of a plan, of which these derivations are wanted, by these foretold
-- states: the wanted ones are drawn, by path.
pub record IsDrawing (graph : Graph) (is_wanted : ℕ → Type 0) (state : ℕ → State) (text : Bytes)
    : Type 0 where
  pub wanted : List ℕ
  pub by_path : AreByPath graph.nodes is_wanted wanted
  pub is_text : text ≡ drawing graph.nodes state (is_one_of graph.roots) wanted

-- the text is the picture of the forecast of a run that opens with these entries
abbrev pub IsPicture : Run → (opening : List Entry) → (text : Bytes) → Type 0
IsPicture run opening text = IsDrawing run.graph (IsWanted run opening) (foretold run opening) text
