use Rattle.std.proofs.Common.{◌≢◌, ◌∙◌, None, ℕ, List, All, Contains, ap, subst, sym}
use Rattle.std.proofs.lemmas.Result.{IfOk-weaker}
use Rattle.valid_table.specs.Entries.{paths_registered}
use Rattle.valid_table.specs.Valid.{IsValid}
use Rattle.valid_table.specs.declared.entry.Registration.{Registration}
use Rattle.builder_start.specs.Graphs.{AreGraphPaths, IsGraph}
use Rattle.builder_start.specs.private.Shown.{texts_of}
use Rattle.builder_start.proofs.TextsAsked.{graph_nars}
use Rattle.builder_start.proofs.graphs.graph_of.Goals as goal

pub graph_from-requires : goal.graph_from-requires
graph_from-requires c =
    subst (All (IsValid c.args.rows.now)) (sym c.deref.ensures.value) c.in-Ok.ensures.valid

pub rows_of-requires-clause-known : goal.rows_of-requires-clause-known
rows_of-requires-clause-known c =
    subst (All (Contains c.args.rows.now)) (sym c.deref-2.ensures.value)
    c.in-Ok-graph_from.ensures.graph.known

pub rows_of-requires-clause-nars : goal.rows_of-requires-clause-nars
rows_of-requires-clause-nars c =
    let rows = c.args.rows.now in
    let whole = c.args.whole.now in
    let graph = c.in-Ok-graph_from.graph.items in
    let is : IsGraph rows whole c.in-Ok.roots.items graph =
    subst (λ (rs : List (List ℕ)). IsGraph rows whole rs graph) c.deref.ensures.value
    c.in-Ok-graph_from.ensures.graph in
    subst (All (λ (row : Registration). row.info.nar ≢ None)) (sym c.deref-2.ensures.value)
    (graph_nars rows whole c.in-Ok.roots.items (texts_of c.args.texts.now) graph
    c.in-Ok.ensures.ok is c.requires.nars)

pub returns-clause-paths : goal.returns-clause-paths
returns-clause-paths c =
    let rows = c.args.rows.now in
    let whole = c.args.whole.now in
    let graph = c.in-Ok-graph_from.graph.items in
    let texts = texts_of c.args.texts.now in
    let paths : AreGraphPaths rows whole texts (paths_registered graph) =
    subst (λ (rs : List (List ℕ)). AreGraphPaths rows whole rs (paths_registered graph))
    (c.deref.ensures.value ∙ c.in-Ok.ensures.ok) c.in-Ok-graph_from.ensures.graph.paths in
    IfOk-weaker c.rows_of.result _ _
    (λ found same. subst (AreGraphPaths rows whole texts)
    (sym (same ∙ ap paths_registered c.deref-2.ensures.value)) paths)
    c.rows_of.ensures.paths
