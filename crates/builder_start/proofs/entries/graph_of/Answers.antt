use Rattle.std.proofs.Common.{◌∙◌, [], ℕ, List, All, subst, sym}
use Rattle.std.proofs.lemmas.List.Elements.{All-cons, All-nil}
use Rattle.std.proofs.lemmas.Result.{IfErr-weaker, IfOk-weaker}
use Rattle.valid_table.specs.Valid.{IsValid}
use Rattle.build_outcome.specs.declared.reason.Reason.TheVariants.{BadGraph}
use Rattle.builder_start.specs.Graphs.{IsGraph, MayBeGraph}
use Rattle.builder_start.specs.private.Shown.{shown_pair}
use Rattle.builder_start.proofs.Files.{why_follows}
use Rattle.builder_start.proofs.Finds.{root_valid}
use Rattle.builder_start.proofs.GoodPairs.{bad_graph, good_pair}
use Rattle.builder_start.proofs.entries.graph_of.Goals as goal

pub graph_from-requires : goal.graph_from-requires
graph_from-requires c =
    let rows = c.args.rows.now in
    subst (All (IsValid rows)) (sym c.from_ref.ensures.value)
    (All-cons (IsValid rows) c.in-Some.root.now []
    (root_valid rows c.args.pair.now.text.now c.in-Some.root.now (sym c.in-Some.ensures))
    (All-nil (IsValid rows)))

pub returns-clause-good : goal.returns-clause-good
returns-clause-good c =
    let rows = c.args.rows.now in
    let whole = c.args.whole.now in
    IfOk-weaker c.graph_from.result _ _
    (λ graph may.
    good_pair rows whole (shown_pair c.args.pair.now) c.in-Some.root.now
    (sym c.is_file_name.ensures ∙ c.if-not-is_file_name.false) (sym c.in-Some.ensures)
    (subst (λ (rs : List (List ℕ)). MayBeGraph rows whole rs) c.from_ref.ensures.value may))
    c.graph_from.ensures.may_be

pub returns-clause-graph : goal.returns-clause-graph
returns-clause-graph c =
    let rows = c.args.rows.now in
    let whole = c.args.whole.now in
    IfOk-weaker c.graph_from.result _ _
    (λ graph is. (
      c.in-Some.root.now,
      sym c.in-Some.ensures,
      subst (λ (rs : List (List ℕ)). IsGraph rows whole rs graph.items) c.from_ref.ensures.value is,
    ))
    c.graph_from.ensures.graph

pub returns-clause-bad : goal.returns-clause-bad
returns-clause-bad c =
    let rows = c.args.rows.now in
    let whole = c.args.whole.now in
    IfErr-weaker c.graph_from.result _ _
    (λ reason why.
    why_follows BadGraph reason
    (λ bad.
    bad_graph rows whole (shown_pair c.args.pair.now) c.in-Some.root.now (sym c.in-Some.ensures)
    (λ may. bad
    (subst (λ (rs : List (List ℕ)). MayBeGraph rows whole rs) (sym c.from_ref.ensures.value) may)))
    why)
    c.graph_from.ensures.bad
