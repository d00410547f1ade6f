use Rattle.std.proofs.Common.{◌∙◌, ℕ, List, All, ap, arith, map, subst, sym}
use Rattle.serde_json.specs.Data.{put}
use Rattle.valid_table.specs.Valid.{IsValid}
use Rattle.structured_attrs.specs.Attributes.{attributes}
use Rattle.structured_attrs.specs.Graphs.{graph_data, shown_request}
use Rattle.structured_attrs.specs.declared.graph.GraphRow.{GraphRow}
use Rattle.builder_start.specs.Graphs.{AreGraphPaths, IsInGraph, MayBeGraph}
use Rattle.builder_start.specs.Structured.{texts_asked}
use Rattle.builder_start.specs.private.Shown.{texts_of}
use Rattle.builder_start.proofs.GraphStarts.{may_be_fewer}
use Rattle.builder_start.proofs.GraphsSet.{all_set, none_set, one_set}
use Rattle.builder_start.proofs.TextsAsked.{graph_of_request, nars_of_request, of_request, texts_of_request}
use Rattle.builder_start.proofs.graphs.set_graphs.Goals as goal

pub requests-init : goal.requests-init
requests-init c =
    none_set c.args.rows.now c.args.whole.now c.args.requests.now (attributes c.args.given.now)

pub graph_of-requires-clause-valid : goal.graph_of-requires-clause-valid
graph_of-requires-clause-valid c =
    let P = IsValid c.args.rows.now in
    subst (λ ss. All P (texts_of ss)) (sym c.deref.ensures.value)
    (of_request P c.args.requests.now c.requests.request-index c.request-item.result (omega arith)
    c.request-item.is c.requires.good.valid)

pub graph_of-requires-clause-may_be : goal.graph_of-requires-clause-may_be
graph_of-requires-clause-may_be c =
    subst (λ ss. MayBeGraph c.args.rows.now c.args.whole.now (texts_of ss))
    (sym c.deref.ensures.value)
    (may_be_fewer c.args.rows.now c.args.whole.now (texts_of c.request-item.result.paths.items)
    (texts_asked (map shown_request c.args.requests.now))
    (texts_of_request c.args.requests.now c.requests.request-index c.request-item.result
    (omega arith) c.request-item.is) c.requires.good.may_be)

pub graph_of-requires-clause-nars : goal.graph_of-requires-clause-nars
graph_of-requires-clause-nars c =
    λ row is. nars_of_request c.args.rows.now c.args.whole.now c.args.requests.now
    c.requests.request-index c.request-item.result (omega arith) c.request-item.is c.requires.nars
    row
    (subst (λ ss. IsInGraph c.args.rows.now c.args.whole.now (texts_of ss) row.path)
    c.deref.ensures.value is)

pub requests-preserved : goal.requests-preserved
requests-preserved c =
    let rows = c.args.rows.now in
    let whole = c.args.whole.now in
    let item = c.request-item.result in
    let graph = c.in_ok-graph.graph.items in
    let now = attributes c.requests.given in
    let paths : AreGraphPaths rows whole (texts_of item.paths.items)
    (map (λ (r : GraphRow). r.registration.path) graph) =
    subst (λ ss. AreGraphPaths rows whole (texts_of ss)
    (map (λ (r : GraphRow). r.registration.path) graph))
    c.deref.ensures.value c.in_ok-graph.ensures.paths in
    one_set rows whole c.args.requests.now c.requests.request-index item
    (attributes c.args.given.now) now (attributes c.set_graph.new.self) graph (omega arith)
    c.request-item.is c.requests.invariant
    (graph_of_request rows whole item graph paths c.in_ok-graph.ensures.each)
    (c.in_ok-set_graph.ensures.ok
    ∙ ap (λ (k : List ℕ). put k (graph_data c.deref-in-requests.result.now) now) c.as_str.ensures.value
    ∙ ap (λ (g : List GraphRow). put (shown_request item).0 (graph_data g) now)
    c.deref-in-requests.ensures.value)

pub returns : goal.returns
returns c =
    all_set c.args.rows.now c.args.whole.now c.args.requests.now c.requests.request-index
    (attributes c.args.given.now) (attributes c.requests.given) (omega arith)
    c.requests.invariant
