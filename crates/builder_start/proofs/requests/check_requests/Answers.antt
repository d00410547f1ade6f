use Rattle.std.proofs.Common.{◌≡◌, ◌∙◌, ℕ, List, All, ap, inl, inr, is_none, map, refl, rules, subst, sym, tests}
use Rattle.std.specs.Prelude.{find}
use Rattle.std.specs.Option.{option_map}
use Rattle.std.proofs.lemmas.Iterator.{YieldsList-from_slice}
use Rattle.std.proofs.lemmas.Iterator.Search.{find_from_yields_List}
use Rattle.std.proofs.lemmas.Result.{err_from_is_err_and}
use Rattle.nix_names.specs.Rising.{IsRising}
use Rattle.valid_table.specs.Entries.{paths_registered}
use Rattle.valid_table.specs.Valid.{IsValid}
use Rattle.valid_table.specs.declared.entry.Registration.{Registration}
use Rattle.structured_attrs.specs.Graphs.{shown_request}
use Rattle.build_outcome.specs.declared.job.WholeInput.{WholeInput}
use Rattle.build_outcome.specs.declared.reason.Reason.TheVariants.{BadGraph}
use Rattle.builder_start.specs.Graphs.{IsGraph, MayBeGraph}
use Rattle.builder_start.proofs.Files.{why_follows}
use Rattle.builder_start.proofs.Lacking.{first_lacks, found_valid, none_lacks, requests_bad, requests_good}
use Rattle.builder_start.proofs.requests.check_requests.Goals as goal

pub graph_from-requires : goal.graph_from-requires
graph_from-requires c =
    subst (All (IsValid c.args.rows.now)) (sym c.deref-2.ensures.value) c.in_ok-roots.ensures.valid

pub returns-in_err-graph-clause-bad : goal.returns-in_err-graph-clause-bad
returns-in_err-graph-clause-bad c =
    let rows = c.args.rows.now in
    let whole = c.args.job.now.whole_inputs.items in
    let roots = c.in_ok-roots.roots.items in
    let p = err_from_is_err_and c.from_residual-in_err-graph.result
    c.from_residual-in_err-graph.ensures.1 in
    rw (p.1, p.2)
    (inl (why_follows BadGraph _
    (λ bad.
    requests_bad rows whole (map shown_request c.args.requests.now) roots c.in_ok-roots.ensures.ok
    (λ may. bad
    (subst (λ (ws : List WholeInput). MayBeGraph rows ws c.deref-2.result.now)
    (sym c.deref.ensures.value)
    (subst (λ (rs : List (List ℕ)). MayBeGraph rows whole rs) (sym c.deref-2.ensures.value) may))))
    c.in_err-graph.ensures.bad))

pub index_of-requires : goal.index_of-requires
index_of-requires c =
    let rows = c.args.rows.now in
    let whole = c.args.job.now.whole_inputs.items in
    let roots = c.in_ok-roots.roots.items in
    let graph = c.in_ok-graph.graph.items in
    let is : IsGraph rows whole roots graph =
    subst (λ (rs : List (List ℕ)). IsGraph rows whole rs graph) c.deref-2.ensures.value
    (subst (λ (ws : List WholeInput). IsGraph rows ws c.deref-2.result.now graph)
    c.deref.ensures.value c.in_ok-graph.ensures.graph) in
    let found : option_map (λ x. x.now) c.find.result
    ≡ find (λ (r : Registration). is_none r.info.nar) graph
    = find_from_yields_List _ _ _ c.find.result c.find.ensures.ran
    (YieldsList-from_slice graph cc) (λ x b q k. search (rules, tests)) in
    found_valid rows whole roots graph c.in-Some.row.now is
    (sym found ∙ ap (option_map (λ x. x.now)) c.in-Some.is)

pub returns-in-Some-clause-bad : goal.returns-in-Some-clause-bad
returns-in-Some-clause-bad c =
    let rows = c.args.rows.now in
    let whole = c.args.job.now.whole_inputs.items in
    let asked = map shown_request c.args.requests.now in
    let roots = c.in_ok-roots.roots.items in
    let graph = c.in_ok-graph.graph.items in
    let may : MayBeGraph rows whole roots =
    subst (λ (rs : List (List ℕ)). MayBeGraph rows whole rs) c.deref-2.ensures.value
    (subst (λ (ws : List WholeInput). MayBeGraph rows ws c.deref-2.result.now)
    c.deref.ensures.value c.in_ok-graph.ensures.may_be) in
    let is : IsGraph rows whole roots graph =
    subst (λ (rs : List (List ℕ)). IsGraph rows whole rs graph) c.deref-2.ensures.value
    (subst (λ (ws : List WholeInput). IsGraph rows ws c.deref-2.result.now graph)
    c.deref.ensures.value c.in_ok-graph.ensures.graph) in
    let found : option_map (λ x. x.now) c.find.result
    ≡ find (λ (r : Registration). is_none r.info.nar) graph
    = find_from_yields_List _ _ _ c.find.result c.find.ensures.ran
    (YieldsList-from_slice graph cc) (λ x b q k. search (rules, tests)) in
    inr (
      c.in_ok-index_of-in-Some.field-0,
      refl,
      requests_good rows whole asked roots c.in_ok-roots.ensures.ok c.in_ok-roots.ensures.valid may,
      first_lacks rows c.args.job.now roots graph asked c.in-Some.row.now
          c.in_ok-index_of-in-Some.field-0
          (subst (λ (rs : List Registration). IsRising (paths_registered rs))
          c.as_slice.ensures.value c.as_slice.ensures.rising)
          c.in_ok-roots.ensures.ok is (sym found ∙ ap (option_map (λ x. x.now)) c.in-Some.is)
          c.in_ok-index_of-in-Some.ensures,
    )

pub returns-clause-good : goal.returns-clause-good
returns-clause-good c =
    let rows = c.args.rows.now in
    let whole = c.args.job.now.whole_inputs.items in
    let may : MayBeGraph rows whole c.in_ok-roots.roots.items =
    subst (λ (rs : List (List ℕ)). MayBeGraph rows whole rs) c.deref-2.ensures.value
    (subst (λ (ws : List WholeInput). MayBeGraph rows ws c.deref-2.result.now)
    c.deref.ensures.value c.in_ok-graph.ensures.may_be) in
    requests_good rows whole (map shown_request c.args.requests.now) c.in_ok-roots.roots.items
    c.in_ok-roots.ensures.ok c.in_ok-roots.ensures.valid may

pub returns-clause-nars : goal.returns-clause-nars
returns-clause-nars c =
    let rows = c.args.rows.now in
    let whole = c.args.job.now.whole_inputs.items in
    let roots = c.in_ok-roots.roots.items in
    let graph = c.in_ok-graph.graph.items in
    let is : IsGraph rows whole roots graph =
    subst (λ (rs : List (List ℕ)). IsGraph rows whole rs graph) c.deref-2.ensures.value
    (subst (λ (ws : List WholeInput). IsGraph rows ws c.deref-2.result.now graph)
    c.deref.ensures.value c.in_ok-graph.ensures.graph) in
    let found : option_map (λ x. x.now) c.find.result
    ≡ find (λ (r : Registration). is_none r.info.nar) graph
    = find_from_yields_List _ _ _ c.find.result c.find.ensures.ran
    (YieldsList-from_slice graph cc) (λ x b q k. search (rules, tests)) in
    none_lacks rows whole roots graph (map shown_request c.args.requests.now)
    (subst (λ (rs : List Registration). IsRising (paths_registered rs))
    c.as_slice.ensures.value c.as_slice.ensures.rising)
    c.in_ok-roots.ensures.ok is (sym found ∙ ap (option_map (λ x. x.now)) c.in-None.is)
