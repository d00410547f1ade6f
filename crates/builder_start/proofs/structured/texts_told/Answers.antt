use Rattle.std.proofs.Common.{◌≡◌, ◌∙◌, ◌⊎◌, ℕ, List, ap, codes, inl, map, refl, subst, sym}
use Rattle.std.proofs.lemmas.Result.{err_from_is_err_and}
use Rattle.std.specs.List.{AllZip}
use Rattle.serde_json.specs.Data.{put}
use Rattle.structured_attrs.specs.Attributes.{attributes}
use Rattle.structured_attrs.specs.Graphs.{outputs_data, shown_request}
use Rattle.structured_attrs.specs.declared.graph.GraphRequest.{GraphRequest}
use Rattle.structured_attrs.specs.declared.graph.GraphRow.{GraphRow}
use Rattle.structured_attrs.specs.declared.outputs.OutputPath.{OutputPath}
use Rattle.build_outcome.specs.declared.job.WholeInput.{WholeInput}
use Rattle.build_outcome.specs.declared.reason.Reason.TheVariants.{BadGraph, UnknownNar}
use Rattle.builder_start.specs.Structured.{AreGoodRequests, IsFirstWithoutNar, IsGraphOf, LacksNar, with_graphs}
use Rattle.builder_start.specs.private.Shown.{IsWhy}
use Rattle.builder_start.proofs.Told.{texts_made, untold}
use Rattle.builder_start.proofs.structured.texts_told.Goals as goal

pub returns-in_err-given-clause-bad : goal.returns-in_err-given-clause-bad
returns-in_err-given-clause-bad c =
    let p = err_from_is_err_and c.from_residual.result c.from_residual.ensures.1 in
    rw (p.1, p.2) (inl c.in_err-given.ensures.bad)

pub returns-in_err-check_requests-clause-bad : goal.returns-in_err-check_requests-clause-bad
returns-in_err-check_requests-clause-bad c =
    let rows = c.args.rows.now in
    let whole = c.args.job.now.whole_inputs.items in
    let reason = c.in_err-check_requests.field-0.0 in
    let p = err_from_is_err_and c.from_residual-in_err-check_requests.result c.from_residual-in_err-check_requests.ensures.1 in
    rw (p.1, p.2)
    (untold rows c.args.job.now c.args.text.now c.in_ok-given.given reason c.in_ok-given.ensures.ok
    (subst (λ (rs : List GraphRequest).
    IsWhy BadGraph (AreGoodRequests rows whole (map shown_request rs) → ⊥) reason
    ⊎ ((index : ℕ) × (reason ≡ UnknownNar index) × AreGoodRequests rows whole (map shown_request rs)
    × IsFirstWithoutNar rows c.args.job.now (map shown_request rs) index))
    c.deref.ensures.value c.in_err-check_requests.ensures.bad))

pub set_graphs-requires-clause-good : goal.set_graphs-requires-clause-good
set_graphs-requires-clause-good c =
    let rows = c.args.rows.now in
    subst (λ (ws : List WholeInput). AreGoodRequests rows ws (map shown_request c.deref-4.result.now))
    (sym c.deref-3.ensures.value)
    (subst (λ (rs : List GraphRequest).
    AreGoodRequests rows c.args.job.now.whole_inputs.items (map shown_request rs))
    (c.deref.ensures.value ∙ sym c.deref-4.ensures.value) c.in_ok-check_requests.ensures.good)

pub set_graphs-requires-clause-nars : goal.set_graphs-requires-clause-nars
set_graphs-requires-clause-nars c =
    let rows = c.args.rows.now in
    subst (λ (ws : List WholeInput). (path : List ℕ)
    → LacksNar rows ws (map shown_request c.deref-4.result.now) path → ⊥)
    (sym c.deref-3.ensures.value)
    (subst (λ (rs : List GraphRequest). (path : List ℕ)
    → LacksNar rows c.args.job.now.whole_inputs.items (map shown_request rs) path → ⊥)
    (c.deref.ensures.value ∙ sym c.deref-4.ensures.value) c.in_ok-check_requests.ensures.nars)

pub returns-clause-ok : goal.returns-clause-ok
returns-clause-ok c =
    let rows = c.args.rows.now in
    let whole = c.args.job.now.whole_inputs.items in
    let given = c.in_ok-given.given in
    let before = attributes c.set_outputs.new.self in
    let after = attributes c.set_graphs.new.given in
    texts_made rows c.args.job.now c.args.text.now given before after _ c.in_ok-given.ensures.ok
    (subst (λ (rs : List GraphRequest). AreGoodRequests rows whole (map shown_request rs))
    c.deref.ensures.value c.in_ok-check_requests.ensures.good)
    (c.in_ok-set_outputs.ensures.ok
    ∙ ap (λ (os : List OutputPath). put (codes "outputs") (outputs_data os) (attributes given.attributes))
    c.deref-2.ensures.value)
    (subst (λ (rs : List GraphRequest). (graphs : List (List ℕ × List GraphRow))
    × AllZip (IsGraphOf rows whole) (map shown_request rs) graphs
    × (after ≡ with_graphs graphs before))
    c.deref-4.ensures.value
    (subst (λ (ws : List WholeInput). (graphs : List (List ℕ × List GraphRow))
    × AllZip (IsGraphOf rows ws) (map shown_request c.deref-4.result.now) graphs
    × (after ≡ with_graphs graphs before))
    c.deref-3.ensures.value c.in_ok-set_graphs.ensures))
    c.in_ok-json_text.ensures.text c.in_ok-shell_text.ensures refl
