use Rattle.std.proofs.Common.{◌∙◌, ℕ, List, [], ◌++◌, ap, sym}
use Rattle.std.proofs.lemmas.Option.{get_or_from_slice_get}
use Rattle.drv_graph.specs.Nodes.{paths_of}
use Rattle.run_report.specs.declared.report.listing.Listed.{Listed}
use Rattle.nix_realise.specs.CauseLines.{cause_if, cause_line}
use Rattle.nix_realise.proofs.LastLines.{line_more}
use Rattle.nix_realise.proofs.words.cause_lines.write_causes.Goals as goal

pub refused-preserved : goal.refused-preserved
refused-preserved c =
    let nodes = c.args.plan.now.nodes in
    let out = c.refused.out.items in
    let line : Listed → List ℕ = λ one. cause_line c.args.plan.now one.number in
    let path = get_or_from_slice_get (paths_of nodes) c.one-item.result.number
    c.path.result.now [] c.path.ensures.value in
    let cause = c.cause_of-cause.ensures ∙ sym (ap (cause_if c.profile-profile.result) c.drv.ensures) in
    line_more line c.args.refused.now c.refused.one-index c.one-item.result out _ _
    c.refused-test.true
    (rw (cause, c.profile-profile.ensures, sym path) at c.in_ok-write_cause.ensures
    ∙ ap (λ one. out ++ line one) c.one-item.is)
    c.refused.invariant
