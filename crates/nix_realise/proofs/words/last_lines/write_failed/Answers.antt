use Rattle.std.proofs.Common.{◌∙◌, ℕ, List, [], ◌++◌, ap, sym}
use Rattle.std.proofs.lemmas.Option.{get_or_from_slice_get}
use Rattle.drv_graph.specs.Nodes.{paths_of}
use Rattle.run_report.specs.Reports.{path_at}
use Rattle.run_report.specs.declared.report.listing.Listed.{Listed}
use Rattle.nix_realise.specs.LastLines.{failed_line}
use Rattle.nix_realise.proofs.LastLines.{line_more}
use Rattle.nix_realise.proofs.words.last_lines.write_failed.Goals as goal

pub failed-preserved : goal.failed-preserved
failed-preserved c =
    let nodes = c.args.plan.now.nodes in
    let out = c.failed.out.items in
    let of_path : List ℕ → List ℕ = failed_line c.args.logs.now c.args.store_dir.now in
    let line : Listed → List ℕ = λ one. of_path (path_at nodes one.number) in
    let path = get_or_from_slice_get (paths_of nodes) c.one-item.result.number
    c.path.result.now [] c.path.ensures.value in
    line_more line c.args.failed.now c.failed.one-index c.one-item.result out _ _
    c.failed-test.true
    (c.in_ok-write_failed_line.ensures ∙ ap (λ p. out ++ of_path p) (sym path)
    ∙ ap (λ one. out ++ line one) c.one-item.is)
    c.failed.invariant
