use Rattle.std.proofs.Common.{◌∙◌, ℕ, List, ap, length, subst, sym}
use Rattle.std.proofs.lemmas.List.FromFn.{length-map-range_with_len}
use Rattle.drv_graph.specs.Plans.{Graph}
use Rattle.run_report.specs.Listing.{IsMarked, numbers_of}
use Rattle.run_report.specs.Reports.{AreByPath, path_at}
use Rattle.run_states.specs.Runs.{state_in}
use Rattle.nix_realise.specs.LastLines.{failed_line, failed_marks, is_failed}
use Rattle.nix_realise.proofs.LastLines.{lines_by_number}
use Rattle.nix_realise.proofs.words.last_lines.lines_of_failed.Goals as goal

pub marked_by_path-requires : goal.marked_by_path-requires
marked_by_path-requires g c =
    let run = c.args.book.now.run in
    let history = c.args.book.now.history in
    ap length (c.deref.ensures.value ∙ c.in_ok-marks.ensures)
    ∙ length-map-range_with_len (λ d. is_failed (state_in run history d)) 0
    (length run.graph.nodes)
    ∙ sym (ap (λ (g : Graph). length g.nodes) c.plan.ensures)

pub returns : goal.returns
returns g c =
    let run = c.args.book.now.run in
    let history = c.args.book.now.history in
    let numbers = numbers_of c.in_ok-failed.failed.items in
    let line : ℕ → List ℕ =
    λ d. failed_line c.args.logs.now c.args.store_dir.now (path_at run.graph.nodes d) in
    record {
      numbers = numbers;
      by_path = subst (λ (g : Graph). AreByPath g.nodes
          (IsMarked (failed_marks run history) (length g.nodes)) numbers) c.plan.ensures
          (subst (λ marks. AreByPath c.plan.result.now.nodes
          (IsMarked marks (length c.plan.result.now.nodes)) numbers)
          (c.deref.ensures.value ∙ c.in_ok-marks.ensures) c.in_ok-failed.ensures.by_path);
      is_text = lines_by_number line c.in_ok-failed.failed.items _ _ c.new-lines.ensures.items
          (rw (c.deref-2.ensures.value, c.plan-2.ensures) at c.in_ok-write_failed.ensures);
    }
