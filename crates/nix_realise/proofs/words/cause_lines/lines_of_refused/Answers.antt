use Rattle.std.proofs.Common.{length, subst}
use Rattle.run_report.specs.Listing.{IsMarked, numbers_of}
use Rattle.run_report.specs.Reports.{AreByPath}
use Rattle.nix_realise.specs.CauseLines.{cause_line}
use Rattle.nix_realise.proofs.LastLines.{lines_by_number}
use Rattle.nix_realise.proofs.words.cause_lines.lines_of_refused.Goals as goal

pub returns : goal.returns
returns c =
    let nodes = c.args.plan.now.nodes in
    let numbers = numbers_of c.in_ok-refused.refused.items in
    let marked = subst (λ marks. AreByPath nodes (IsMarked marks (length nodes)) numbers)
    c.deref.ensures.value c.in_ok-refused.ensures.by_path in record {
      numbers = numbers;
      by_path = record {
        just = λ d. (
          λ x. (c.in_ok-marks.ensures.each d).0 ((marked.just d).0 x),
          λ y. (marked.just d).1 ((c.in_ok-marks.ensures.each d).1 y),
        );
        rising = marked.rising;
      };
      is_text = lines_by_number (cause_line c.args.plan.now) c.in_ok-refused.refused.items _ _
          c.new-lines.ensures.items (rw c.deref-2.ensures.value at c.in_ok-write_causes.ensures);
    }
