use Rattle.std.proofs.Common.{max, min, not, refl, ap, ◌∙◌}
use Rattle.process_build.specs.Progress.{Ended, begins, ends_badly, ends_well}
use Rattle.process_build.specs.declared.observe.counts.JobCounts.{JobCounts}
use Rattle.process_build.proofs.Counting.{all_push, count_more, count_same, unsettled_push}
use Rattle.process_build.proofs.observe.counts.JobCounts.end.Goals.{then-is_good, else-is_good}
use Rattle.process_build.proofs.observe.counts.JobCounts.end.Goals as goal

pub returns : goal.returns
returns c calls h =
    let call = Ended c.args.is_good c.args.unsettled in
    let u = c.args.unsettled in
    let e = c.learn.ensures in
    elim c.if-is_good.branch [
      | then-is_good w ↦
          let f = w.self-is in
          record {
            begun = count_same begins calls call _ _ refl h.begun
                (ap (λ (t : JobCounts). t.begun) e ∙ ap (λ (t : JobCounts). t.begun) f);
            built = count_more ends_well calls call _ _ w.if-is_good.true h.built
                (ap (λ (t : JobCounts). t.built) e ∙ ap (λ (t : JobCounts). t.built) f
                ∙ w.saturating_add-self.ensures);
            failed = count_same ends_badly calls call _ _ (ap not w.if-is_good.true) h.failed
                (ap (λ (t : JobCounts). t.failed) e ∙ ap (λ (t : JobCounts). t.failed) f);
            all = all_push calls call _ _ h.all
                (ap (λ (t : JobCounts). t.all) e ∙ ap (λ (t : JobCounts). max t.all u) f);
            unsettled = unsettled_push calls call _ _ h.unsettled
                (ap (λ (t : JobCounts). t.unsettled) e
                ∙ ap (λ (t : JobCounts). min t.unsettled u) f);
          }
      | else-is_good w ↦
          let f = w.self-is in
          record {
            begun = count_same begins calls call _ _ refl h.begun
                (ap (λ (t : JobCounts). t.begun) e ∙ ap (λ (t : JobCounts). t.begun) f);
            built = count_same ends_well calls call _ _ w.if-is_good.false h.built
                (ap (λ (t : JobCounts). t.built) e ∙ ap (λ (t : JobCounts). t.built) f);
            failed = count_more ends_badly calls call _ _ (ap not w.if-is_good.false) h.failed
                (ap (λ (t : JobCounts). t.failed) e ∙ ap (λ (t : JobCounts). t.failed) f
                ∙ w.saturating_add-self-else-is_good.ensures);
            all = all_push calls call _ _ h.all
                (ap (λ (t : JobCounts). t.all) e ∙ ap (λ (t : JobCounts). max t.all u) f);
            unsettled = unsettled_push calls call _ _ h.unsettled
                (ap (λ (t : JobCounts). t.unsettled) e
                ∙ ap (λ (t : JobCounts). min t.unsettled u) f);
          }
    ]
