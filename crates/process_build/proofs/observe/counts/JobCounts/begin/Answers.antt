use Rattle.std.proofs.Common.{refl, ap, ◌∙◌}
use Rattle.process_build.specs.Progress.{Began, begins, ends_badly, ends_well}
use Rattle.process_build.specs.declared.observe.counts.JobCounts.{JobCounts}
use Rattle.process_build.proofs.Counting.{all_push, count_more, count_same, unsettled_push}
use Rattle.process_build.proofs.observe.counts.JobCounts.begin.Goals as goal

pub returns : goal.returns
returns c calls h =
    let e = c.learn.ensures in
    let call = Began c.args.unsettled in
    record {
      begun = count_more begins calls call _ _ refl h.begun
          (ap (λ (t : JobCounts). t.begun) e ∙ c.saturating_add-self.ensures);
      built = count_same ends_well calls call _ _ refl h.built (ap (λ (t : JobCounts). t.built) e);
      failed = count_same ends_badly calls call _ _ refl h.failed
          (ap (λ (t : JobCounts). t.failed) e);
      all = all_push calls call _ _ h.all (ap (λ (t : JobCounts). t.all) e);
      unsettled = unsettled_push calls call _ _ h.unsettled (ap (λ (t : JobCounts). t.unsettled) e);
    }
