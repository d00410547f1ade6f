use Rattle.std.proofs.Common.{ap, ◌-◌, ◌∙◌, ℕ}
use Rattle.process_build.proofs.Counting.{running_is}
use Rattle.process_build.proofs.observe.counts.JobCounts.numbers.Goals as goal

pub returns : goal.returns
returns c calls h = record {
  running =
      c.saturating_sub-running.ensures
      ∙ ap (λ (n : ℕ). n - c.args.self.now.failed) c.saturating_sub.ensures
      ∙ running_is calls _ _ _ h.begun h.built h.failed;
  built = h.built;
  failed = h.failed;
  waiting = (c.args.self.now.unsettled, h.unsettled, c.saturating_sub-2.ensures);
  all = h.all;
}
