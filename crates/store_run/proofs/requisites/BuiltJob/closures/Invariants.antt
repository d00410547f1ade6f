-- The closures of the first outputs, by the list that the reader saw last.
use Rattle.std.proofs.Common.{◌≡◌, length, vec_capacity}
use mathlib.Core.List.{IsPrefix}
use Rattle.valid_view.specs.Shown.{IsShowable}
use Rattle.store_run.specs.private.JobVerdicts.{AreClosures}
use Rattle.store_run.proofs.requisites.BuiltJob.closures.Given as goal

abbrev pub invariant-loop-n : goal.invariant-loop-n
invariant-loop-n g l = record {
  later : IsPrefix l.fn.reader.seen l.reader.seen;
  showable : IsShowable l.reader.seen;
  count : length l.closures.items ≡ l.n;
  given : AreClosures l.reader.seen l.self.job.now l.self.checked.now l.closures.items;
  room : vec_capacity l.closures ≡ length l.self.job.now.outputs.items;
}
