-- The inputs so far are counted.
use Rattle.std.proofs.Common.{◌≡◌, ℕ, ◌<◌, ◌+◌, get_or, length, sum, take}
use Rattle.run_states.specs.UserSpans.{often}
use Rattle.run_states.proofs.users.count_inputs.Given as goal

abbrev pub invariant-loop-input : goal.invariant-loop-input
invariant-loop-input l = record {
  size : length l.counts ≡ length l.fn.counts;
  total : sum l.counts ≡ sum l.fn.counts + l.input-index;
  each : (n : ℕ) → n < length l.fn.counts → get_or l.counts n 0
      ≡ get_or l.fn.counts n 0 + often n (take l.input-index l.inputs);
}
