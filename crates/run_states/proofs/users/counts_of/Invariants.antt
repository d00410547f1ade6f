-- What the derivations so far wait for is counted.
use Rattle.std.proofs.Common.{◌≡◌, ℕ, ◌<◌, get_or, length, sum}
use Rattle.run_states.specs.StateTables.{all_of, awaited_at}
use Rattle.run_states.specs.UserSpans.{pairs, uses}
use Rattle.run_states.proofs.users.counts_of.Given as goal

abbrev pub invariant-loop-user : goal.invariant-loop-user
invariant-loop-user l = record {
  size : length l.counts.items ≡ length l.plan.nodes;
  total : sum l.counts.items
      ≡ pairs (λ d. all_of (awaited_at l.plan l.twins d)) l.user;
  each : (n : ℕ) → n < length l.plan.nodes → get_or l.counts.items n 0
      ≡ uses (λ d. all_of (awaited_at l.plan l.twins d)) l.user n;
}
