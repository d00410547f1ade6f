-- The pairs of the derivations so far are counted, up to the greatest number.
use Rattle.std.proofs.Common.{◌≡◌, ◌<◌, ◌^◌}
use Rattle.run_states.specs.StateTables.{all_of, awaited_at}
use Rattle.run_states.specs.UserSpans.{pairs}
use Rattle.run_states.proofs.users.pairs_in.Given as goal

abbrev pub invariant-loop-user : goal.invariant-loop-user
invariant-loop-user l = l.pairs < 2 ^ 63 → l.pairs
    ≡ pairs (λ d. all_of (awaited_at l.plan l.twins d)) l.user
