-- The edges of the users so far are added, and the others have room.
use Rattle.std.proofs.Common.{◌≡◌, ◌-◌, length}
use Rattle.run_states.specs.StateTables.{all_of, awaited_at}
use Rattle.run_states.specs.UserSpans.{HaveRoom, parts, uses}
use Rattle.run_states.specs.Users.{users_of}
use Rattle.run_states.proofs.UserSpans.{AreOfFirst}
use Rattle.run_states.proofs.users.Users.open.Given as goal

abbrev pub invariant-loop-d : goal.invariant-loop-d
invariant-loop-d l = record {
  count : length l.spans.items ≡ length l.plan.nodes;
  room : HaveRoom l.spans.items (length l.edges.items) (λ n.
      uses (λ d. all_of (awaited_at l.plan l.twins d)) (length l.plan.nodes) n
      - uses (λ d. all_of (awaited_at l.plan l.twins d)) l.d n);
  first : AreOfFirst (λ d. all_of (awaited_at l.plan l.twins d))
      (length l.plan.nodes) l.d (users_of (parts l.spans.items l.edges.items));
}
