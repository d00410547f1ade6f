-- The edges to the inputs so far are added, and the others have room.
use Rattle.std.proofs.Common.{◌≡◌, ℕ, ◌+◌, drop, length, take}
use Rattle.run_states.specs.UserSpans.{AddsUser, HaveRoom, often, parts}
use Rattle.run_states.specs.Users.{users_of}
use Rattle.run_states.proofs.users.add_edges.Given as goal

abbrev pub invariant-loop-index : goal.invariant-loop-index
invariant-loop-index l = record {
  spans : length l.spans ≡ length l.fn.spans;
  edges : length l.edges ≡ length l.fn.edges;
  room : (left : ℕ → ℕ)
      → HaveRoom l.fn.spans (length l.fn.edges) (λ n. often n l.inputs + left n)
      → HaveRoom l.spans (length l.edges) (λ n. often n (drop l.index l.inputs) + left n);
  adds : AddsUser l.user (take l.index l.inputs) (length l.fn.spans)
      (users_of (parts l.fn.spans l.fn.edges)) (users_of (parts l.spans l.edges));
}
