-- The spans so far lie one after the other, and end at the sum of their sizes.
use Rattle.std.proofs.Common.{◌≡◌, get_or, length, sum, take, vec_capacity}
use Rattle.std.specs.Prelude.{All}
use Rattle.run_states.specs.UserSpans.{HaveRoom}
use Rattle.run_states.specs.declared.users.Span.{Span}
use Rattle.run_states.proofs.users.empty_spans.Given as goal

abbrev pub invariant-loop-count : goal.invariant-loop-count
invariant-loop-count l = record {
  size : length l.spans.items ≡ l.count-index;
  slots : l.slots ≡ sum (take l.count-index l.counts);
  empty : All (λ (span : Span). span.start ≡ span.end) l.spans.items;
  room : HaveRoom l.spans.items l.slots (λ n. get_or l.counts n 0);
  exact : vec_capacity l.spans ≡ length l.counts;
}
