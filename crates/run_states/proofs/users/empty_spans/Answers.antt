use Rattle.std.proofs.Common.{◌≡◌, ◌∙◌, ◌+◌, ◌∷◌, [], ◌++◌, ap, arith, get_or, length, refl, subst, sum, sym}
use Rattle.std.specs.Prelude.{All}
use Rattle.std.proofs.lemmas.List.{length_push, take_all}
use Rattle.std.proofs.lemmas.List.Elements.{All-push}
use Rattle.std.proofs.lemmas.List.Sums.{sum_by_more}
use Rattle.run_states.specs.UserSpans.{HaveRoom}
use Rattle.run_states.specs.declared.users.Span.{Span}
use Rattle.run_states.proofs.UserSpans.{room_pushed}
use Rattle.run_states.proofs.users.empty_spans.Goals as goal

pub loop-count-preserved : goal.loop-count-preserved
loop-count-preserved c =
    let counts = c.args.counts.now in
    let k = c.loop-count.count-index in
    let spans = c.loop-count.spans.items in
    let slots = c.loop-count.slots in
    let pushed = c.push_reserved.ensures.items in
    record {
      size = ap length pushed ∙ length_push _ _ ∙ ap (λ n. n + 1) c.loop-count.invariant.size;
      slots = omega (
        arith,
        sum_by_more (λ x. x) _ k 0 c.loop-count-test.true,
        c.loop-count.invariant.slots,
      );
      empty = subst (All (λ (span : Span). span.start ≡ span.end)) (sym pushed)
          (All-push (λ (span : Span). span.start ≡ span.end) _ _ c.loop-count.invariant.empty
          refl);
      room = subst (λ l. HaveRoom l (slots + get_or counts k 0) (λ n. get_or counts n 0))
          (sym pushed)
          (subst (λ n. HaveRoom (spans ++ record { start = slots; end = slots } ∷ [])
          (slots + get_or counts n 0) (λ n. get_or counts n 0)) c.loop-count.invariant.size
          (room_pushed _ _ (λ n. get_or counts n 0) c.loop-count.invariant.room));
      exact = c.push_reserved.ensures.capacity ∙ c.loop-count.invariant.exact;
    }

pub returns-clause-room : goal.returns-clause-room
returns-clause-room c =
    subst (λ n. HaveRoom c.loop-count.spans.items n (λ m. get_or c.args.counts.now m 0))
    (c.loop-count.invariant.slots
    ∙ ap sum (take_all c.loop-count.count-index c.args.counts.now
    (omega (arith, c.loop-count-test.false)))) c.loop-count.invariant.room
