use Rattle.std.proofs.Common.{◌≡◌, ◌∙◌, ◌<◌, ◌+◌, ◌++◌, ◌-◌, ℕ, List, None, ap, arith, get_or, length, subst, sum, sym, ◌^◌}
use Rattle.std.proofs.lemmas.List.{take_at}
use Rattle.std.proofs.lemmas.List.Elements.{All-append}
use Rattle.std.specs.Global.{Vec}
use Rattle.run_states.specs.StateTables.{all_of, awaited_at, listed}
use Rattle.run_states.specs.Steps.{total}
use Rattle.run_states.specs.FollowedEdges.{sizes}
use Rattle.run_states.specs.UserSpans.{AddsUser, HaveRoom, often, parts, uses}
use Rattle.run_states.specs.Users.{users_of}
use Rattle.run_states.specs.declared.users.Edge.{Edge}
use Rattle.run_states.specs.declared.users.Span.{Span}
use Rattle.run_states.proofs.Totals.{total_below, total_list}
use Rattle.run_states.proofs.UserSpans.{AreOfFirst, first_more, first_none, parts_none, room_less, room_others, room_own}
use Rattle.run_states.proofs.users.Users.open.Goals as goal

-- the edges stand in one list, so there are few
few : (edges : Vec Edge) (n : ℕ) → edges.len ≡ n → n < 2 ^ 63
few edges n size = omega (arith, size, edges.ok.0, edges.ok.1, edges.small)

pub counts_of-requires : goal.counts_of-requires
counts_of-requires c =
    let long = few c.in_ok-edges.edges c.pairs_in.result c.in_ok-edges.ensures.len in
    omega (arith, c.pairs_in.ensures long, long)

pub empty_spans-requires : goal.empty_spans-requires
empty_spans-requires c =
    let long = few c.in_ok-edges.edges c.pairs_in.result c.in_ok-edges.ensures.len in
    omega (
      arith,
      c.pairs_in.ensures long,
      long,
      c.in_ok-counts.ensures.total,
      ap sum c.deref.ensures.value,
    )

pub loop-d-init : goal.loop-d-init
loop-d-init c =
    let nodes = c.args.plan.now.nodes in
    let awaited = λ (d : ℕ). all_of (awaited_at c.args.plan.now c.args.twins.now d) in
    let spans = c.in_ok-spans.spans.items in
    let edges = c.in_ok-edges.edges.items in
    let counts = c.in_ok-counts.counts.items in
    let count : length spans ≡ length nodes = c.in_ok-spans.ensures.size
    ∙ ap length c.deref.ensures.value ∙ c.in_ok-counts.ensures.size in
    let long = few c.in_ok-edges.edges c.pairs_in.result c.in_ok-edges.ensures.len in
    let slots : sum c.deref.result.now ≡ length edges =
    omega (
      arith,
      ap sum c.deref.ensures.value,
      c.in_ok-counts.ensures.total,
      c.pairs_in.ensures long,
      c.in_ok-edges.ensures.len,
      c.in_ok-edges.edges.ok.0,
    ) in
    record {
      count = count;
      room = subst (λ size. HaveRoom spans size
          (λ n. uses awaited (length nodes) n - uses awaited 0 n)) slots
          (room_less spans (sum c.deref.result.now) _
          (λ n. uses awaited (length nodes) n - uses awaited 0 n) c.in_ok-spans.ensures.room
          (λ n within. omega (
            arith,
            c.in_ok-counts.ensures.each n (omega (arith, within, count)),
            ap (λ l. get_or l n 0) c.deref.ensures.value,
          )));
      first = first_none awaited (length nodes) (users_of (parts spans edges))
          (λ d low. parts_none spans edges c.in_ok-spans.ensures.empty d
          (omega (arith, low, count)));
    }

pub add_user-requires-clause-within : goal.add_user-requires-clause-within
add_user-requires-clause-within c =
    let d = c.loop-d.d in
    let small = All-append (λ n. n < d) c.inputs_of.result.now
    (listed (get_or c.args.twins.now d None)) c.inputs_of.ensures.smaller (c.requires.smaller d) in
    λ k n low. omega (
      arith,
      small k n low,
      c.loop-d-test.true,
      c.len-d-end.ensures.value,
      ap length c.deref_mut.ensures.value,
      c.loop-d.invariant.count,
    )

pub add_user-requires-clause-room : goal.add_user-requires-clause-room
add_user-requires-clause-room c =
    let nodes = c.args.plan.now.nodes in
    let awaited = λ (d : ℕ). all_of (awaited_at c.args.plan.now c.args.twins.now d) in
    let d = c.loop-d.d in
    let twins = listed (get_or c.args.twins.now d None) in
    let low : d < length nodes = omega (arith, c.loop-d-test.true, c.len-d-end.ensures.value) in
    rw (c.deref_mut.ensures.value, c.deref_mut-in-loop-d.ensures.value)
    (room_own awaited (length nodes) d _ _ low c.loop-d.invariant.room _
    (ap (λ l. l ++ twins) c.inputs_of.ensures.numbers))

-- what is so of spans and edges is so of the same written back
both : (P : List Span → List Edge → Type 0) (spans there : List Span) (edges others : List Edge)
    → spans ≡ there → edges ≡ others → P spans edges → P there others
both P spans there edges others same also is =
    subst (P there) also (subst (λ l. P l edges) same is)

pub loop-d-preserved : goal.loop-d-preserved
loop-d-preserved c =
    let nodes = c.args.plan.now.nodes in
    let awaited = λ (d : ℕ). all_of (awaited_at c.args.plan.now c.args.twins.now d) in
    let d = c.loop-d.d in
    let twins = listed (get_or c.args.twins.now d None) in
    let numbers = c.inputs_of.result.now ++ twins in
    let own : numbers ≡ awaited d = ap (λ l. l ++ twins) c.inputs_of.ensures.numbers in
    let low : d < length nodes = omega (arith, c.loop-d-test.true, c.len-d-end.ensures.value) in
    let spans = c.deref_mut.result.now in
    let edges = c.deref_mut-in-loop-d.result.now in
    let spans_are : spans ≡ c.loop-d.spans.items = c.deref_mut.ensures.value in
    let edges_are : edges ≡ c.loop-d.edges.items = c.deref_mut-in-loop-d.ensures.value in
    let new_spans = c.add_user.new.spans in
    let new_edges = c.add_user.new.edges in
    let spans_size : length new_spans ≡ c.loop-d.spans.len = c.add_user.ensures.spans
    ∙ ap length spans_are ∙ sym c.loop-d.spans.ok.0 in
    let edges_size : length new_edges ≡ c.loop-d.edges.len = c.add_user.ensures.edges
    ∙ ap length edges_are ∙ sym c.loop-d.edges.ok.0 in
    let spans_back = sym (take_at new_spans _ c.loop-d.spans.len spans_size) in
    let edges_back = sym (take_at new_edges _ c.loop-d.edges.len edges_size) in
    let size : length spans ≡ length nodes = ap length spans_are ∙ c.loop-d.invariant.count in
    let room : HaveRoom spans (length edges) (λ n. often n numbers
    + (uses awaited (length nodes) n - uses awaited (d + 1) n)) =
    rw (spans_are, edges_are)
    (room_others awaited (length nodes) d c.loop-d.spans.items (length c.loop-d.edges.items) low
    c.loop-d.invariant.room numbers own) in
    let first : AreOfFirst awaited (length nodes) d (users_of (parts spans edges)) =
    rw (spans_are, edges_are) c.loop-d.invariant.first in
    let adds : AddsUser d (awaited d) (length nodes) (users_of (parts spans edges))
    (users_of (parts new_spans new_edges)) =
    subst (λ l. AddsUser d l (length nodes) (users_of (parts spans edges))
    (users_of (parts new_spans new_edges))) own
    (subst (λ n. AddsUser d numbers n (users_of (parts spans edges))
    (users_of (parts new_spans new_edges))) size c.add_user.ensures.adds) in
    record {
      count = ap length (sym spans_back) ∙ c.add_user.ensures.spans ∙ size;
      room = both (λ l es. HaveRoom l (length es)
          (λ n. uses awaited (length nodes) n - uses awaited (d + 1) n))
          new_spans _ new_edges _ spans_back edges_back
          (c.add_user.ensures.room
          (λ n. uses awaited (length nodes) n - uses awaited (d + 1) n) room);
      first = both (λ l es. AreOfFirst awaited (length nodes) (d + 1) (users_of (parts l es)))
          new_spans _ new_edges _ spans_back edges_back
          (first_more awaited (length nodes) d (users_of (parts spans edges))
          (users_of (parts new_spans new_edges)) low adds first);
    }

pub invariant_of-result : goal.invariant_of-result
invariant_of-result c =
    room_less c.loop-d.spans.items (length c.loop-d.edges.items) _ (λ n. 0) c.loop-d.invariant.room
    (λ n within. omega arith)

pub returns-clause-sizes : goal.returns-clause-sizes
returns-clause-sizes c = λ d low.
    let nodes = c.args.plan.now.nodes in
    let awaited = λ (e : ℕ). all_of (awaited_at c.args.plan.now c.args.twins.now e) in
    let all : c.loop-d.d ≡ length nodes =
    omega (arith, c.loop-d-test.false, c.loop-d.auto.d-end, c.len-d-end.ensures.value) in
    c.loop-d.invariant.first.size d low ∙ ap (λ n. uses awaited n d) all

pub returns-clause-few : goal.returns-clause-few
returns-clause-few c =
    let nodes = c.args.plan.now.nodes in
    let awaited = λ (e : ℕ). all_of (awaited_at c.args.plan.now c.args.twins.now e) in
    let counts = c.in_ok-counts.counts.items in
    let all : c.loop-d.d ≡ length nodes =
    omega (arith, c.loop-d-test.false, c.loop-d.auto.d-end, c.len-d-end.ensures.value) in
    let long = few c.in_ok-edges.edges c.pairs_in.result c.in_ok-edges.ensures.len in
    omega (
      arith,
      total_below (sizes (parts c.loop-d.spans.items c.loop-d.edges.items))
          (λ d. get_or counts d 0) (length nodes)
          (λ d low. c.loop-d.invariant.first.size d low ∙ ap (λ n. uses awaited n d) all
          ∙ sym (c.in_ok-counts.ensures.each d low)),
      ap (total (λ d. get_or counts d 0)) c.in_ok-counts.ensures.size,
      total_list counts,
      c.in_ok-counts.ensures.total,
      c.pairs_in.ensures long,
      long,
    )
