use Rattle.std.proofs.Common.{◌∙◌, ◌+◌, ◌++◌, [], ◌∷◌, ap, arith, drop, get_or, length, subst, sym, take}
use Rattle.std.proofs.lemmas.List.{drop_all, get_or_default, length-take-le}
use Rattle.nix_names.proofs.Lists.{taken_more}
use Rattle.run_states.specs.UserSpans.{AddsUser, often, parts}
use Rattle.run_states.specs.Users.{users_of}
use Rattle.run_states.proofs.UserCounts.{often_left}
use Rattle.run_states.proofs.UserSpans.{room_less}
use Rattle.run_states.proofs.users.add_edges.Goals as goal

pub add_edge-requires-clause-room : goal.add_edge-requires-clause-room
add_edge-requires-clause-room c =
    let inputs = c.args.inputs.now in
    let k = c.loop-index.index in
    let before = room_less _ _ (λ n. often n inputs)
    (λ n. often n inputs + 0) c.requires.room (λ n within. omega arith) in
    room_less _ _
    (λ n. often n (drop k inputs) + 0) (λ n. often n (get_or inputs k 0 ∷ []))
    (c.loop-index.invariant.room (λ n. 0) before)
    (λ n within. omega (arith, often_left n _ k 0 c.loop-index-test.true))

pub loop-index-preserved : goal.loop-index-preserved
loop-index-preserved c =
    let inputs = c.args.inputs.now in
    let k = c.loop-index.index in
    let i = get_or inputs k 0 in
    let low = c.loop-index-test.true in
    let spans = c.loop-index.spans in
    let edges = c.loop-index.edges in
    let size = c.loop-index.invariant.spans in
    let old = users_of (parts c.args.spans.now c.args.edges.now) in
    record {
      spans = c.add_edge.ensures.spans ∙ size;
      edges = c.add_edge.ensures.edges ∙ c.loop-index.invariant.edges;
      room = λ left before. c.add_edge.ensures.room (λ n. often n (drop (k + 1) inputs) + left n)
          (room_less _ _ (λ n. often n (drop k inputs) + left n)
          (λ n. often n (i ∷ []) + (often n (drop (k + 1) inputs) + left n))
          (c.loop-index.invariant.room left before)
          (λ n within. omega (arith, often_left n _ k 0 low)));
      adds = subst (λ seen. AddsUser c.args.user seen (length c.args.spans.now) old
          (users_of (parts c.add_edge.new.spans c.add_edge.new.edges)))
          (sym (taken_more _ k i low (get_or_default inputs k 0 i low)))
          (subst (λ count. AddsUser c.args.user (take k inputs ++ i ∷ []) count old
          (users_of (parts c.add_edge.new.spans c.add_edge.new.edges))) size
          (c.add_edge.ensures.adds (take k inputs) old
          (length-take-le k inputs (omega (arith, low)))
          (subst (λ count. AddsUser c.args.user (take k inputs) count old
          (users_of (parts spans edges))) (sym size) c.loop-index.invariant.adds)));
    }

pub returns-clause-room : goal.returns-clause-room
returns-clause-room c = λ left before.
    let inputs = c.args.inputs.now in
    let k = c.loop-index.index in
    let none = drop_all k inputs (omega (arith, c.loop-index-test.false)) in
    room_less c.loop-index.spans (length c.loop-index.edges)
    (λ n. often n (drop k inputs) + left n) left (c.loop-index.invariant.room left before)
    (λ n within. omega (arith, ap (often n) none))
