use Rattle.std.proofs.Common.{◌+◌, ◌++◌, [], ◌∷◌, ap, arith, rules}
use Rattle.std.proofs.lemmas.List.{get_or_push, length_push}
use Rattle.run_states.specs.StateTables.{listed}
use Rattle.run_states.specs.UserSpans.{often}
use Rattle.run_states.proofs.UserCounts.{often_both}
use Rattle.run_states.proofs.UserSpans.{room_less}
use Rattle.run_states.proofs.users.add_user.Goals as goal

pub add_edges-requires-clause-room : goal.add_edges-requires-clause-room
add_edges-requires-clause-room c = search (rules, room_less, often_both)

pub add_edge-requires-clause-within : goal.add_edge-requires-clause-within
add_edge-requires-clause-within c = search (rules, length_push, get_or_push)

pub add_edge-requires-clause-room : goal.add_edge-requires-clause-room
add_edge-requires-clause-room c =
    let inputs = c.args.inputs.now in
    let twins = listed c.args.twin in
    let twin = c.in-Some.twin in
    let own = room_less _ _ (λ n. often n (inputs ++ twins))
    (λ n. often n inputs + often n (twin ∷ [])) c.requires.room
    (λ n within. omega (
      arith,
      often_both n inputs twins,
      ap (λ l. often n (listed l))
          c.in-Some.is,
    ))
    in
    c.add_edges.ensures.room (λ n. often n (twin ∷ [])) own

pub returns-in-Some-clause-room : goal.returns-in-Some-clause-room
returns-in-Some-clause-room c = λ left before.
    let inputs = c.args.inputs.now in
    let twins = listed c.args.twin in
    let twin = c.in-Some.twin in
    c.add_edge.ensures.room left
    (c.add_edges.ensures.room (λ n. often n (twin ∷ []) + left n)
    (room_less _ _
    (λ n. often n (inputs ++ twins) + left n)
    (λ n. often n inputs + (often n (twin ∷ []) + left n)) before
    (λ n within. omega (
      arith,
      often_both n inputs twins,
      ap (λ l. often n (listed l)) c.in-Some.is,
    ))))

pub returns-in_default-clause-room : goal.returns-in_default-clause-room
returns-in_default-clause-room c = λ left before.
    let inputs = c.args.inputs.now in
    let twins = listed c.args.twin in
    c.add_edges.ensures.room left
    (room_less _ _
    (λ n. often n (inputs ++ twins) + left n) (λ n. often n inputs + left n) before
    (λ n within. omega (arith, often_both n inputs twins)))
