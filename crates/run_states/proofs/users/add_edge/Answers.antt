use Rattle.std.proofs.Common.{◌<◌, ℕ, List, [], ◌∷◌, arith, length, rules, sym}
use Rattle.std.proofs.Math.ListN.{set}
use Rattle.run_states.specs.UserSpans.{HaveRoom, often, parts, span_at}
use Rattle.run_states.specs.Users.{users_of}
use Rattle.run_states.specs.declared.users.Edge.{Edge}
use Rattle.run_states.specs.declared.users.Span.{Span}
use Rattle.run_states.proofs.UserCounts.{often_one}
use Rattle.run_states.proofs.UserSpans.{adds_more, edge_added, longer, others_stay, room_taken}
use Rattle.run_states.proofs.users.add_edge.Goals as goal

-- there is a slot for the edge
has_slot : (spans : List Span) (i slots : ℕ) → i < length spans
    → HaveRoom spans slots (λ n. often n (i ∷ [])) → (span_at spans i).end < slots
has_slot spans i slots within room = search (rules, often_one)

pub bounds-edges-span : goal.bounds-edges-span
bounds-edges-span c = search (rules, has_slot)

pub offset_bounds-edges-span : goal.offset_bounds-edges-span
offset_bounds-edges-span c = search (rules, has_slot)

pub overflow_add-spans : goal.overflow_add-spans
overflow_add-spans c = search (rules, has_slot)

pub returns-clause-room : goal.returns-clause-room
returns-clause-room c = search (rules, room_taken)

pub returns-clause-adds : goal.returns-clause-adds
returns-clause-adds c = λ before old size prior.
    let spans = c.args.spans.now in
    let edges = c.args.edges.now in
    let i = c.args.awaited in
    let edge : Edge = record { user = c.args.user; index = c.args.index } in
    let room = c.requires.room in
    let some : 0 < often i (i ∷ []) = omega (arith, often_one i) in
    adds_more _ _ _ i _ old
    (users_of (parts spans edges))
    (users_of (parts (set spans i (longer (span_at spans i)))
    (set edges (span_at spans i).end edge)))
    (sym size)
    (edge_added _ _ i _ (λ n. often n (i ∷ [])) c.requires.within room some)
    (λ d less differ. others_stay _ _ i _ (λ n. often n (i ∷ [])) c.requires.within room
    some d less differ)
    prior
