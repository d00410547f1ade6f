use Rattle.std.proofs.Common.{◌≡◌, ◌∙◌, ℕ, ◌+◌, ◌<◌, length, None, Option, Some, ap, arith, rules, subst, sym}
use Rattle.std.proofs.Math.ListN.{set}
use Rattle.std.specs.Global.{Vec}
use Rattle.std.specs.List.{slice_index_or}
use Rattle.drv_graph.specs.Twins.{first_twin_of}
use Rattle.run_states.proofs.LastTwins.{AreLast, AreNear, last_unwanted, last_wanted, near_more, near_smaller, nearest_are, none_last, none_near}
use Rattle.run_states.proofs.Wanting.{read_is}
use Rattle.run_states.proofs.twins.nearest_twins.Goals as goal
use Rattle.run_states.proofs.twins.nearest_twins.Goals.{then-wanted-d, else-wanted-d}

pub loop-d-init : goal.loop-d-init
loop-d-init c = record {
  last = none_last c.args.plan.now.nodes c.args.wanted.now c.in_ok-last.last.items c.len.result
      c.len.ensures.value (c.in_ok-last.ensures.items_if_clones_equal (λ y is. search rules));
  near = none_near c.args.plan.now.nodes c.args.wanted.now c.in_ok-twins.twins.items
      c.in_ok-twins.ensures.items;
  room = c.in_ok-twins.ensures.exact ∙ c.len-2.ensures.value;
}

pub loop-d-preserved : goal.loop-d-preserved
loop-d-preserved c =
    let nodes = c.args.plan.now.nodes in
    let wanted = c.args.wanted.now in
    let last = c.loop-d.last.items in
    let d = c.loop-d.d in
    let low : d < length nodes = omega (arith, c.loop-d-test.true, c.len-d-end.ensures.value) in
    let first_low : c.first_twin-first.result < length last =
    omega (arith, c.first_twin-first.ensures.within, low, c.loop-d.invariant.last.size) in
    let twin = c.index.result.now in
    let read : twin ≡ slice_index_or last (first_twin_of nodes d) None =
    sym (read_is last c.first_twin-first.result twin None first_low c.index.ensures)
    ∙ ap (λ n. slice_index_or last n None) c.first_twin-first.ensures.value in
    record {
      last = elim c.if-wanted-d.branch [
        | then-wanted-d w ↦
            subst (λ (v : Vec (Option ℕ)). AreLast nodes wanted v.items (d + 1)) (sym w.last-is)
            (subst (λ n. AreLast nodes wanted (set last n (Some d)) (d + 1))
            (sym c.first_twin-first.ensures.value)
            (last_wanted nodes wanted last d low w.if-wanted-d.true c.loop-d.invariant.last))
        | else-wanted-d w ↦
            subst (λ (v : Vec (Option ℕ)). AreLast nodes wanted v.items (d + 1)) (sym w.last-is)
            (last_unwanted nodes wanted last d w.if-wanted-d.false c.loop-d.invariant.last)
      ];
      near = subst (λ l. AreNear nodes wanted l (d + 1)) (sym c.push_reserved.ensures.items)
          (near_more nodes wanted last c.loop-d.twins.items d twin low read
          c.loop-d.invariant.last c.loop-d.invariant.near);
      room = c.push_reserved.ensures.capacity ∙ c.loop-d.invariant.room;
    }

pub returns-clause-ok : goal.returns-clause-ok
returns-clause-ok c =
    nearest_are c.args.plan.now c.args.wanted.now c.loop-d.twins.items c.len.ensures.sound
    (subst (AreNear c.args.plan.now.nodes c.args.wanted.now c.loop-d.twins.items)
    (omega (arith, c.loop-d-test.false, c.loop-d.auto.d-end, c.len-d-end.ensures.value))
    c.loop-d.invariant.near)

pub returns-clause-smaller : goal.returns-clause-smaller
returns-clause-smaller c = near_smaller c.args.plan.now.nodes c.args.wanted.now
    c.loop-d.twins.items c.loop-d.d c.loop-d.invariant.near
