use Rattle.std.proofs.Common.{◌≡◌, ◌∙◌, ◌<◌, Bool, ap, arith, false, get_or, length, rules, sym}
use Rattle.std.proofs.lemmas.Bool.{false≢true}
use Rattle.std.proofs.lemmas.List.{length_push}
use Rattle.std.proofs.lemmas.List.Elements.{All-nil, All-push}
use Rattle.std.specs.Global.{Vec}
use Rattle.std.specs.List.{slice_index_or}
use Rattle.run_states.specs.declared.precondition.Precondition.TheVariants.{AllValid, Free}
use Rattle.run_states.specs.States.{is_open}
use Rattle.run_states.proofs.Wanting.{any_default, read_is}
use Rattle.run_report.proofs.Passing.{all_first, first_next, kept_next, marked_next, none_built, none_first}
use Rattle.run_report.proofs.forecast.foretold.foretold.Goals.{then-wanted-d+then-is_done, else-wanted-d, else-wanted-d-via-then-wanted-d+else-is_done, else-wanted-d-via-else-wanted-d}
use Rattle.run_report.proofs.forecast.foretold.foretold.Goals as goal

pub loop-d-init : goal.loop-d-init
loop-d-init c = record {
  count = ap length c.in_ok-states.ensures.items;
  room = c.in_ok-states.ensures.exact ∙ c.len-2.ensures.value;
  closed = rw c.in_ok-states.ensures.items (All-nil _);
  built = none_built _ _ _ _ _ c.len.ensures.value
      (c.in_ok-built.ensures.items_if_clones_equal (λ y is. search rules))
      c.in_ok-states.ensures.items;
  first = none_first _ _ _ _ c.in_ok-states.ensures.items;
}

pub loop-d-preserved : goal.loop-d-preserved
loop-d-preserved c =
    let nodes = c.args.plan.now.nodes in
    let preconditions = c.args.preconditions.now in
    let built = c.loop-d.built.items in
    let d = c.loop-d.d in
    let p = c.state_of-state.result in
    let had = c.loop-d.invariant in
    let low : d < length nodes = omega arith in
    let first_low : c.first_twin-first.result < length built =
    omega (arith, c.first_twin-first.ensures.within, low, had.built.size) in
    record {
      count = omega (
        arith,
        ap length c.push_reserved.ensures.items,
        length_push c.loop-d.states.items p,
      );
      room = c.push_reserved.ensures.capacity ∙ had.room;
      closed = rw c.push_reserved.ensures.items
          (All-push (λ s. is_open s ≡ false) _ _ had.closed c.state_of-state.ensures.closed);
      built = elim c.if-wanted-d.branch [
        | then-wanted-d+then-is_done w ↦
            marked_next _ _ _ _ _ _ d _ p had.count low
            c.first_twin-first.ensures.value w.if-wanted-d.true
            (sym w.is_done.ensures ∙ w.if-is_done.true) c.push_reserved.ensures.items
            (ap (λ (v : Vec Bool). v.items) w.built-is) had.built
        | else-wanted-d w ↦
            kept_next _ _ _ _ _ _ d p had.count
            (elim w.else-wanted-d.branch [
              | else-wanted-d-via-then-wanted-d+else-is_done u ↦
                  λ is done. false≢true (sym (sym u.is_done.ensures ∙ u.if-is_done.false) ∙ done)
              | else-wanted-d-via-else-wanted-d u ↦
                  λ is done. false≢true (sym u.if-wanted-d.false ∙ is)
            ]) c.push_reserved.ensures.items (ap (λ (v : Vec Bool). v.items) w.built-is) had.built
      ];
      first = first_next _ _ _ _ _ _ d p (get_or preconditions d AllValid) c.index.result.now _
          c.len-d-end.ensures.sound had.count low
          (any_default preconditions d AllValid Free (omega (arith, low, c.requires.preconditions)))
          (sym (read_is built c.first_twin-first.result c.index.result.now false first_low
          c.index.ensures)
          ∙ ap (λ n. slice_index_or built n false) c.first_twin-first.ensures.value)
          c.inputs_of-inputs.ensures.numbers
          (rw c.deref.ensures.value at c.state_of-state.ensures.by)
          c.push_reserved.ensures.items had.built had.closed had.first;
    }

pub returns-clause-ok : goal.returns-clause-ok
returns-clause-ok c =
    all_first _ _ _ c.loop-d.states.items (omega arith) c.loop-d.invariant.first
