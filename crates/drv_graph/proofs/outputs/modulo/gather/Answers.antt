use Rattle.std.proofs.Common.{◌∙◌, ◌<◌, arith, length, map}
use Rattle.std.proofs.lemmas.List.{length-append}
use Rattle.std.proofs.lemmas.Iterator.Adapters.{YieldsList-from_vec}
use Rattle.std.proofs.lemmas.Iterator.Consumers.{YieldsList-end, YieldsList-so_far, YieldsList-turn}
use Rattle.nix_drv.specs.Parts.{input_of}
use Rattle.drv_graph.proofs.Gathering.{gather_end, gather_step}
use Rattle.drv_graph.proofs.outputs.modulo.gather.Goals as goal

pub loop-input-preserved : goal.loop-input-preserved
loop-input-preserved c =
    let all = YieldsList-from_vec {s = c.into_iter-input-iterator.result} _ (cc)
    (cc) in
    let turn = YieldsList-turn all _ _
    c.loop-input.yielded_by _ c.next.new.self _ c.in-Some.is
    c.next.ensures.steps in
    record {
      first = gather_step _ _ (map input_of _)
          _ _ c.requires
          (YieldsList-so_far all _ _ c.loop-input.yielded_by)
          turn.0 turn.1 c.loop-input.invariant.first c.in_ok-add_input.ensures.value;
      count = simp length-append (omega arith);
      room = c.add_input.ensures.room ∙ c.loop-input.invariant.room;
    }

pub add_input-requires : goal.add_input-requires
add_input-requires c =
    let all = YieldsList-from_vec {s = c.into_iter-input-iterator.result} _ (cc)
    (cc) in
    let turn = YieldsList-turn all _ _
    c.loop-input.yielded_by _ c.next.new.self _ c.in-Some.is
    c.next.ensures.steps in
    let below : length c.loop-input.yielded < length c.args.inputs.items = turn.0 in
    omega arith

pub returns-clause-value : goal.returns-clause-value
returns-clause-value c =
    let all = YieldsList-from_vec {s = c.into_iter-input-iterator.result} _ (cc)
    (cc) in
    let end = YieldsList-end all _ _
    c.loop-input.yielded_by _ c.next.new.self c.in-None.is c.next.ensures.steps in
    gather_end _ _ _ end.0 c.loop-input.invariant.first
