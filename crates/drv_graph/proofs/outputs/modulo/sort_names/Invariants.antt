use Rattle.std.proofs.Common.{◌≡◌, map, take, drop}
use Rattle.std.specs.List.{AllZip}
use Rattle.nix_drv.specs.Parts.{input_of}
use Rattle.drv_graph.specs.private.Uniting.{IsNameSorted}
use Rattle.drv_graph.proofs.outputs.modulo.sort_names.Given as goal

abbrev pub invariant-loop-input : goal.invariant-loop-input
invariant-loop-input l = record {
  sorted : AllZip IsNameSorted (take l.input-index (map input_of l.fn.inputs))
      (take l.input-index (map input_of l.inputs));
  rest : drop l.input-index (map input_of l.inputs) ≡ drop l.input-index (map input_of l.fn.inputs);
}
