use Rattle.std.proofs.Common.{◌≡◌, ◌++◌, map, take, drop}
use Rattle.nix_drv.specs.Parts.{entry_of}
use Rattle.drv_graph.specs.Modulo.{masked_entry, names_of}
use Rattle.drv_graph.proofs.outputs.modulo.mask_env.Given as goal

abbrev pub invariant-loop-entry : goal.invariant-loop-entry
invariant-loop-entry l =
    map entry_of l.env ≡ map (masked_entry (names_of l.drv.outputs))
    (take l.entry-index (map entry_of l.fn.env)) ++ drop l.entry-index (map entry_of l.fn.env)
