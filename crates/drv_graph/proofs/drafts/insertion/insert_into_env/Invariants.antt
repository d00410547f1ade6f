use Rattle.std.proofs.Common.{◌≡◌, map, take, drop}
use Rattle.std.specs.List.{AllZip}
use Rattle.nix_drv.specs.Parts.{entry_of}
use Rattle.drv_graph.specs.Modulo.{names_of}
use Rattle.drv_graph.specs.private.Insertion.{IsInsertedEntry}
use Rattle.drv_graph.proofs.drafts.insertion.insert_into_env.Given as goal

abbrev pub invariant-loop-entry : goal.invariant-loop-entry
invariant-loop-entry l = record {
  inserted : AllZip (IsInsertedEntry (names_of l.draft.outputs) l.paths)
      (take l.entry-index (map entry_of l.fn.env)) (take l.entry-index (map entry_of l.env));
  rest : drop l.entry-index (map entry_of l.env) ≡ drop l.entry-index (map entry_of l.fn.env);
}
