use Rattle.std.proofs.Common.{◌∙◌, ℕ, List, get_or, sym, ap, arith, rules}
use Rattle.nix_drv.specs.Derivation.{EnvEntry as DrvEntry}
use Rattle.nix_drv.specs.Parts.{entry_of}
use Rattle.drv_graph.specs.Modulo.{masked_entry, names_of}
use Rattle.drv_graph.proofs.Loops.{written_all, written_more}
use Rattle.drv_graph.proofs.Masking.{masked_found, masked_missing}
use Rattle.drv_graph.proofs.outputs.modulo.mask_env.Goals as goal
use Rattle.drv_graph.proofs.outputs.modulo.mask_env.Goals.{then-is_some, else-is_some}

pub loop-entry-preserved : goal.loop-entry-preserved
loop-entry-preserved c =
    let was = get_or c.loop-entry.env c.loop-entry.entry-index c.entry-item.result in
    let names = names_of _ in
    let with_value : List ℕ → DrvEntry = λ value. record { key = was.key.items; value = value } in
    elim c.if-is_some.branch [
      | then-is_some w ↦
          written_more entry_of (masked_entry names) _ _
          c.if-is_some.env _ _ c.entry-item.result
          (omega arith) c.loop-entry.auto.env c.loop-entry.invariant w.env-is
          (ap with_value w.clear.ensures.items
          ∙ masked_found _ _ _ _
          c.output_index.ensures.found c.deref.ensures.value
          (sym c.is_some.ensures ∙ w.if-is_some.true))
      | else-is_some w ↦
          written_more entry_of (masked_entry names) _ _
          c.if-is_some.env _ was c.entry-item.result
          (omega arith) c.loop-entry.auto.env c.loop-entry.invariant w.env-is
          (masked_missing _ _ _ _
          c.output_index.ensures.found c.deref.ensures.value
          (sym c.is_some.ensures ∙ w.if-is_some.false))
    ]

pub returns : goal.returns
returns c = search (rules, written_all)
