use Rattle.std.proofs.Common.{◌≤◌, length, sym, arith, rules}
use Rattle.std.proofs.lemmas.Bool.{eqb-true}
use Rattle.nix_drv.proofs.Exact.{surplus_no_text, surplus_fits, surplus_prefix, stop_no_text, stop_fits, stop_prefix}
use Rattle.nix_drv.proofs.Derivations.{derivation_clear, read_in_order, read_first}
use Rattle.nix_drv.proofs.reading.read.Goals as goal

pub overflow_sub-result : goal.overflow_sub-result
overflow_sub-result c = search (rules, surplus_fits, derivation_clear)

pub overflow_sub-result-in-Err-Left : goal.overflow_sub-result-in-Err-Left
overflow_sub-result-in-Err-Left c = search (rules, stop_fits, derivation_clear)

pub returns-else-is_empty : goal.returns-else-is_empty
returns-else-is_empty c = search (rules, surplus_no_text, derivation_clear, surplus_prefix)

pub returns-in-Err-Left : goal.returns-in-Err-Left
returns-in-Err-Left c = search (rules, stop_no_text, derivation_clear, stop_prefix)

pub returns-in-Ok-in_order : goal.returns-in-Ok-in_order
returns-in-Ok-in_order c = (
  omega arith,
  read_in_order _ c.in-Ok.parts _ _
      c.in-Ok.ensures (eqb-true _ _ (sym c.if-is_empty.ensures)) c.in-Ok-in_order.ensures.0
      c.in-Ok-in_order.ensures.1,
)

pub returns-in-Err : goal.returns-in-Err
returns-in-Err c =
    let within : length c.args.input.now ≤ 4194304 = omega arith in (
      within,
      read_first c.in-Ok.parts _ _ _
          c.in-Ok.ensures (eqb-true _ _ (sym c.if-is_empty.ensures)) within c.in-Err.ensures,
    )
