use Rattle.std.proofs.Common.{◌≡◌, ◌+◌, ap, arith, length, refl, subst}
use Rattle.ref_scan.proofs.Folders.{left_from}
use Rattle.ref_scan.proofs.Rooms.{Counting, counting_start, counting_full, counting_deep, folder_wide}
use Rattle.ref_scan.proofs.tree.Tree.+room_beside.Goals as goal

pub returns-in_err-checked_sub-in-Dir : goal.returns-in_err-checked_sub-in-Dir
returns-in_err-checked_sub-in-Dir t c =
    rw c.from_residual.ensures
    (folder_wide _ _ _ c.in-Dir.entries c.in-Dir.is (omega arith))

pub loop-entry-init : goal.loop-entry-init
loop-entry-init t c =
    let members : c.in_ok-checked_sub-in-Dir.field-0 + length c.in-Dir.entries.items
    ≡ c.args.room.entries = omega (
      arith,
      c.in_ok-checked_sub-in-Dir.ensures,
      ap length c.deref-entry-items.ensures.value,
    ) in
    rw c.deref-entry-items.ensures.value
    (counting_start _ _ _ _ c.in-Dir.entries c.in-Dir.is members refl)

pub returns-in_err-checked_sub-in-Dir-2 : goal.returns-in_err-checked_sub-in-Dir-2
returns-in_err-checked_sub-in-Dir-2 t c =
    let ahead = left_from c.deref-entry-items.result.now c.loop-entry.entry-index
    c.entry-item.result (omega arith) c.entry-item.is in
    rw c.from_residual-in_err-checked_sub-in-Dir-2.ensures
    (counting_deep _ _ c.loop-entry.left _ c.entry-item.result _ (omega arith)
    (subst (Counting _ _ _ _) ahead c.loop-entry.invariant))

pub returns-in_err-left-in-Dir : goal.returns-in_err-left-in-Dir
returns-in_err-left-in-Dir t c =
    let ahead = left_from c.deref-entry-items.result.now c.loop-entry.entry-index
    c.entry-item.result (omega arith) c.entry-item.is in
    rw c.from_residual-in_err-left-in-Dir.ensures
    (counting_full _ _ _ c.loop-entry.left _ c.entry-item.result _
    (omega (arith, c.in_ok-checked_sub-in-Dir-2.ensures))
    (subst (Counting _ _ _ _) ahead c.loop-entry.invariant) c.in_err-left-in-Dir.ensures)
