use Rattle.std.proofs.Common.{◌∙◌, ◌+◌, ap, get_or, nat_eq, sym, take, ℕ}
use Rattle.std.specs.List.{list_any}
use Rattle.std.proofs.lemmas.List.{take_more}
use Rattle.valid_table.proofs.FirstRows.{kept, left_out}
use Rattle.valid_table.proofs.path_table.sort_paths.push_found.Goals.{then-has+in_ok-push, else-has}
use Rattle.valid_table.proofs.path_table.sort_paths.push_found.Goals as goal

pub loop-item-preserved : goal.loop-item-preserved
loop-item-preserved c =
    let ordered = c.args.ordered.now in
    let i = c.loop-item.item-index in
    let item : ℕ × ℕ = get_or ordered i (0, 0) in
    let p = λ (k : ℕ × ℕ). list_any (nat_eq k.1) c.args.found.now.rows in
    let start = c.args.keyed.now.items in
    let before = c.loop-item.keyed.items in
    let one = take_more _ i _ c.loop-item-test.true in
    elim c.if-has.branch [
      | then-has+in_ok-push w ↦
          kept p (take i ordered) (take (i + 1) ordered) start before c.if-has.keyed.items item one
          c.loop-item.invariant (sym c.has.ensures ∙ w.if-has.true)
          (ap (λ v. v.items) w.keyed-is ∙ w.in_ok-push.ensures.items)
      | else-has w ↦
          ap (λ v. v.items) w.keyed-is
          ∙ left_out p _ _ _ _ _ one
          c.loop-item.invariant (sym c.has.ensures ∙ w.if-has.false)
    ]
