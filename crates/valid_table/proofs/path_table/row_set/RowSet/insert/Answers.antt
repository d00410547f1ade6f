use Rattle.std.proofs.Common.{◌≡◌, ◌%◌, ◌/◌, ap, arith, false, get_or, nat_eq, subst, true}
use Rattle.std.specs.Int.{bit_at}
use Rattle.std.proofs.lemmas.List.{get_or_read}
use Rattle.valid_table.specs.private.Marking.{RowSetValue, mark_of}
use Rattle.valid_table.proofs.Marks.{bit_is_clear, bit_is_set, insert_marked, insert_unmarked, marked_more}
use Rattle.valid_table.proofs.path_table.row_set.RowSet.insert.Goals as goal

pub returns-then-word-mark-ne0-clause-rows : goal.returns-then-word-mark-ne0-clause-rows
returns-then-word-mark-ne0-clause-rows c =
    let row = c.args.row in
    let marks = c.self.inside.marks.items in
    let room = ap (λ (f : RowSetValue). f.room) c.self.view_is in
    let read : c.index-word.result.now ≡ get_or marks (row / 64) 0 =
    get_or_read marks (row / 64) _ (omega arith) c.index-word.ensures 0 in
    let set : nat_eq (mark_of marks row) 1 ≡ true =
    subst (λ w. nat_eq (bit_at w (row % 64)) 1 ≡ true) read
    (bit_is_set _ _ (omega arith) c.if-word-mark-ne0.true) in
    rw (← c.self.view_is) (insert_marked _ _ _ c.self.invariant set)

pub invariant_of-self-2 : goal.invariant_of-self-2
invariant_of-self-2 c =
    let row = c.args.row in
    let marks = c.self.inside.marks.items in
    let room = ap (λ (f : RowSetValue). f.room) c.self.view_is in
    let read : c.index-word.result.now ≡ get_or marks (row / 64) 0 =
    get_or_read marks (row / 64) _ (omega arith) c.index-word.ensures 0 in
    let clear : nat_eq (mark_of marks row) 1 ≡ false =
    subst (λ w. nat_eq (bit_at w (row % 64)) 1 ≡ false) read
    (bit_is_clear _ _ (omega arith) c.if-word-mark-ne0.false) in
    rw c.in_ok-push.ensures.items
    (marked_more _ _ _ _ c.self.invariant
    (omega arith) read clear)

pub returns-clause-rows : goal.returns-clause-rows
returns-clause-rows c =
    let row = c.args.row in
    let marks = c.self.inside.marks.items in
    let room = ap (λ (f : RowSetValue). f.room) c.self.view_is in
    let read : c.index-word.result.now ≡ get_or marks (row / 64) 0 =
    get_or_read marks (row / 64) _ (omega arith) c.index-word.ensures 0 in
    let clear : nat_eq (mark_of marks row) 1 ≡ false =
    subst (λ w. nat_eq (bit_at w (row % 64)) 1 ≡ false) read
    (bit_is_clear _ _ (omega arith) c.if-word-mark-ne0.false) in
    rw (c.in_ok-push.ensures.items, ← c.self.view_is)
    (insert_unmarked _ _ _ c.self.invariant clear)

pub returns-clause-distinct : goal.returns-clause-distinct
returns-clause-distinct c = (invariant_of-self-2 c).distinct
