use Rattle.std.proofs.Common.{◌≡◌, ◌∙◌, ◌+◌, ◌++◌, ◌∷◌, [], List, ap, get_or, nat_lt, not, subst, sym, take, ℕ}
use Rattle.std.proofs.lemmas.Bool.{le-ltb, lt-ltb}
use Rattle.std.proofs.lemmas.List.{take_more}
use Rattle.valid_table.specs.private.FirstRows.{rows_of_keyed}
use Rattle.valid_table.specs.private.Keys.{AreKeyed}
use Rattle.valid_table.specs.Tables.{registrations_of}
use Rattle.valid_table.proofs.FirstRows.{after_pushed, kept, left_out}
use Rattle.valid_table.proofs.Keys.{one_more_keyed, path_looked_up}
use Rattle.valid_table.proofs.path_table.sort_paths.push_late.Goals.{then-row-first+in_ok-push, else-row-first}
use Rattle.valid_table.proofs.path_table.sort_paths.push_late.Goals as goal

pub loop-row-preserved : goal.loop-row-preserved
loop-row-preserved c =
    let registrations = registrations_of c.args.rows.now.entries in
    let found = c.args.found.now.rows in
    let first = c.args.first in
    let i = c.loop-row.row-index in
    let row = get_or c.rows-row-items.result.now i 0 in
    let p = λ (r : ℕ). not (nat_lt r first) in
    let start = rows_of_keyed c.args.keyed.now.items in
    let before = c.loop-row.keyed.items in
    let one : take (i + 1) found ≡ take i found ++ row ∷ [] =
    subst (λ (l : List ℕ). take (i + 1) l ≡ take i l ++ row ∷ []) c.rows-row-items.ensures
    (take_more _ i 0 c.loop-row-test.true) in
    elim c.if-row-first.branch [
      | then-row-first+in_ok-push w ↦
          let pushed = ap (λ v. v.items) w.keyed-is ∙ w.in_ok-push.ensures.items in
          record {
            rows = kept p _ _ _ _
                _ _ one c.loop-row.invariant.rows
                (ap not (le-ltb row first w.if-row-first.true))
                (after_pushed _ _ _ pushed);
            keys = one_more_keyed _ _ _ _
                _ _ _
                c.loop-row.invariant.keys c.folder_of-folder.ensures
                (path_looked_up _ _ _ _
                c.keys-paths.ensures.rest w.index.ensures)
                w.key_of.ensures pushed;
          }
      | else-row-first w ↦
          record {
            rows = ap (λ v. rows_of_keyed v.items) w.keyed-is
                ∙ left_out p _ _ _ _ _ one
                c.loop-row.invariant.rows (ap not (lt-ltb row first w.if-row-first.false));
            keys = subst (λ v. AreKeyed registrations v.items) (sym w.keyed-is)
                c.loop-row.invariant.keys;
          }
    ]
