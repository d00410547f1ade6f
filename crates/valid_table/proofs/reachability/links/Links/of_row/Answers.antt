use Rattle.std.proofs.Common.{◌∙◌, ap, get_or, List, ℕ}
use Rattle.valid_table.proofs.Linking.{part_read}
use Rattle.valid_table.proofs.reachability.links.Links.of_row.Goals as goal

pub returns : goal.returns
returns c =
    let ends = c.args.self.now.ends.items in
    let row = c.args.row in
    let read = c.in_ok-end.ensures.lookup.3 in
    part_read _ _ _
    _ _ _ _ _ _ c.requires
    (rw c.deref.ensures.value at read.0) c.start.ensures
    (read.1 0 ∙ ap (λ (xs : List ℕ). get_or xs row 0) c.deref.ensures.value) c.deref-2.ensures.value
    c.get-2.ensures.lookup.0
