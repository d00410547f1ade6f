use Rattle.std.proofs.Common.{◌≡◌, ◌+◌, ◌++◌, ◌∷◌, [], ◌∙◌, ap, arith, subst, sym, List, ℕ}
use Rattle.valid_table.specs.private.Closing.{path_at}
use Rattle.valid_table.specs.private.Linking.{AreRowsOf}
use Rattle.valid_table.specs.Tables.{registrations_of}
use Rattle.valid_table.specs.Valid.{Registers}
use Rattle.valid_table.proofs.Following.{row_registers}
use Rattle.valid_table.proofs.Linking.{linked_more, number_taken}
use Rattle.valid_table.proofs.RowNumbers.{row_count}
use Rattle.valid_table.proofs.TableRows.{on_ok}
use Rattle.valid_table.proofs.reachability.links.Links.link_row.Goals as goal

pub push_reserved-requires : goal.push_reserved-requires
push_reserved-requires c =
    let room = on_ok _ (sym c.in_ok-ok.ensures.variant) c.reserve.ensures.ok in
    omega (arith, room)

pub returns-clause-linked : goal.returns-clause-linked
returns-clause-linked c =
    let rows = c.args.rows.now.entries in
    let registrations = registrations_of rows in
    let ends = c.args.self.now.ends.items in
    let numbers = c.args.self.now.numbers.items in
    let more = c.in_ok-numbers.numbers.items in
    let pushed : c.push_reserved.new.self.items ≡ ends ++ c.in_ok-end.end ∷ [] =
    c.push_reserved.ensures.items
    ∙ ap (λ (es : List ℕ). es ++ c.in_ok-end.end ∷ []) c.reserve.ensures.items in
    let added : c.extend_from_slice.new.self.items ≡ numbers ++ more =
    (rw (← c.in_ok-ok-2.ensures.variant) at c.extend_from_slice.ensures.items)
    ∙ ap (λ (ns : List ℕ). numbers ++ ns) c.deref.ensures.value in
    let taken : c.in_ok-end.end ≡ c.len.result + c.len-2.result =
    number_taken _ _ _ _ c.try_from.ensures c.in_ok-end.ensures.value in
    rw (pushed, added)
    (linked_more _ _ _ _ _ _
    c.requires.linked (omega (arith, c.requires.within, c.requires.next, row_count rows))
    (omega (
      arith,
      taken,
      c.len.ensures,
      c.len-2.ensures,
      c.in_ok-numbers.numbers.ok.0,
      c.args.self.now.numbers.ok.0,
    ))
    (subst (λ row. Registers registrations (path_at registrations row) c.index.result.now)
    c.requires.next
    (row_registers _ _ _ c.requires.within c.index.ensures))
    (subst (λ (paths : List (List ℕ)). AreRowsOf registrations paths more)
    c.references.ensures.value c.in_ok-numbers.ensures.rows))
