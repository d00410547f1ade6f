use Rattle.std.proofs.Common.{◌≡◌, ◌++◌, ◌∷◌, [], ap, sym, arith}
use Rattle.valid_table.specs.Adding.{AreClosed, AreNew}
use Rattle.valid_table.specs.Entries.{registered, registered_by}
use Rattle.valid_table.specs.Tables.{JournalValue}
use Rattle.valid_table.proofs.AddedEntries.{journal_push, registered_push}
use Rattle.valid_table.proofs.TakenIn.{once_more, some_elements}
use Rattle.valid_table.proofs.journal.Journal.push_reserved.Goals as goal

pub register_reserved-requires-clause-new : goal.register_reserved-requires-clause-new
register_reserved-requires-clause-new c =
    rw (c.self.invariant.1, ap (λ (j : JournalValue). j.entries) c.self.view_is, c.requires.same)
    c.requires.new

pub register_reserved-requires-clause-closed : goal.register_reserved-requires-clause-closed
register_reserved-requires-clause-closed c =
    rw (c.self.invariant.1, ap (λ (j : JournalValue). j.entries) c.self.view_is, c.requires.same)
    c.requires.closed

pub push_reserved-requires : goal.push_reserved-requires
push_reserved-requires c =
    let some = some_elements _ c.show_registered.ensures.some in
    let room = ap (λ (j : JournalValue). j.room) c.self.view_is in
    omega (arith, c.requires.room, some, room)

pub invariant_of-self : goal.invariant_of-self
invariant_of-self c =
    let entries = c.self.inside.entries.items in
    let entry = c.args.entry in
    let same : entries ≡ c.args.self.now.entries =
    ap (λ (j : JournalValue). j.entries) c.self.view_is in
    let pushed : c.push_reserved.new.self.items ≡ entries ++ entry ∷ [] =
    c.push_reserved.ensures.items in
    let new : AreNew (registered entries) (registered_by entry) = rw same c.requires.new in
    let closed : AreClosed (registered entries) (registered_by entry) = rw same c.requires.closed in
    let once = once_more _ _ c.self.invariant.0.once c.show_registered.ensures.rising
    new in
    rw pushed (
      journal_push _ _ c.self.invariant.0 c.requires.derived closed once,
      rw (c.register_reserved.ensures.registrations, c.self.invariant.1, c.requires.same)
          (sym (registered_push entries entry)),
    )
