use Rattle.std.proofs.Common.{◌≡◌, ap}
use Rattle.valid_table.specs.Adding.{AreClosed, AreNew}
use Rattle.valid_table.specs.Entries.{registered_by}
use Rattle.valid_table.specs.Tables.{TableValue, registrations_of}
use Rattle.valid_table.proofs.FirstRows.{first_of_more}
use Rattle.valid_table.proofs.Keys.{keyed_of_more}
use Rattle.valid_table.proofs.Linking.{links_stay}
use Rattle.valid_table.proofs.TakenIn.{once_more, valid_with_more}
use Rattle.valid_table.proofs.path_table.table.Table.register_reserved.Goals as goal

pub push_entry-requires-clause-once : goal.push_entry-requires-clause-once
push_entry-requires-clause-once c =
    let known = registrations_of c.self.inside.rows.entries in
    let same : known ≡ c.args.self.now.registrations =
    ap (λ (t : TableValue). t.registrations) c.self.view_is in
    let new : AreNew known (registered_by c.args.entry) = rw same c.requires.new in
    once_more _ _ c.self.invariant.0
    c.show_registered.ensures.rising new

pub invariant_of-self : goal.invariant_of-self
invariant_of-self c =
    let known = registrations_of c.self.inside.rows.entries in
    let same : known ≡ c.args.self.now.registrations =
    ap (λ (t : TableValue). t.registrations) c.self.view_is in
    let new : AreNew known (registered_by c.args.entry) = rw same c.requires.new in
    let closed : AreClosed known (registered_by c.args.entry) = rw same c.requires.closed in
    rw c.push_entry.ensures.rows (
      once_more _ _ c.self.invariant.0 c.show_registered.ensures.rising new,
      valid_with_more _ _ c.self.invariant.1 closed,
      links_stay _ _ _
          _ c.self.invariant.2,
      first_of_more _ _
          _ _
          c.push_entry.ensures.rows c.self.invariant.3,
      keyed_of_more _ _
          _ c.self.invariant.3 c.self.invariant.4,
    )
