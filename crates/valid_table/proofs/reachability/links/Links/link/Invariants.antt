-- The rows so far are linked.
use Rattle.std.proofs.Common.{◌≡◌, length}
use Rattle.valid_table.specs.private.Linking.{AreLinked}
use Rattle.valid_table.specs.Tables.{registrations_of}
use Rattle.valid_table.proofs.reachability.links.Links.link.Given as goal

abbrev pub invariant-loop-row : goal.invariant-loop-row
invariant-loop-row l = record {
  linked : AreLinked (registrations_of l.rows.entries) l.self.ends.items l.self.numbers.items;
  next : length l.self.ends.items ≡ l.row;
}
