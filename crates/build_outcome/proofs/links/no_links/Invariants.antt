-- So many lists stand there, without links, and there is room for all.
use Rattle.std.proofs.Common.{◌≡◌, length, vec_capacity}
use Rattle.build_outcome.specs.private.Linking.{HaveNoLinks}
use Rattle.build_outcome.proofs.links.no_links.Given as goal

abbrev pub invariant-loop : goal.invariant-loop
invariant-loop l = record {
  count : length l.links.items ≡ l.counter;
  none : HaveNoLinks l.links.items;
  room : vec_capacity l.links ≡ l.count;
}
