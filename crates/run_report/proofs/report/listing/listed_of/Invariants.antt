use Rattle.std.proofs.Common.{◌≡◌, length, take, vec_capacity}
use Rattle.run_report.specs.Listing.{listed_in}
use Rattle.run_report.proofs.report.listing.listed_of.Given as goal

-- those so far are listed, and there is room for all
abbrev pub invariant-loop-one : goal.invariant-loop-one
invariant-loop-one l = record {
  count : length l.listed.items ≡ l.one-index;
  listed : l.listed.items ≡ listed_in (take l.one-index l.keyed);
  room : vec_capacity l.listed ≡ length l.keyed;
}
