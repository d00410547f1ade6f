use Rattle.run_report.specs.Listing.{AreListed, IsMarked, listed_in}
use Rattle.run_report.proofs.report.listing.keyed_of.Given as goal

-- the marked ones of the derivations so far are listed
abbrev pub invariant-loop-number : goal.invariant-loop-number
invariant-loop-number l = AreListed l.plan.nodes (IsMarked l.marks l.number)
    (listed_in l.keyed.items)
