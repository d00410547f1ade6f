use Rattle.ref_scan.proofs.Hearings.{found_at_hearing}
use Rattle.ref_scan.proofs.hearers.tree_scanner.TreeScanner.finish.Goals as goal

pub returns-clause-found : goal.returns-clause-found
returns-clause-found c =
    found_at_hearing c.args.self _ c.in_ok-finish.ensures.found c.in_ok-finish.ensures.are_parts
