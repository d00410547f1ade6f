use Rattle.std.proofs.Common.{subst}
use Rattle.ref_scan.specs.private.Scanned.{Scanned}
use Rattle.ref_scan.proofs.Scanning.{are_hash_parts}
use Rattle.ref_scan.proofs.marks.Marks.found.Goals as goal

pub returns-clause-are_parts : goal.returns-clause-are_parts
returns-clause-are_parts c =
    let s = c.self.inside in
    let sought = c.args.self.now in
    let scanned = subst (λ v. Scanned v s.met.items s.tail.items) c.self.view_is c.self.invariant in
    are_hash_parts sought.permitted sought.parts sought.in_order scanned.of_paths
