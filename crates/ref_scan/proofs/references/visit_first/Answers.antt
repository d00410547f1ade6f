use Rattle.std.proofs.Common.{ap}
use Rattle.ref_scan.proofs.Walking.{first_visited}
use Rattle.ref_scan.proofs.references.visit_first.Goals as goal

pub returns-in_ok-visit-clause-folders : goal.returns-in_ok-visit-clause-folders
returns-in_ok-visit-clause-folders c =
    first_visited _ _ _ _ _ _ _ c.in-Some.rest c.in-Some.member.now _ _ c.in-Some.ensures.cases.0
    c.in_ok-push.ensures.items c.requires c.deref.ensures.value
    (ap (λ m. m.ended) c.feed_list.ensures) c.in_ok-visit.ensures.folders
