use Rattle.ref_scan.specs.private.Telling.{Ahead, IsTelling, folders_of, steps_of}
use Rattle.ref_scan.proofs.Tellings.{Root}
use Rattle.ref_scan.proofs.tree_archive.walk.tell.Given as goal

abbrev pub invariant-steps : goal.invariant-steps
invariant-steps g l =
    IsTelling g.H.Hear.heard l.fn.hearer l.hearer (Root l.fn.tree)
    (Ahead (folders_of l.folders.items))

abbrev pub decreases-steps : goal.decreases-steps
decreases-steps g l = steps_of (folders_of l.folders.items)
