use Rattle.std.proofs.Common.{◌∙◌, ap, refl}
use Rattle.std.specs.Global.{Vec}
use Rattle.run_report.specs.declared.report.listing.Keyed.{Keyed}
use Rattle.run_report.proofs.Listings.{keyed_new, listed_none, listed_skip}
use Rattle.run_report.proofs.report.listing.keyed_of.Goals.{then-marks-number+in_ok-push, else-marks-number}
use Rattle.run_report.proofs.report.listing.keyed_of.Goals as goal

pub loop-number-init : goal.loop-number-init
loop-number-init c = rw c.new-keyed.ensures.items (listed_none _ _)

pub loop-number-preserved : goal.loop-number-preserved
loop-number-preserved c =
    elim c.if-marks-number.branch [
      | then-marks-number+in_ok-push w ↦
          keyed_new c.args.plan.now.nodes c.args.marks.now c.loop-number.number
          c.loop-number.keyed.items c.if-marks-number.keyed.items _
          c.len-number-end.ensures.sound.distinct refl w.path-path.ensures.value
          w.if-marks-number.true
          (ap (λ (v : Vec Keyed). v.items) w.keyed-is ∙ w.in_ok-push.ensures.items)
          c.loop-number.invariant
      | else-marks-number w ↦
          rw w.keyed-is
          (listed_skip _ _ _
          _ w.if-marks-number.false
          c.loop-number.invariant)
    ]
