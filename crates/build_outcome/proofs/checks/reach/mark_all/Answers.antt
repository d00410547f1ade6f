use Rattle.std.proofs.Common.{◌∙◌, ◌<◌, Some, ap, arith, false, get_or, length, rules, subst}
use Rattle.std.proofs.lemmas.List.{take_all, take_more}
use Rattle.std.proofs.lemmas.Option.{slice_get-get_or}
use Rattle.build_outcome.specs.private.Reaching.{MarksAll}
use Rattle.build_outcome.proofs.Reaches.{marks_new, marks_none, marks_old}
use Rattle.build_outcome.proofs.checks.reach.mark_all.Goals as goal
use Rattle.build_outcome.proofs.checks.reach.mark_all.Goals.{then-not-marks-number+in_ok-push, else-not-marks-number}

pub loop-number-init : goal.loop-number-init
loop-number-init c = search (rules, marks_none)

pub bounds-marks-number : goal.bounds-marks-number
bounds-marks-number c =
    let low = c.requires c.loop-number.number-index 0 c.loop-number-test.true in
    omega (arith, low, c.loop-number.invariant.count)

pub loop-number-preserved : goal.loop-number-preserved
loop-number-preserved c =
    let low = c.requires c.loop-number.number-index 0 c.loop-number-test.true in
    let within : get_or c.args.numbers.now c.loop-number.number-index 0 < length c.loop-number.marks =
    omega (arith, low, c.loop-number.invariant.count) in
    rw (take_more _ _ 0 c.loop-number-test.true)
    (elim c.if-not-marks-number.branch [
      | then-not-marks-number+in_ok-push w ↦
          rw (w.marks-is, w.left-is, w.in_ok-push.ensures.items)
          (marks_new _ _ _ _ _ _ c.loop-number.invariant
          (slice_get-get_or _ _ false within ∙ ap Some w.if-not-marks-number.true))
      | else-not-marks-number w ↦
          rw (w.marks-is, w.left-is)
          (marks_old _ _ _ _ _ _ c.loop-number.invariant
          (slice_get-get_or _ _ false within ∙ ap Some w.if-not-marks-number.false))
    ])

pub returns : goal.returns
returns c = subst (λ numbers. MarksAll numbers c.args.marks.now c.loop-number.marks
    c.args.left.now.items c.loop-number.left.items)
    (take_all c.loop-number.number-index c.args.numbers.now c.loop-number-test.false)
    c.loop-number.invariant
