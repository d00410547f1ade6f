use Rattle.std.proofs.Common.{◌<◌, ◌∙◌, ap, arith, length, refl, subst, sym}
use Rattle.std.proofs.lemmas.Option.{slice_get_read}
use Rattle.valid_table.specs.PathInfos.{PathInfo}
use Rattle.build_outcome.proofs.SizeTests.{no_nar, no_size_limit, past_limit, within_limit}
use Rattle.build_outcome.proofs.checks.output_tests.Tester.test_size.Goals as goal

pub returns-in_default : goal.returns-in_default
returns-in_default c =
    let self = c.args.self.now in
    no_size_limit self.job.now self.permitted.now self.records.now self.asked.now.closures.items _
    (sym (c.in_default.ensures self.job.now c.requires.checks))

pub returns-in_default-nar : goal.returns-in_default-nar
returns-in_default-nar c =
    let self = c.args.self.now in
    let low : c.args.n < length self.records.now =
    omega (arith, c.requires.within, c.requires.testable.count) in
    no_nar self.job.now self.permitted.now self.records.now self.asked.now.closures.items _ _
    (slice_get_read _ _ _ _ refl low c.index-self-n.is)
    (ap (λ (i : PathInfo). i.nar) c.index-self-n.is ∙ sym c.in_default-nar.ensures)

pub returns-then-limit-size : goal.returns-then-limit-size
returns-then-limit-size c =
    let self = c.args.self.now in
    let low : c.args.n < length self.records.now =
    omega (arith, c.requires.within, c.requires.testable.count) in
    past_limit self.job.now self.permitted.now self.records.now self.asked.now.closures.items _ _ _
    _ (sym (c.in-Some.ensures self.job.now c.requires.checks))
    (slice_get_read _ _ _ _ refl low c.index-self-n.is)
    (ap (λ (i : PathInfo). i.nar) c.index-self-n.is ∙ sym c.in-Some-nar.ensures)
    (omega (arith, c.if-limit-size.true, c.size.ensures.value))

pub returns : goal.returns
returns c =
    let self = c.args.self.now in
    let low : c.args.n < length self.records.now =
    omega (arith, c.requires.within, c.requires.testable.count) in
    within_limit self.job.now self.permitted.now self.records.now self.asked.now.closures.items _ _
    _ _ (sym (c.in-Some.ensures self.job.now c.requires.checks))
    (slice_get_read _ _ _ _ refl low c.index-self-n.is)
    (ap (λ (i : PathInfo). i.nar) c.index-self-n.is ∙ sym c.in-Some-nar.ensures)
    (λ past. absurd (omega (arith, past, c.if-limit-size.false, c.size.ensures.value)))
