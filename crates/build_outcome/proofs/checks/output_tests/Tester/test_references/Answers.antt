use Rattle.std.proofs.Common.{◌<◌, arith, length, refl}
use Rattle.std.proofs.lemmas.Option.{slice_get_read}
use Rattle.build_outcome.proofs.Testings.{fixed_failed, fixed_none, fixed_passed}
use Rattle.build_outcome.proofs.UsedPaths.{references_permitted}
use Rattle.build_outcome.proofs.checks.output_tests.Tester.test_references.Goals as goal

pub loop-n-init : goal.loop-n-init
loop-n-init c =
    let self = c.args.self.now in
    fixed_none self.job.now self.permitted.now self.records.now self.asked.now.closures.items

pub first_index-requires-clause-permitted : goal.first_index-requires-clause-permitted
first_index-requires-clause-permitted c = c.requires.testable.rising

pub first_index-requires-clause-paths : goal.first_index-requires-clause-paths
first_index-requires-clause-paths c = (
  c.references.ensures.rising,
  references_permitted _ _ _ _ _ _ _ c.requires.testable
      (slice_get_read _ _ _ _ refl c.loop-n-test.true c.record-item.is)
      c.references.ensures.value,
)

pub returns-in-Some : goal.returns-in-Some
returns-in-Some c =
    let self = c.args.self.now in
    let below : c.loop-n.n < length self.job.now.outputs.items =
    omega (arith, c.loop-n-test.true, c.requires.testable.count) in
    fixed_failed self.job.now self.permitted.now self.records.now self.asked.now.closures.items _ _ _ _
    c.loop-n.invariant below c.requires.fixed
    (slice_get_read _ _ _ _ refl c.loop-n-test.true c.record-item.is)
    (rw c.references.ensures.value at c.in-Some.ensures)

pub loop-n-preserved : goal.loop-n-preserved
loop-n-preserved c =
    let self = c.args.self.now in
    fixed_passed self.job.now self.permitted.now self.records.now self.asked.now.closures.items _ _
    c.loop-n.invariant (slice_get_read _ _ _ _ refl c.loop-n-test.true c.record-item.is)
    (rw c.references.ensures.value at c.in_default.ensures)
