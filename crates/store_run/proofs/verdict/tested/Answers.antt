use Rattle.sched_core.proofs.ExaminedRecords.{verdicts_may_refer}
use Rattle.store_run.proofs.OutputClosures.{found_unread, references_permitted, tested_badly, tested_lists, tested_well}
use Rattle.store_run.proofs.verdict.tested.Goals as goal

pub closures-requires-clause-count : goal.closures-requires-clause-count
closures-requires-clause-count g c = c.requires.verdict.1.1.count

pub closures-requires-clause-refers : goal.closures-requires-clause-refers
closures-requires-clause-refers g c =
    verdicts_may_refer c.args.reader.now.seen c.args.job.now c.args.permitted.now c.requires.verdict.0
    c.args.checked c.requires.permitted c.requires.verdict.1

pub test_outputs-requires-clause-rising : goal.test_outputs-requires-clause-rising
test_outputs-requires-clause-rising g c = c.requires.permitted.rising

pub test_outputs-requires-clause-count : goal.test_outputs-requires-clause-count
test_outputs-requires-clause-count g c = c.requires.verdict.1.1.count

pub test_outputs-requires-clause-permitted : goal.test_outputs-requires-clause-permitted
test_outputs-requires-clause-permitted g c =
    references_permitted c.args.job.now c.args.permitted.now c.requires.verdict.0 c.args.checked
    c.requires.verdict.1

pub returns-in-Err : goal.returns-in-Err
returns-in-Err g c = λ answer is.
    found_unread c.args.reader.now.seen c.args.job.now c.args.permitted.now c.requires.showable
    c.requires.seeds c.requires.permitted answer c.args.checked c.in-Err.reason is
    c.in-Err.ensures.err

pub test_outputs-requires-clause-closures : goal.test_outputs-requires-clause-closures
test_outputs-requires-clause-closures g c =
    tested_lists c.args.reader.now.seen c.closures.new.reader.seen c.args.job.now
    c.args.permitted.now c.args.checked c.in-Ok-closures.closures.items
    c.in-Ok-closures.ensures.later c.in-Ok-closures.ensures.showable c.requires.seeds
    c.requires.permitted c.in-Ok-closures.ensures.each c.in-Ok-closures.ensures.all
    c.requires.verdict.0 c.requires.verdict.1

pub returns-in-Ok-test_outputs : goal.returns-in-Ok-test_outputs
returns-in-Ok-test_outputs g c = λ answer is.
    tested_well c.args.reader.now.seen c.closures.new.reader.seen c.args.job.now
    c.args.permitted.now c.args.checked c.in-Ok-closures.closures.items
    c.in-Ok-closures.ensures.later c.in-Ok-closures.ensures.showable c.requires.seeds
    c.requires.permitted c.in-Ok-closures.ensures.each c.in-Ok-closures.ensures.all
    c.in-Ok-test_outputs.ensures.ok answer is

pub returns-in-Err-test_outputs : goal.returns-in-Err-test_outputs
returns-in-Err-test_outputs g c = λ answer is.
    tested_badly c.args.reader.now.seen c.closures.new.reader.seen c.args.job.now
    c.args.permitted.now c.args.checked c.in-Ok-closures.closures.items
    c.in-Ok-closures.ensures.later c.in-Ok-closures.ensures.showable c.requires.seeds
    c.requires.permitted c.in-Ok-closures.ensures.each c.in-Ok-closures.ensures.all
    c.in-Err-test_outputs.reason c.in-Err-test_outputs.ensures.err answer is
