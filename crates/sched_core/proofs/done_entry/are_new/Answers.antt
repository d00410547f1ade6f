use Rattle.valid_table.specs.Entries.{registered}
use Rattle.sched_core.proofs.DoneEntries.{all_new, found_valid, new_more}
use Rattle.sched_core.proofs.done_entry.are_new.Goals as goal

pub returns-then-registers : goal.returns-then-registers
returns-then-registers c =
    found_valid (registered c.args.journal.now.entries) c.args.paths.now c.loop-path.path-index
    c.path-item.result c.loop-path-test.true
    c.path-item.is (c.registers.ensures.0 c.if-registers.true)

pub loop-path-preserved : goal.loop-path-preserved
loop-path-preserved c =
    new_more (registered c.args.journal.now.entries) c.args.paths.now c.loop-path.path-index
    c.path-item.result c.loop-path-test.true
    c.path-item.is c.loop-path.invariant c.registers.result c.if-registers.false c.registers.ensures

pub returns : goal.returns
returns c = all_new (registered c.args.journal.now.entries) c.args.paths.now c.loop-path.path-index
    c.loop-path-test.false
    c.loop-path.invariant
