use Rattle.std.specs.Cmp.Lexicographic.{bytes_decides}
use Rattle.sched_core.proofs.WholeInputs.{other_first, same_first}
use Rattle.sched_core.proofs.whole_inputs.is_same.Goals as goal

pub returns-then-eq : goal.returns-then-eq
returns-then-eq c =
    same_first c.args.input.now c.args.drv.now c.args.paths.now c.eq.result c.are_same.result
    c.if-eq.true
    (rw c.eq.ensures (bytes_decides c.args.input.now.drv c.args.drv.now))
    (rw (← c.deref.ensures.value) c.are_same.ensures)

pub returns-else-eq : goal.returns-else-eq
returns-else-eq c =
    other_first c.args.input.now c.args.drv.now c.args.paths.now c.eq.result c.if-eq.false
    (rw c.eq.ensures (bytes_decides c.args.input.now.drv c.args.drv.now))
