use Rattle.std.proofs.Common.{refl}
use Rattle.std.proofs.lemmas.Option.{slice_get_past, slice_get_read}
use Rattle.sched_core.proofs.WholeInputs.{none_at, told_at}
use Rattle.sched_core.proofs.whole_inputs.is_at.Goals as goal

pub returns-in-Some : goal.returns-in-Some
returns-in-Some c =
    let at = slice_get_read _ _ _ _ refl c.in-Some.ensures.lookup.3.0 c.in-Some.ensures.lookup.1 in
    told_at c.args.whole.now c.args.index c.in-Some.input.now c.is_same.result
    (c.args.drv.now, c.args.paths.now) at c.is_same.ensures

pub returns-in-None : goal.returns-in-None
returns-in-None c =
    none_at c.args.whole.now c.args.index (c.args.drv.now, c.args.paths.now)
    (slice_get_past _ _ c.in-None.ensures.lookup.3)
