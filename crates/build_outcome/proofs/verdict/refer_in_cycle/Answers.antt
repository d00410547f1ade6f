use Rattle.build_outcome.proofs.verdict.refer_in_cycle.Goals as goal

pub returns : goal.returns
returns c = rw (c.deref-2.ensures.value, c.in_ok-paths.ensures.paths, c.deref.ensures.value) at
    c.is_cyclic.ensures
