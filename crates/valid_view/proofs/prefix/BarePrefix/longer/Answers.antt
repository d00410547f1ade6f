use Rattle.std.proofs.Common.{ap, arith}
use Rattle.valid_view.proofs.Prefixes.{prefix_shorter}
use Rattle.valid_view.proofs.prefix.BarePrefix.longer.Goals as goal

pub returns-then-self-other-clause-this : goal.returns-then-self-other-clause-this
returns-then-self-other-clause-this c =
    rw (c.again.ensures, ← c.self.view_is, ← c.other.view_is)
    (prefix_shorter c.self.inside.seen.log c.other.inside.seen.log _
    (rw (ap (λ s. s.log) c.again-both.ensures) at c.learn.ensures.2) c.learn.ensures.3
    (omega (arith, c.self.invariant.0, c.other.invariant.0)))

pub returns-clause-that : goal.returns-clause-that
returns-clause-that c =
    rw (c.again-else-self-other.ensures, ← c.self.view_is, ← c.other.view_is)
    (prefix_shorter c.other.inside.seen.log c.self.inside.seen.log _ c.learn.ensures.3
    (rw (ap (λ s. s.log) c.again-both.ensures) at c.learn.ensures.2)
    (omega (arith, c.self.invariant.0, c.other.invariant.0)))
