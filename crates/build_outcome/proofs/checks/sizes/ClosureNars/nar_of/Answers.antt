use Rattle.std.proofs.Common.{◌∙◌, sym}
use Rattle.build_outcome.specs.private.Sizing.{kept_nar}
use Rattle.build_outcome.proofs.Sizes.{nar_kept, nar_not_kept}
use Rattle.build_outcome.proofs.checks.sizes.ClosureNars.nar_of.Goals as goal

pub returns-in-Some : goal.returns-in-Some
returns-in-Some c = λ known are.
    nar_kept (kept_nar c.args.self.now.own) known c.args.self.now.others.now are c.args.path.now
    c.in-Some.nar.now (sym c.in-Some.ensures.value)

pub returns-in-None : goal.returns-in-None
returns-in-None c = λ known are.
    c.nar_among.ensures
    ∙ nar_not_kept (kept_nar c.args.self.now.own) known c.args.self.now.others.now are
    c.args.path.now (sym c.in-None.ensures.value)
