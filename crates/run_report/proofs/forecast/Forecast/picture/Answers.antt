use Rattle.std.proofs.Common.{◌∙◌, ap, length}
use Rattle.std.proofs.lemmas.Result.{IfOk-weaker}
use Rattle.run_report.proofs.Drawn.{picture_moved}
use Rattle.run_report.proofs.forecast.Forecast.picture.Goals as goal

pub picture_of-requires : goal.picture_of-requires
picture_of-requires c =
    rw (← c.self.view_is)
    (ap length c.deref.ensures.value ∙ c.self.invariant.are_wanted.count)

pub returns : goal.returns
returns c =
    IfOk-weaker c.picture_of.result _ _
    (λ text is. rw (← c.self.view_is)
    (picture_moved _ _ _ text.items c.self.invariant.are_wanted
    (rw (← c.self.view_is, c.deref.ensures.value) at is)))
    c.picture_of.ensures
