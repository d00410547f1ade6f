use Rattle.std.proofs.Common.{◌∙◌, ap, length, refl}
use Rattle.std.proofs.lemmas.Result.{IfOk-weaker}
use Rattle.run_report.proofs.RunReports.{marks_told, told_moved}
use Rattle.run_report.proofs.forecast.Forecast.text.Goals as goal

pub told-requires : goal.told-requires
told-requires c =
    rw (← c.self.view_is)
    (ap length c.deref.ensures.value ∙ c.self.invariant.are_wanted.count)

pub returns : goal.returns
returns c =
    IfOk-weaker c.told.result _ _
    (λ text is. rw (← c.self.view_is)
    (told_moved _ _ _ _ _ _ _ _ text.items
    (marks_told _ _ _ c.self.invariant.are_wanted) (λ d named is none. none) (λ d. refl)
    (rw (← c.self.view_is, c.deref.ensures.value) at is)))
    c.told.ensures
