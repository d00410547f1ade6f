use Rattle.std.proofs.Common.{◌≡◌, rules, subst}
use Rattle.sched_core.specs.Books.{Leased}
use Rattle.store_run.specs.private.Sharing.{CanGoOn, IsWake, Share}
use Rattle.store_run.specs.declared.turn.Step.{Step}
use Rattle.store_run.specs.declared.turn.Step.TheVariants.{Build}
use Rattle.store_run.specs.declared.turn.Wake.{Wake}
use Rattle.store_run.specs.declared.turn.Wake.TheVariants.{One}
use Rattle.store_run.proofs.shared.Shared.turn.Goals as goal
use Rattle.store_run.proofs.shared.Shared.turn.Goals.{in-Build, in-End, in-Build-2-2, in-Build-2}

-- one is woken where another derivation can begin
wakes_one : {Told : Type 0} (after : Share) (step : Step Told) (lease : Leased Told) (wake : Wake)
    → step ≡ Build lease → wake ≡ One → CanGoOn after → IsWake after step wake
wakes_one after step lease wake builds woken can = rw (builds, woken) can

pub returns-clause-wake : goal.returns-clause-wake
returns-clause-wake g c =
    elim c.match-step.branch [
      | in-Build w ↦ wakes_one c.step-step.new.self c.step-step.result w.in-Build.field-0
          c.match-step.wake w.in-Build.is w.wake-is
          (subst CanGoOn c.self.view_is (w.can_begin.ensures.0 w.if-can_begin.true))
      | in-End w ↦ search rules
      | in-Build-2-2 w ↦ search rules
      | in-Build-2 w ↦ search rules
    ]
