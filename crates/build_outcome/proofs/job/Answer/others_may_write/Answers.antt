use Rattle.std.proofs.Common.{◌≡◌, ◌∙◌, subst, sym}
use Rattle.std.specs.Prelude.{IsTrue}
use Rattle.std.proofs.lemmas.Option.{same_Some}
use Rattle.build_outcome.specs.declared.job.LeftOutput.{LeftOutput}
use Rattle.build_outcome.proofs.job.Answer.others_may_write.Goals as goal

pub returns-in-Some : goal.returns-in-Some
returns-in-Some c = (
  λ may. (c.in-Some.left.now, c.in-Some.ensures, may),
  λ h.
      let same : h.0 ≡ c.in-Some.left.now =
      same_Some h.0 c.in-Some.left.now (sym h.1 ∙ c.in-Some.ensures) in
      subst (λ (left : LeftOutput). IsTrue left.others_may_write) same h.2,
)
