use Rattle.std.proofs.Common.{◌∷◌, [], ◌++◌, ◌∙◌, ap, inr}
use Rattle.process_build.proofs.disk.cleanup.Cleanup.clear.Goals as goal

pub returns-clause-noted : goal.returns-clause-noted
returns-clause-noted g c = inr (
  c.in_ok-aside.aside,
  c.in_ok-aside.ensures,
  c.push_reserved.ensures.items
      ∙ ap (λ l. l ++ c.in_ok-aside.aside ∷ []) c.reserve.ensures.items,
)
