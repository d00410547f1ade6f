use Rattle.std.proofs.Common.{inr}
use Rattle.process_build.specs.Setups.{entry, raw_bytes}
use Rattle.process_build.proofs.Mapped.{if_err}
use Rattle.process_build.proofs.process.setup.filled_var.Goals as goal

pub returns-clause-refused : goal.returns-clause-refused
returns-clause-refused c =
    if_err c.setup_var.result _ _
    (λ reason refused. inr (
      refused.0,
      entry (raw_bytes c.in_ok-key.key) (raw_bytes c.in_ok-value.value),
      (c.in_ok-key.ensures, c.in_ok-value.ensures),
      refused.1,
    ))
    c.setup_var.ensures.refused
