use Rattle.process_build.proofs.PlainSetups.{plain_setups}
use Rattle.process_build.proofs.laws.plain_setups_are_plain.Goals as goal

pub returns : goal.returns
returns c = plain_setups
