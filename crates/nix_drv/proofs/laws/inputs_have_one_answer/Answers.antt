use Rattle.nix_drv.proofs.OneAnswer.{one_reading, one_check}
use Rattle.nix_drv.proofs.laws.inputs_have_one_answer.Goals as goal

pub returns-clause-reading : goal.returns-clause-reading
returns-clause-reading c = one_reading

pub returns-clause-check : goal.returns-clause-check
returns-clause-check c = one_check
