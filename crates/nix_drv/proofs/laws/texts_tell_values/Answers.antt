use Rattle.nix_drv.proofs.Texts.{one_value_each, no_text_within}
use Rattle.nix_drv.proofs.laws.texts_tell_values.Goals as goal

pub returns-clause-one_value : goal.returns-clause-one_value
returns-clause-one_value c = one_value_each

pub returns-clause-none_within : goal.returns-clause-none_within
returns-clause-none_within c = no_text_within
